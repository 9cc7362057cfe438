-- `widerframe::form::check` meets its contract: by the width of the frame, then by the limits of v. Assumes nothing.
use Prim.Native.Nat.{ℕ, ◌-◌}
use mathlib.Core.Path.{ap, ap₂, sym, ◌∙◌}
use lib.Dec.{ltb}
use lib.ListN.{get_or}
use Rattle.lemmas.proofs.Questions.{limits-to}
use Rattle.model.specs.Setup.{in_limits}
use Rattle.model.specs.Frame.{decode}
use Rattle.model.specs.Schedule.{own_limits}
use Rattle.setup.specs.Views.{setup_of}
use Rattle.pairs.specs.Views.{schedule_of, pair_of}
use Rattle.pairs.proofs.Sides.{pair-good}
use Rattle.widerframe.specs.Own.{close_by}
use Rattle.widerframe.proofs.Widths.{own-side}
use Rattle.widerframe.proofs.form.check.Goals as goal

pub check-number-requires : goal.check-number-requires
check-number-requires c =
    let g = schedule_of c.args.p in
    let count = get_or c.args.s.now 4 0 - 1 in
    ap in_limits c.side_in.ensures ∙ limits-to (pair_of g count) (pair-good g c.requires count)

pub returns : goal.returns
unfolding decode
returns c =
    let bytes = c.args.s.now in
    let g = schedule_of c.args.p in
    c.close_by.ensures
    ∙ ap₂ (λ (k x : ℕ). close_by k (ltb x (own_limits g).epsilon)) c.check-number.ensures (c.c_of.ensures 0)
    ∙ sym (own-side g c.requires (setup_of c.side_in.result) bytes c.side_in.ensures)
