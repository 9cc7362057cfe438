-- `widerframe::form::check_window` meets its contract. Assumes nothing.
use Prim.Native.Nat.{ℕ}
use mathlib.Core.Path.{ap₂, sym, ◌∙◌}
use lib.Dec.{ltb}
use Rattle.model.specs.Frame.{decode}
use Rattle.model.specs.Schedule.{own_limits}
use Rattle.pairs.specs.Views.{schedule_of}
use Rattle.widerframe.specs.Own.{close_by}
use Rattle.widerframe.proofs.Widths.{own-window}
use Rattle.widerframe.proofs.form.check_window.Goals as goal

pub returns : goal.returns
unfolding decode
returns c =
    let g = schedule_of c.args.p in
    c.close_by.ensures
    ∙ ap₂ (λ (k x : ℕ). close_by k (ltb x (own_limits g).epsilon)) c.check_side-number.ensures (c.c_of.ensures 0)
    ∙ sym (own-window g c.args.w.now c.requires.paired.0)
