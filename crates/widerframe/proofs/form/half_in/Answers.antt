-- `widerframe::form::half_in` meets its contract. Assumes nothing.
use Prim.Native.Nat.{◌-◌}
use mathlib.Core.Path.{ap, ◌∙◌}
use lib.ListN.{get_or}
use Rattle.model.specs.Setup.{Setup}
use Rattle.pairs.specs.Views.{schedule_of}
use Rattle.pairs.proofs.Sides.{pair-half}
use Rattle.widerframe.proofs.form.half_in.Goals as goal

pub returns : goal.returns
returns c =
    let a = c.args in
    ap (λ (s : Setup). s.epsilon) c.side_in-side.ensures ∙ pair-half (schedule_of a.p) (get_or a.s.now 4 0 - 1)
