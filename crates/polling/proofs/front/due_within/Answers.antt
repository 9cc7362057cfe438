-- `polling::front::due_within` meets its contract. Assumes nothing.
use Prim.Native.Nat.{ℕ, ◌+◌}
use mathlib.Core.Path.{ap}
use lib.Dec.{leb}
use Rattle.model.specs.Poll.{due_within}
use Rattle.polling.proofs.front.due_within.Goals as goal

pub returns : goal.returns
unfolding due_within
returns c =
    let a = c.args in
    ap (λ (due : ℕ). leb due (a.setup.modulus + a.d)) c.due_of.ensures.0
