-- `pairs::limits::old_due` meets its contract. Assumes nothing.
use mathlib.Core.Path.{ap}
use Prim.Native.Nat.{ℕ}
use native.Mathlib.Omega.{arith}
use lib.Dec.{ltb}
use Rattle.model.specs.Schedule.{old_due}
use Rattle.pairs.proofs.limits.old_due.Goals as goal

pub sum_due-requires : goal.sum_due-requires
sum_due-requires c = omega arith

pub returns : goal.returns
unfolding old_due
returns c = ap (λ (n : ℕ). ltb n c.args.p.change) c.sum_due.ensures
