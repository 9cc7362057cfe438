-- `batch::next_at` meets its contract. Assumes nothing.
use native.Mathlib.Omega.{arith}
use Rattle.batch.specs.Walk.{next_at}
use Rattle.batch.proofs.next_at.Goals as goal

pub returns : goal.returns
unfolding next_at
returns c = omega arith
