-- `splice::two_at` meets its contract. Assumes nothing.
use native.Mathlib.Omega.{arith}
use Rattle.model.specs.Frame.{two_at}
use Rattle.splice.proofs.two_at.Goals as goal

pub returns : goal.returns
unfolding two_at
returns c = omega arith
