-- `setup::limits::depth` meets its contract.
-- Assumes nothing.
use mathlib.Core.Path.{refl}
use native.Mathlib.Omega.{arith}
use Rattle.model.specs.Setup.{depth}
use Rattle.setup.proofs.InLimits.{depth-most}
use Rattle.setup.proofs.limits.depth.Goals as goal

pub overflow_mul-result-2 : goal.overflow_mul-result-2
overflow_mul-result-2 c = omega (arith, depth-most c.args.n c.args.epsilon c.args.delta c.requires.0 c.requires.1.0 c.requires.1.1)

pub returns : goal.returns
unfolding depth
returns c = refl
