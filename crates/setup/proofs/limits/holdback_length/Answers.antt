-- `setup::limits::holdback_length` meets its contract: the product is far below what a `usize` holds.
-- Assumes nothing.
use Prim.Native.Nat.{◌*◌, ◌≤◌}
use native.Mathlib.Omega.{arith}
use Rattle.model.specs.Setup.{holdback_length}
use Rattle.setup.proofs.InLimits.{frames-most}
use Rattle.setup.proofs.limits.holdback_length.Goals.{After-depth}
use Rattle.setup.proofs.limits.holdback_length.Goals as goal

bytes_most : (c : After-depth) → c.longest_frame.result * c.depth.result ≤ 127232
bytes_most c =
    frames-most c.longest_frame.result c.depth.result c.args.n c.args.epsilon
    c.args.delta c.longest_frame.ensures c.depth.ensures c.requires.0
    c.requires.1.0 c.requires.1.1

pub overflow_mul-result : goal.overflow_mul-result
overflow_mul-result c = omega (arith, bytes_most (goal.at.overflow_mul-result c).After-depth)

pub overflow_add-result : goal.overflow_add-result
overflow_add-result c = omega (arith, bytes_most (goal.at.overflow_add-result c).After-depth)

pub returns : goal.returns
unfolding holdback_length
returns c = rw (c.longest_frame.ensures, c.depth.ensures)
