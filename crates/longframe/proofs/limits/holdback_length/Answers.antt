-- `longframe::limits::holdback_length` meets its contract. Assumes nothing.
use Prim.Native.Nat.{◌≤◌}
use native.Mathlib.Omega.{arith}
use Rattle.model.specs.Setup.{width}
use Rattle.model.specs.Long.{longest_long}
use Rattle.longframe.proofs.limits.holdback_length.Goals.{After-longest_frame}
use Rattle.longframe.proofs.limits.holdback_length.Goals as goal

bytes_most : (c : After-longest_frame) → c.longest_frame.result ≤ 77
unfolding longest_long width
bytes_most c = omega (arith, c.longest_frame.ensures)

pub overflow_mul-result : goal.overflow_mul-result
overflow_mul-result c = omega (arith, bytes_most (goal.at.overflow_mul-result c).After-longest_frame)

pub overflow_add-result : goal.overflow_add-result
overflow_add-result c = omega (arith, bytes_most (goal.at.overflow_add-result c).After-longest_frame)

pub returns : goal.returns
returns c = rw c.longest_frame.ensures
