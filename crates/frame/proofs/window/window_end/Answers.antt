-- `frame::window::window_end` meets its contract. Assumes nothing.
use native.Mathlib.Omega.{arith}
use Prim.Native.Nat.{◌+◌, ◌*◌}
use Rattle.frame.proofs.Windows.{end_is}
use Rattle.frame.proofs.window.window_end.Goals as goal

pub overflow_cast-result : goal.overflow_cast-result
overflow_cast-result c = omega (arith, c.shared_slice_known-1.given (6 + 2 * c.args.epsilon))

pub overflow_add-result-2 : goal.overflow_add-result-2
overflow_add-result-2 c = omega (arith, c.shared_slice_known-1.given (6 + 2 * c.args.epsilon))

pub returns : goal.returns
returns c = omega (arith, end_is c.args.epsilon c.args.w.now)
