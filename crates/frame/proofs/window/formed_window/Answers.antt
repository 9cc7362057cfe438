-- `frame::window::formed_window` meets its contract. Assumes nothing.
use native.Mathlib.Omega.{arith}
use Prim.Native.Nat.{◌+◌, ◌*◌}
use Rattle.frame.proofs.Windows.{long-no, second-no, first-decides}
use Rattle.frame.proofs.window.formed_window.Goals as goal

pub bounds-w-epsilon : goal.bounds-w-epsilon
bounds-w-epsilon c = omega arith

pub overflow_cast-w : goal.overflow_cast-w
overflow_cast-w c = omega (arith, c.shared_slice_known-1.given (6 + 2 * c.args.epsilon))

pub returns-then-w-epsilon-gt-LONGEST_PAYLOAD : goal.returns-then-w-epsilon-gt-LONGEST_PAYLOAD
returns-then-w-epsilon-gt-LONGEST_PAYLOAD c = long-no c.args.epsilon c.args.w.now (omega arith)

pub overflow_cast-w-2 : goal.overflow_cast-w-2
overflow_cast-w-2 c = omega (arith, c.shared_slice_known-2-1.given 4)

pub returns-then-w-epsilon : goal.returns-then-w-epsilon
returns-then-w-epsilon c = second-no c.args.epsilon c.args.w.now (omega arith)

pub returns : goal.returns
returns c = first-decides c.args.epsilon c.args.w.now c.requires.1 (omega arith) (omega arith)
