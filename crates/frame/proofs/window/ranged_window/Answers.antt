-- `frame::window::ranged_window` meets its contract. Assumes nothing.
use native.Mathlib.Omega.{arith}
use lib.ListN.{get_or}
use borrow.Author.Tests.{lt-ltb, le-ltb}
use Rattle.model.specs.Frame.{two_at}
use Rattle.frame.proofs.window.ranged_window.Goals as goal

pub overflow_cast-w : goal.overflow_cast-w
overflow_cast-w c = omega (arith, c.shared_slice_known-1.given 1)

pub returns-then-n-w : goal.returns-then-n-w
returns-then-n-w c = let a = c.args in rw (le-ltb (get_or a.w.now 1 0) a.n c.if-n-w.true)

pub overflow_cast-result : goal.overflow_cast-result
overflow_cast-result c = omega (arith, c.shared_slice_known-2-1.given 2)

pub overflow_cast-result-2 : goal.overflow_cast-result-2
overflow_cast-result-2 c = omega (arith, c.shared_slice_known-3-1.given 3)

pub overflow_mul-result : goal.overflow_mul-result
overflow_mul-result c = omega (arith, c.shared_slice_known-3-1.given 3)

pub overflow_add-result-2 : goal.overflow_add-result-2
overflow_add-result-2 c = omega (arith, c.shared_slice_known-3-1.given 2, c.shared_slice_known-3-1.given 3)

pub returns : goal.returns
unfolding two_at
returns c =
    let a = c.args in
    rw (lt-ltb (get_or a.w.now 1 0) a.n c.if-n-w.false)
