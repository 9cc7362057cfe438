use native.Mathlib.Omega.{arith}
use Prim.Native.Nat.{ℕ, ◌+◌, ◌-◌}
use native.Mathlib.Nat.{add-zero}
use mathlib.Core.Path.{ap, sym}
use lib.ListN.{get_or}
use Rattle.splice.proofs.Laws.{four-number}
use Rattle.splice.proofs.four_at.Goals as goal

-- src/lib.rt:123:7
pub overflow_cast-result : goal.overflow_cast-result
overflow_cast-result c = omega (arith, c.shared_slice_known-1.given (c.args.at + 3))

-- src/lib.rt:123:7
pub overflow_mul-result : goal.overflow_mul-result
overflow_mul-result c = omega (arith, c.shared_slice_known-1.given (c.args.at + 3))

-- src/lib.rt:123:32
pub overflow_cast-result-2 : goal.overflow_cast-result-2
overflow_cast-result-2 c = omega (arith, c.shared_slice_known-2-1.given (c.args.at + 2))

-- src/lib.rt:123:7
pub overflow_add-result-3 : goal.overflow_add-result-3
overflow_add-result-3 c = omega (arith, c.shared_slice_known-2-1.given (c.args.at + 3), c.shared_slice_known-2-1.given (c.args.at + 2))

-- src/lib.rt:123:6
pub overflow_mul-result-2 : goal.overflow_mul-result-2
overflow_mul-result-2 c = omega (arith, c.shared_slice_known-2-1.given (c.args.at + 3), c.shared_slice_known-2-1.given (c.args.at + 2))

-- src/lib.rt:123:58
pub overflow_cast-result-3 : goal.overflow_cast-result-3
overflow_cast-result-3 c = omega (arith, c.shared_slice_known-3-1.given (c.args.at + 1))

-- src/lib.rt:123:6
pub overflow_add-result-5 : goal.overflow_add-result-5
overflow_add-result-5 c = omega (arith, c.shared_slice_known-3-1.given (c.args.at + 3), c.shared_slice_known-3-1.given (c.args.at + 2), c.shared_slice_known-3-1.given (c.args.at + 1))

-- src/lib.rt:123:5
pub overflow_mul-result-3 : goal.overflow_mul-result-3
overflow_mul-result-3 c = omega (arith, c.shared_slice_known-3-1.given (c.args.at + 3), c.shared_slice_known-3-1.given (c.args.at + 2), c.shared_slice_known-3-1.given (c.args.at + 1))

-- src/lib.rt:123:84
pub overflow_cast-result-4 : goal.overflow_cast-result-4
overflow_cast-result-4 c = omega (arith, c.shared_slice_known-4-1.given c.args.at)

-- src/lib.rt:123:5
pub overflow_add-result-6 : goal.overflow_add-result-6
overflow_add-result-6 c = omega (arith, c.shared_slice_known-4-1.given (c.args.at + 3), c.shared_slice_known-4-1.given (c.args.at + 2), c.shared_slice_known-4-1.given (c.args.at + 1), c.shared_slice_known-4-1.given c.args.at)

-- src/lib.rt:119:1
pub returns : goal.returns
returns c = (
  four-number
      (λ k. get_or c.args.s.now (c.args.at + (3 - k)) 0)
      (get_or c.args.s.now c.args.at 0)
      (ap (λ (i : ℕ). get_or c.args.s.now i 0) (sym (add-zero c.args.at))),
  omega (arith, c.shared_slice_known-4-1.given (c.args.at + 3), c.shared_slice_known-4-1.given (c.args.at + 2), c.shared_slice_known-4-1.given (c.args.at + 1), c.shared_slice_known-4-1.given c.args.at),
)
