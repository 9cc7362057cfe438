use native.Mathlib.Omega.{arith}
use Prim.Native.Nat.{ℕ, ◌+◌, ◌-◌, ◌*◌}
use mathlib.Core.Path.{◌≡◌, ap, ap₂, ◌∙◌}
use lib.ListN.{get_or}
use Rattle.splice.proofs.Laws.{eight-number}
use Rattle.splice.proofs.eight_at.Goals as goal

-- src/lib.rt:131:5
pub overflow_mul-result : goal.overflow_mul-result
overflow_mul-result c = omega (arith, c.four_at.ensures.1)

-- src/lib.rt:131:5
pub overflow_add-result : goal.overflow_add-result
overflow_add-result c = omega (arith, c.four_at.ensures.1, c.four_at-2.ensures.1)

-- src/lib.rt:127:1
pub returns : goal.returns
returns c =
    ap₂ (λ (a b : ℕ). a * 4294967296 + b) c.four_at.ensures.0 c.four_at-2.ensures.0
    ∙ eight-number
    (λ k. get_or c.args.s.now (c.args.at + (7 - k)) 0)
    (λ k. get_or c.args.s.now (c.args.at + 4 + (3 - k)) 0)
    (λ k. get_or c.args.s.now (c.args.at + (3 - k)) 0)
    (λ k h. let e : c.args.at + 4 + (3 - k) ≡ c.args.at + (7 - k) = omega arith in ap (λ (i : ℕ). get_or c.args.s.now i 0) e)
    (λ k h. let e : c.args.at + (3 - k) ≡ c.args.at + (7 - (4 + k)) = omega arith in ap (λ (i : ℕ). get_or c.args.s.now i 0) e)
