-- The limits of a setup as facts, both ways, and the bounds of the lengths that follow from them.
-- Assumes nothing.
use Prim.Native.Nat.{ℕ, ◌+◌, ◌*◌, ◌≤◌}
use native.Mathlib.Nat.{mul-le-mul}
use native.Mathlib.Omega.{arith}
use mathlib.Core.Path.{◌≡◌, refl, sym}
use mathlib.Core.Bool.{Bool, true, false, ◌&&◌}
use lib.Dec.{leb}
use borrow.Author.Tests.{le-leb, leb-true}
use Rattle.laws.specs.Lists.{within}
use Rattle.laws.proofs.Numbers.{false-of-no, same_test}
use Rattle.model.specs.Setup.{Setup, in_limits, least_modulus, longest_frame, width, depth}
use Rattle.model.specs.Long.{long_limits}
use Rattle.lemmas.proofs.Bounds.{LongLimits}
use Rattle.lemmas.proofs.Questions.{long-limits-from, long-limits-to}

-- a setup past a limit other than that of B is refused
pub past-limit : (s : Setup) → (LongLimits s → ⊥) → false ≡ long_limits s
past-limit s h = sym (false-of-no (long_limits s) (λ e. h (long-limits-from s e)))

-- within the limits of n and ε, the delay limit decides
pub delta-decides : (s : Setup) → (s.delta ≤ 64 → LongLimits s) → leb s.delta 64 ≡ long_limits s
delta-decides s h =
    same_test (leb s.delta 64) (long_limits s) (λ e. long-limits-to s (h (leb-true s.delta 64 e)))
    (λ e. le-leb s.delta 64 (long-limits-from s e).delta-most)

-- and B behind them
pub modulus-last : (s : Setup) → in_limits s ≡ (long_limits s && within (least_modulus s.epsilon s.delta) 65535 s.modulus)
unfolding in_limits long_limits
modulus-last s =
    and_last (within 1 16 s.n) (within 1 16 s.epsilon) (leb s.delta 64) (within (least_modulus s.epsilon s.delta) 65535 s.modulus)
  where
    and_last : (a b c d : Bool) → (a && (b && (c && d))) ≡ ((a && (b && c)) && d)
    and_last false b c d = refl
    and_last true false c d = refl
    and_last true true c d = refl

-- the largest number of frames held
pub depth-most : (n epsilon delta : ℕ) → n ≤ 16 → epsilon ≤ 16 → delta ≤ 64 → n * (delta + 3 * epsilon) ≤ 1792
depth-most n epsilon delta hn he hd =
    let h : delta + 3 * epsilon ≤ 112 = omega arith in
    mul-le-mul hn h

-- the largest hold-back buffer, without its two-byte count
pub frames-most : (l d n epsilon delta : ℕ) → l ≡ longest_frame epsilon → d ≡ depth n epsilon delta → n ≤ 16 → epsilon ≤ 16
    → delta ≤ 64 → l * d ≤ 127232
unfolding longest_frame width depth
frames-most l d n epsilon delta el ed hn he hd =
    let hl : l ≤ 71 = omega arith in
    let hf : d ≤ 1792 = omega (arith, depth-most n epsilon delta hn he hd) in
    mul-le-mul hl hf
