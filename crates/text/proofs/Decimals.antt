-- A number can be read back from its decimal, and a decimal has neither a space nor the end of a line. Assumes nothing.
use Prim.Native.Nat.{ℕ, zero, suc, ◌+◌, ◌*◌, ◌-◌, ◌/◌, ◌%◌, ◌^◌, ◌≤◌, ◌<◌}
use mathlib.Core.Path.{◌≡◌, refl, sym, ap, ◌∙◌}
use mathlib.Core.Bool.{true}
use mathlib.Core.List.{List, [], ◌∷◌, ◌++◌}
use mathlib.Core.Logic.{⊎_elim}
use native.Mathlib.Nat.{pow-suc}
use native.Mathlib.Omega.{arith}
use lib.Dec.{ltb}
use borrow.Author.Tests.{lt-ltb, le-ltb}
use Rattle.laws.specs.Lists.{every}
use Rattle.laws.proofs.Numbers.{lt-or-ge, and_intro}
use Rattle.laws.proofs.Lists.{every-append-intro}
use Rattle.text.specs.Text.{glyph, digits, digit_count, decimal}
use Rattle.text.proofs.Numerals.{digit_count-small, digit_count-step}

-- ---- a decimal read back

-- the number whose digits are those of `acc` and then these
value_from : ℕ → List ℕ → ℕ
value_from acc [] = acc
value_from acc (g ∷ rest) = value_from (acc * 10 + (g - 48)) rest

value-append : (acc : ℕ) (a b : List ℕ) → value_from acc (a ++ b) ≡ value_from (value_from acc a) b
unfolding value_from
value-append acc [] b = refl
value-append acc (g ∷ a) b = value-append (acc * 10 + (g - 48)) a b

glyph-low : (d : ℕ) → d < 10 → glyph d ≡ 48 + d
unfolding glyph
glyph-low d h = rw (lt-ltb d 10 h)

value-digits : (k x : ℕ) → x < 10 ^ k → value_from 0 (digits 10 k x) ≡ x
unfolding digits value_from
value-digits zero x h = omega arith
value-digits (suc k) x h =
    let less : x / 10 < 10 ^ k = omega (arith, pow-suc 10 k) in
    let last : glyph (x % 10) ≡ 48 + x % 10 = glyph-low (x % 10) (omega arith) in
    value-append 0 (digits 10 k (x / 10)) (glyph (x % 10) ∷ [])
    ∙ rw (value-digits k (x / 10) less, last) (omega arith)

-- a number has as many digits as it needs
below_power : (most x : ℕ) → x ≤ most → x < 10 ^ digit_count x
below_power zero x h = rw (digit_count-small x (omega arith)) (omega arith)
below_power (suc most) x h =
    ⊎_elim (λ small. rw (digit_count-small x small) (omega arith))
    (λ big.
    let rest : x / 10 < 10 ^ digit_count (x / 10) = below_power most (x / 10) (omega arith) in
    rw (digit_count-step x big) (omega (arith, pow-suc 10 (digit_count (x / 10)))))
    (lt-or-ge x 10)

value-decimal : (x : ℕ) → value_from 0 (decimal x) ≡ x
unfolding decimal
value-decimal x = value-digits (digit_count x) x (below_power x x (omega arith))

-- two numbers with the same decimal are the same
pub decimal_injective : (x y : ℕ) → decimal x ≡ decimal y → x ≡ y
decimal_injective x y e = sym (value-decimal x) ∙ (ap (value_from 0) e ∙ value-decimal y)

-- ---- no byte of a decimal is a space or the end of a line: all are above 32

glyph-high : (d : ℕ) → 32 < glyph d
unfolding glyph
glyph-high d = ⊎_elim (λ low. rw (lt-ltb d 10 low) (omega arith)) (λ high. rw (le-ltb d 10 high) (omega arith)) (lt-or-ge d 10)

digits-plain : (base k x : ℕ) → every (ltb 32) (digits base k x) ≡ true
unfolding digits every
digits-plain base zero x = refl
digits-plain base (suc k) x =
    every-append-intro (ltb 32) (digits base k (x / base)) (glyph (x % base) ∷ []) (digits-plain base k (x / base))
    (and_intro (lt-ltb 32 (glyph (x % base)) (glyph-high (x % base))) refl)

pub decimal-plain : (x : ℕ) → every (ltb 32) (decimal x) ≡ true
unfolding decimal
decimal-plain x = digits-plain 10 (digit_count x) x
