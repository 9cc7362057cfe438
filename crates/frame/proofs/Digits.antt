-- The newest counts of a frame, read as one number: of the eight bytes that end at one of them, those that are none of them are divided off.
-- Assumes nothing.
use Prim.Native.Nat.{ℕ, zero, suc, ◌+◌, ◌*◌, ◌-◌, ◌/◌, ◌^◌, ◌<◌}
use native.Mathlib.Nat.{mul-suc, pow-suc, min-le_left, min-le_right}
use native.Mathlib.Omega.{arith}
use mathlib.Core.Path.{◌≡◌, refl, sym, ap, ap₂, ◌∙◌}
use mathlib.Core.List.{List}
use lib.ListN.{drop, get_or}
use lib.Pow.{pow-add}
use lib.Seq.{get_or-drop, get_or-take}
use Rattle.laws.specs.Lists.{placed_at}
use Rattle.laws.specs.Lex.{number_of}
use Rattle.laws.proofs.Lex.{number-ext, number-front}
use Rattle.model.specs.Setup.{width}
use Rattle.model.specs.Frame.{counts_of}
use Rattle.lemmas.proofs.Counts.{count-zero}
use Rattle.frame.specs.Newest.{taken, newest_from}

-- eight bits are a digit
bits : (b : ℕ) → 2 ^ (8 * b) ≡ 256 ^ b
bits zero = refl
bits (suc b) = rw (mul-suc 8 b, pow-add 2 (8 * b) 8, bits b) (sym (pow-suc 256 b))

-- a count by its place in the frame
count-there : (epsilon i : ℕ) (s : List ℕ) → i < 2 * epsilon → get_or s (6 + i) 0 ≡ placed_at 0 (counts_of epsilon s) i
unfolding counts_of width
count-there epsilon i s h =
    sym (count-zero (counts_of epsilon s) i ∙ get_or-take (2 * epsilon) (drop 6 s) i 0 h ∙ get_or-drop 6 s i 0)

-- the j-th of the eight bytes
place : (epsilon c k j : ℕ) → j < 8 → k + j < epsilon → 6 + epsilon + c - 7 - k + (7 - j) ≡ 6 + (epsilon + c - k - j)
place epsilon c k j h l = omega arith

inside : (epsilon c k j : ℕ) → c < epsilon → k + j < epsilon → epsilon + c - k - j < 2 * epsilon
inside epsilon c k j h l = omega arith

pub newest-read :
    (epsilon c k x left : ℕ) (s : List ℕ) → c < epsilon → k < epsilon → ((i : ℕ) → get_or s i 0 < 256)
    → x ≡ number_of 8 (λ j. get_or s (6 + epsilon + c - 7 - k + (7 - j)) 0) → left ≡ 8 * (8 - taken epsilon k)
    → x / 2 ^ left ≡ newest_from epsilon c k (counts_of epsilon s)
unfolding newest_from
newest-read epsilon c k x left s hc hk bytes ex el =
    let m : ℕ = taken epsilon k in
    let whole : m + (8 - m) ≡ 8 = omega arith in
    let digit : ℕ → ℕ = λ j. get_or s (6 + epsilon + c - 7 - k + (7 - j)) 0 in
    ap₂ (λ (y z : ℕ). y / z) (ex ∙ ap (λ (n : ℕ). number_of n digit) (sym whole)) (ap (λ (n : ℕ). 2 ^ n) el ∙ bits (8 - m))
    ∙ number-front m (8 - m) digit (λ j. bytes (6 + epsilon + c - 7 - k + (7 - j)))
    ∙ number-ext m digit (λ j. placed_at 0 (counts_of epsilon s) (epsilon + c - k - j))
    (λ j t.
    let low : j < 8 = omega (arith, min-le_left 8 (epsilon - k)) in
    let near : k + j < epsilon = omega (arith, min-le_right 8 (epsilon - k)) in
    ap (λ (i : ℕ). get_or s i 0) (place epsilon c k j low near) ∙ count-there epsilon (epsilon + c - k - j) s (inside epsilon c k j hc near))
