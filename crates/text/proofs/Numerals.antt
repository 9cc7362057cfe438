-- Digits: how many a number has, and the loop that writes them from the last on. Assumes nothing.
use Prim.Native.Nat.{ℕ, zero, suc, ◌+◌, ◌-◌, ◌*◌, max, ◌/◌, ◌%◌, ◌^◌, ◌≤◌, ◌<◌}
use mathlib.Core.Path.{◌≡◌, refl, sym, ap, ◌∙◌}
use mathlib.Core.List.{List, [], ◌∷◌, ◌++◌}
use mathlib.Core.Logic.{⊎_elim}
use native.Mathlib.Nat.{pow-suc, one-le-pow}
use native.Mathlib.Numerals.{add-one}
use native.Mathlib.Omega.{arith}
use lib.ListN.{length, take, get_or, length-append}
use lib.Seq.{get_or-take, get_or_at, take-take, take_at}
use borrow.Author.Tests.{lt-ltb, le-ltb}
use Rattle.laws.proofs.Numbers.{lt-or-ge}
use Rattle.text.specs.Text.{glyph, digits, count_by, digit_count, decimal}

-- ---- how many

count_by-small : (steps x : ℕ) → x < 10 → count_by steps x ≡ 1
unfolding count_by
count_by-small zero x h = refl
count_by-small (suc steps) x h = rw (lt-ltb x 10 h)

count_by-step : (steps x : ℕ) → 10 ≤ x → count_by (suc steps) x ≡ suc (count_by steps (x / 10))
unfolding count_by
count_by-step steps x h = rw (le-ltb x 10 h)

-- `x` steps are enough
count_by-enough : (m n x : ℕ) → x ≤ m → x ≤ n → count_by m x ≡ count_by n x
count_by-enough zero n x h k = count_by-small zero x (omega arith) ∙ sym (count_by-small n x (omega arith))
count_by-enough (suc m) zero x h k = count_by-small (suc m) x (omega arith) ∙ sym (count_by-small zero x (omega arith))
count_by-enough (suc m) (suc n) x h k =
    ⊎_elim (λ small. count_by-small (suc m) x small ∙ sym (count_by-small (suc n) x small))
    (λ big. count_by-step m x big ∙ ap suc (count_by-enough m n (x / 10) (omega arith) (omega arith)) ∙ sym (count_by-step n x big))
    (lt-or-ge x 10)

pub digit_count-small : (x : ℕ) → x < 10 → digit_count x ≡ 1
unfolding digit_count
digit_count-small x h = count_by-small x x h

pub digit_count-step : (x : ℕ) → 10 ≤ x → digit_count x ≡ suc (digit_count (x / 10))
unfolding digit_count
digit_count-step x h =
    let e : x ≡ suc (x - 1) = omega arith in
    ap (λ (steps : ℕ). count_by steps x) e
    ∙ count_by-step (x - 1) x h
    ∙ ap suc (count_by-enough (x - 1) (x / 10) (x / 10) (omega arith) (omega arith))

pub digit_count-le : (k x : ℕ) → x < 10 ^ suc k → digit_count x ≤ suc k
digit_count-le zero x h = let e : digit_count x ≡ 1 = digit_count-small x h in omega arith
digit_count-le (suc k) x h =
    ⊎_elim (λ small. let e : digit_count x ≡ 1 = digit_count-small x small in omega arith)
    (λ big.
    let e : digit_count x ≡ suc (digit_count (x / 10)) = digit_count-step x big in
    let less : x / 10 < 10 ^ suc k = omega (arith, pow-suc 10 (suc k)) in
    let rest : digit_count (x / 10) ≤ suc k = digit_count-le k (x / 10) less in
    omega arith)
    (lt-or-ge x 10)

-- a number of 64 bits has at most 20
pub digit_count-most : (x : ℕ) → x < 2 ^ 64 → digit_count x ≤ 20
digit_count-most x h = digit_count-le 19 x (omega arith)

-- by the power of ten below it; 0 has one, as 1 has
pub digit_count-power : (k x : ℕ) → 10 ^ k ≤ max x 1 → max x 1 < 10 * 10 ^ k → digit_count x ≡ k + 1
digit_count-power zero x h o = digit_count-small x (omega arith)
digit_count-power (suc k) x h o =
    let e : 10 ^ suc k ≡ 10 ^ k * 10 = pow-suc 10 k in
    let low : 1 ≤ 10 ^ k = one-le-pow k 10 (omega arith) in
    let big : 10 ≤ x = omega arith in
    let rest : digit_count (x / 10) ≡ k + 1 = digit_count-power k (x / 10) (omega arith) (omega arith) in
    omega (arith, digit_count-step x big)

-- ---- the digits

pub length_digits : (base k x : ℕ) → length (digits base k x) ≡ k
unfolding digits
length_digits base zero x = refl
length_digits base (suc k) x =
    length-append (digits base k (x / base)) (glyph (x % base) ∷ []) ∙ ap (λ (n : ℕ). n + 1) (length_digits base k (x / base)) ∙ add-one k

pub length-decimal : (x : ℕ) → length (decimal x) ≡ digit_count x
unfolding decimal
length-decimal x = length_digits 10 (digit_count x) x

digits-suc : (base k x : ℕ) → digits base (suc k) x ≡ digits base k (x / base) ++ (glyph (x % base) ∷ [])
unfolding digits
digits-suc base k x = refl

-- what is left to be written is the front of all digits: its last, and the front before that
module _ (base : ℕ) (all : List ℕ) (left rest : ℕ) (front : take left all ≡ digits base left rest) (k : ℕ) (e : left ≡ suc k) where
  split : take (suc k) all ≡ digits base k (rest / base) ++ (glyph (rest % base) ∷ [])
  split = rw e at front ∙ digits-suc base k rest

  pub front-last : get_or all k 0 ≡ glyph (rest % base)
  front-last =
      sym (get_or-take (suc k) all k 0 (omega arith))
      ∙ ap (λ (l : List ℕ). get_or l k 0) split
      ∙ get_or_at (digits base k (rest / base)) (glyph (rest % base)) [] 0 k (length_digits base k (rest / base))

  pub front-before : take k all ≡ digits base k (rest / base)
  front-before =
      sym (take-take k (suc k) all (omega arith))
      ∙ ap (take k) split
      ∙ take_at (digits base k (rest / base)) (glyph (rest % base) ∷ []) k (length_digits base k (rest / base))
