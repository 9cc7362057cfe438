-- 02, 2.4: what the comparison says. Assumes nothing.
use Prim.Native.Nat.{ℕ, zero, suc, ◌+◌, ◌-◌, ◌%◌, ◌≤◌, ◌<◌, compare}
use native.Mathlib.Omega.{arith}
use native.Mathlib.Nat.{suc_inj, mod-lt}
use mathlib.Core.Path.{◌≡◌, refl, sym, ap, ◌∙◌}
use mathlib.Core.List.{List, [], ◌∷◌}
use mathlib.Core.Logic.{◌⊎◌, inl, inr}
use lib.ListN.{length, get_or, length-append}
use borrow.Author.Tests.{eq-eqb, ne_eqb, lt-ltb, le-ltb}
use Rattle.laws.specs.Lex.{lex_compare, first_difference}
use Rattle.laws.proofs.Lex.{lex-head-lt, lex-head-gt, lex-head-eq}
use Rattle.laws.proofs.Numbers.{lt-or-ge, compare-lt, compare-gt}
use Rattle.model.specs.Setup.{Setup}
use Rattle.model.specs.Timestamp.{sum}
use Rattle.model.specs.Frame.{Frame}
use Rattle.model.specs.Order.{reading_of, counts_down, key_by, key, key_near, compare_frames, reading_clock}
use Rattle.model.specs.Comparison.{Reason, by_sum, by_count, by_station, by_r, by_nothing, reason_past, reason_at, compare_keys, count_clock, clocked, compared}
use Rattle.lemmas.proofs.Bounds.{Limits}
use Rattle.lemmas.proofs.Reading.{near-low}
use Rattle.lemmas.proofs.Counts.{length-down}

-- the numbers at the first difference stand to each other as the lists do
first-order : (a b : List ℕ) → length a ≡ length b → compare (get_or a (first_difference a b) 0) (get_or b (first_difference a b) 0) ≡ lex_compare a b
unfolding first_difference lex_compare
first-order [] [] e = refl
first-order [] (y ∷ b) e = absurd (omega arith)
first-order (x ∷ a) [] e = absurd (omega arith)
first-order (x ∷ a) (y ∷ b) e = go (lt-or-ge x y) (lt-or-ge y x) (first-order a b (suc_inj e))
  where
    go : (x < y) ⊎ (y ≤ x) → (y < x) ⊎ (x ≤ y) → compare (get_or a (first_difference a b) 0) (get_or b (first_difference a b) 0) ≡ lex_compare a b
        → compare (get_or (x ∷ a) (first_difference (x ∷ a) (y ∷ b)) 0) (get_or (y ∷ b) (first_difference (x ∷ a) (y ∷ b)) 0) ≡ lex_compare (x ∷ a) (y ∷ b)
    go (inl h) _ rest = rw (ne_eqb x y (λ q. omega arith)) (compare-lt h ∙ sym (lex-head-lt x y a b h))
    go (inr _) (inl h) rest = rw (ne_eqb x y (λ q. omega arith)) (compare-gt h ∙ sym (lex-head-gt x y a b h))
    go (inr h) (inr k) rest =
        let q : x ≡ y = omega arith in
        rw (eq-eqb x y q) (rest ∙ sym (lex-head-eq x y a b q))

pub keys-order : (epsilon : ℕ) (a b : List ℕ) → length a ≡ length b → (compare_keys epsilon a b).order ≡ lex_compare a b
unfolding compare_keys
keys-order epsilon a b e = first-order a b e

pub key-long : (epsilon x : ℕ) (f : Frame) → length (key_by epsilon x f) ≡ epsilon + 3
unfolding key_by
key-long epsilon x f =
    omega (arith, length-append (counts_down epsilon f.stamp) (f.station ∷ x ∷ []), length-down epsilon f.stamp)

pub length-key : (epsilon x y : ℕ) (f g : Frame) → length (key_by epsilon x f) ≡ length (key_by epsilon y g)
length-key epsilon x y f g = key-long epsilon x f ∙ sym (key-long epsilon y g)

-- 02: "The order itself is the old one"
pub order-kept : (s : Setup) (v : ℕ) (f g : Frame) → (compared s v f g).order ≡ compare_frames s v f g
unfolding compared compare_frames key_near key
order-kept s v f g = keys-order s.epsilon (key_near s v f) (key_near s v g) (length-key s.epsilon _ _ f g)

-- ---- what stands at a place of a key

pub at_count : (epsilon k : ℕ) → k < epsilon → reason_at epsilon (suc k) ≡ by_count k
unfolding reason_at
at_count epsilon k h = rw (lt-ltb k epsilon h)

-- behind the counts
pub at-station : (epsilon : ℕ) → reason_at epsilon (suc epsilon) ≡ by_station
unfolding reason_at
at-station epsilon =
    let l : epsilon - epsilon ≡ 0 = omega arith in
    rw (le-ltb epsilon epsilon (omega arith), l)

pub at-r : (epsilon : ℕ) → reason_at epsilon (suc (suc epsilon)) ≡ by_r
unfolding reason_at
at-r epsilon =
    let l : suc epsilon - epsilon ≡ 1 = omega arith in
    rw (le-ltb (suc epsilon) epsilon (omega arith), l)

pub at-end : (epsilon at : ℕ) → suc (suc (suc epsilon)) ≤ at → reason_at epsilon at ≡ by_nothing
unfolding reason_at
at-end epsilon zero h = absurd (omega arith)
at-end epsilon (suc k) h =
    let l : k - epsilon ≡ suc (suc (k - epsilon - 2)) = omega arith in
    rw (le-ltb k epsilon (omega arith), l)

-- a frame and itself: nothing decides
no_difference : (a : List ℕ) → first_difference a a ≡ length a
unfolding first_difference
no_difference [] = refl
no_difference (x ∷ a) = rw (eq-eqb x x refl) (ap suc (no_difference a))

pub same-reason : (s : Setup) (v : ℕ) (f : Frame) → (compared s v f f).reason ≡ by_nothing
unfolding compared compare_keys key_near key
same-reason s v f =
    let end : first_difference (key_near s v f) (key_near s v f) ≡ s.epsilon + 3 = no_difference (key_near s v f) ∙ key-long s.epsilon _ f in
    rw (end, at-end s.epsilon (s.epsilon + 3) (omega arith))

-- ---- the clock of a count

-- it is below B
pub clock-below : (s : Setup) (v : ℕ) (f g : Frame) (k : ℕ) → Limits s → (compared s v f g).reason ≡ by_count k → k < s.modulus
unfolding compared count_clock reading_clock
clock-below s v f g k limits e = go (compare_keys s.epsilon (key_near s v f) (key_near s v g)).reason e
  where
    go : (r : Reason) → clocked (count_clock s v (sum (reading_of s v f) f.stamp.c)) r ≡ by_count k → k < s.modulus
    go by_sum q = let z : ◌≡◌ {A = ℕ} 0 1 = cc in absurd (omega arith)
    go (by_count j) q =
        let same : (v + (sum (reading_of s v f) f.stamp.c - j)) % s.modulus ≡ k = cc in
        let some : 0 < s.modulus = omega (arith, limits.modulus-least) in
        omega (arith, mod-lt (v + (sum (reading_of s v f) f.stamp.c - j)) some)
    go by_station q = let z : ◌≡◌ {A = ℕ} 0 1 = cc in absurd (omega arith)
    go by_r q = let z : ◌≡◌ {A = ℕ} 0 1 = cc in absurd (omega arith)
    go by_nothing q = let z : ◌≡◌ {A = ℕ} 0 1 = cc in absurd (omega arith)

pub reading-low : (s : Setup) (v : ℕ) (f : Frame) → Limits s → s.epsilon ≤ reading_of s v f
unfolding reading_of
reading-low s v f limits = near-low s.epsilon s.modulus v f.stamp.r limits.epsilon-pos (omega arith)

-- a count that decides is one of the ε
pub count-among : (epsilon at k : ℕ) → reason_at epsilon at ≡ by_count k → k < epsilon
unfolding reason_at
count-among epsilon zero k e = let z : ◌≡◌ {A = ℕ} 0 1 = cc in absurd (omega arith)
count-among epsilon (suc j) k e = go (lt-or-ge j epsilon)
  where
    past : (i : ℕ) → reason_past i ≡ by_count k → ⊥
    past zero q = let z : ◌≡◌ {A = ℕ} 0 1 = cc in omega arith
    past (suc zero) q = let z : ◌≡◌ {A = ℕ} 0 1 = cc in omega arith
    past (suc (suc i)) q = let z : ◌≡◌ {A = ℕ} 0 1 = cc in omega arith

    go : (j < epsilon) ⊎ (epsilon ≤ j) → k < epsilon
    go (inl h) = let q : by_count j ≡ by_count k = rw (lt-ltb j epsilon h) at e in let same : j ≡ k = cc in omega arith
    go (inr h) = absurd (past (j - epsilon) (rw (le-ltb j epsilon h) at e))
