-- 02, 2.4: the order is the old one, and the reason is what decided. Assumes nothing.
use Prim.Native.Nat.{Ordering}
use Prim.Native.Nat.{ℕ, zero, suc, ◌+◌, ◌-◌, ◌%◌, ◌≤◌, ◌<◌, compare}
use native.Mathlib.Omega.{arith}
use native.Mathlib.Nat.{add-mod_left}
use mathlib.Core.Path.{◌≡◌, refl, sym, ap, ap₂, subst, ◌∙◌}
use mathlib.Core.List.{List, [], ◌∷◌}
use mathlib.Core.Logic.{◌⊎◌, inl, inr}
use lib.ListN.{length, get_or, get_or-append, get_or-eq_default}
use lib.Seq.{get_or-append-add}
use Rattle.laws.specs.Lex.{first_difference}
use Rattle.laws.proofs.Lex.{first_difference-before, first_difference-at, lex-eq}
use Rattle.laws.proofs.Numbers.{lt-or-ge, eq-or-ne, mod-add-left}
use Rattle.model.specs.Setup.{Setup}
use Rattle.model.specs.Timestamp.{sum}
use Rattle.model.specs.Frame.{Frame}
use Rattle.model.specs.Order.{reading_of, counts_down, key_by, key, key_near, reading_clock}
use Rattle.model.specs.Comparison.{Reason, reason_at, compare_keys, count_clock, clocked, compared}
use Rattle.lemmas.proofs.Questions.{limits-from}
use Rattle.lemmas.proofs.Counts.{length-down}
use Rattle.lemmas.proofs.Queue.{reading-true}
use Rattle.lemmas.proofs.Comparing.{keys-order, key-long, order-kept, at_count, at-station, at-r, at-end, reading-low}
use Rattle.comparing.specs.Statements.{OldOrder, sum_near, count_down, Level, Decided, TrueReason, TrueClock}

-- 02: "The order itself is the old one"
pub old-order : OldOrder
old-order = order-kept

-- ---- what stands where in a key

module _ (s : Setup) (v : ℕ) (f : Frame) where
  abbrev behind : List ℕ
  behind = f.station ∷ reading_of s v f ∷ []

  key-length : length (key_near s v f) ≡ s.epsilon + 3
  unfolding key_near key
  key-length = key-long s.epsilon _ f

  key-sum : get_or (key_near s v f) 0 0 ≡ sum_near s v f
  unfolding key_near key key_by
  key-sum = refl

  key-count : (k : ℕ) → k < s.epsilon → get_or (key_near s v f) (suc k) 0 ≡ count_down s f k
  unfolding key_near key key_by
  key-count k h =
      get_or-append (counts_down s.epsilon f.stamp) behind 0 k (omega (arith, length-down s.epsilon f.stamp))

  key-behind : (i : ℕ) → get_or (key_near s v f) (suc (s.epsilon + i)) 0 ≡ get_or behind i 0
  unfolding key_near key key_by
  key-behind i =
      let at : s.epsilon + i ≡ length (counts_down s.epsilon f.stamp) + i = omega (arith, length-down s.epsilon f.stamp) in
      rw at (get_or-append-add (counts_down s.epsilon f.stamp) behind i 0)

-- ---- the first difference of two keys

module _ (s : Setup) (v : ℕ) (f g : Frame) where
  abbrev place : ℕ
  place = first_difference (key_near s v f) (key_near s v g)

  even : length (key_near s v f) ≡ length (key_near s v g)
  even = key-length s v f ∙ sym (key-length s v g)

  same-sums : 0 < place → sum_near s v f ≡ sum_near s v g
  same-sums h = sym (key-sum s v f) ∙ (first_difference-before (key_near s v f) (key_near s v g) 0 h ∙ key-sum s v g)

  same_count : (k : ℕ) → k < s.epsilon → suc k < place → count_down s f k ≡ count_down s g k
  same_count k h below =
      sym (key-count s v f k h) ∙ (first_difference-before (key_near s v f) (key_near s v g) (suc k) below ∙ key-count s v g k h)

  level : s.epsilon < place → Level s v f g
  level h = record { sums = same-sums (omega arith); counts = λ i below. same_count i below (omega arith) }

  same-behind : (i : ℕ) → suc (s.epsilon + i) < place → get_or (behind s v f) i 0 ≡ get_or (behind s v g) i 0
  same-behind i h =
      sym (key-behind s v f i) ∙ (first_difference-before (key_near s v f) (key_near s v g) (suc (s.epsilon + i)) h ∙ key-behind s v g i)

  differ-at : (p : ℕ) → place ≡ p → p < s.epsilon + 3 → get_or (key_near s v f) p 0 ≡ get_or (key_near s v g) p 0 → ⊥
  differ-at p e h q =
      first_difference-at (key_near s v f) (key_near s v g) even (omega (arith, key-length s v f))
      (subst (λ (m : ℕ). get_or (key_near s v f) m 0 ≡ get_or (key_near s v g) m 0) (sym e) q)

  differ-behind : (i : ℕ) → place ≡ suc (s.epsilon + i) → i < 2 → get_or (behind s v f) i 0 ≡ get_or (behind s v g) i 0 → ⊥
  differ-behind i e h q =
      differ-at (suc (s.epsilon + i)) e (omega arith) (key-behind s v f i ∙ (q ∙ sym (key-behind s v g i)))

  -- no difference: the keys are the same
  all_same : s.epsilon + 3 ≤ place → key_near s v f ≡ key_near s v g
  unfolding compare_keys
  all_same h =
      let none : compare (get_or (key_near s v f) place 0) (get_or (key_near s v g) place 0) ≡ Ordering.eq =
      ap₂ compare (get_or-eq_default (key_near s v f) 0 (omega (arith, key-length s v f)))
      (get_or-eq_default (key_near s v g) 0 (omega (arith, key-length s v g))) in
      lex-eq (key_near s v f) (key_near s v g) (sym (keys-order s.epsilon (key_near s v f) (key_near s v g) even) ∙ none)

  abbrev clock : ℕ → ℕ
  clock k = count_clock s v (sum_near s v f) k

  -- the reason by the place of the first difference
  abbrev By : ℕ → Type 0
  By p = Decided s v f g (clocked clock (reason_at s.epsilon p))

  said : (p : ℕ) (r : Reason) → reason_at s.epsilon p ≡ r → Decided s v f g (clocked clock r) → By p
  said p r e h = subst (λ (q : Reason). Decided s v f g (clocked clock q)) (sym e) h

  by_count_lem : (k : ℕ) → place ≡ suc k → k < s.epsilon → By (suc k)
  by_count_lem k e h =
      said (suc k) _ (at_count s.epsilon k h)
      (record {
        k = k;
        among = h;
        clock-is = refl;
        sums = same-sums (omega arith);
        earlier = λ i below. same_count i (omega arith) (omega arith);
        differ = λ q. differ-at (suc k) e (omega arith) (key-count s v f k h ∙ (q ∙ sym (key-count s v g k h)));
      })

  by_place : (p : ℕ) → place ≡ p → By p
  unfolding reason_at
  by_place zero e = λ q. differ-at 0 e (omega arith) (key-sum s v f ∙ (q ∙ sym (key-sum s v g)))
  by_place (suc k) e = go (lt-or-ge k s.epsilon) (eq-or-ne k s.epsilon) (eq-or-ne k (suc s.epsilon))
    where
      go : (k < s.epsilon) ⊎ (s.epsilon ≤ k) → (k ≡ s.epsilon) ⊎ (k ≡ s.epsilon → ⊥) → (k ≡ suc s.epsilon) ⊎ (k ≡ suc s.epsilon → ⊥) → By (suc k)
      go (inl h) _ _ = by_count_lem k e h
      go (inr h) (inl q) _ =
          said (suc k) _ (ap (λ (m : ℕ). reason_at s.epsilon (suc m)) q ∙ at-station s.epsilon)
          (level (omega arith), differ-behind 0 (omega arith) (omega arith))
      go (inr h) (inr n) (inl q) =
          said (suc k) _ (ap (λ (m : ℕ). reason_at s.epsilon (suc m)) q ∙ at-r s.epsilon)
          (level (omega arith), (same-behind 0 (omega arith), differ-behind 1 (omega arith) (omega arith)))
      go (inr h) (inr n) (inr m) =
          said (suc k) _ (at-end s.epsilon (suc k) (omega (arith, n, m))) (all_same (omega (arith, n, m)))

-- 02: "what decided"
pub true-reason : TrueReason
unfolding compared compare_keys
true-reason s v f g = by_place s v f g (first_difference (key_near s v f) (key_near s v g)) refl

-- sum − k modulo B
pub true-clock : TrueClock
unfolding count_clock reading_clock sum
true-clock s v R k f limits is hi lo among back =
    let lim = limits-from s limits in
    let B : ℕ = s.modulus in
    let reading : ℕ = reading_of s (v % B) f in
    let low : s.epsilon ≤ reading = reading-low s (v % B) f lim in
    let right : reading + v ≡ B + R = reading-true s v R f lim is hi lo in
    let back_to : v + (reading + f.stamp.c - k) ≡ B + (R + f.stamp.c - k) = omega arith in
    mod-add-left v (reading + f.stamp.c - k) B
    ∙ (ap (λ (x : ℕ). x % B) back_to ∙ add-mod_left B (R + f.stamp.c - k))
