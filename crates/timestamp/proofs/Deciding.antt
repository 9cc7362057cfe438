-- What decides between two keys, difference by difference.
-- Assumes nothing.
use Prim.Native.Nat.{ℕ, suc, ◌+◌, ◌≤◌, ◌<◌, compare, Ordering}
use native.Mathlib.Omega.{arith}
use native.Mathlib.Nat.{suc_inj}
use mathlib.Core.Path.{◌≡◌, refl, sym, ◌∙◌}
use mathlib.Core.List.{List, [], ◌∷◌, ◌++◌}
use mathlib.Core.Logic.{◌⊎◌, inl, inr}
use lib.ListN.{length, get_or}
use borrow.Author.Tests.{eq-eqb, ne_eqb}
use Rattle.laws.specs.Lex.{first_difference}
use Rattle.laws.proofs.Numbers.{lt-or-ge, compare-lt, compare-gt, compare-eq}
use Rattle.model.specs.Timestamp.{sum}
use Rattle.model.specs.Frame.{Frame}
use Rattle.model.specs.Order.{counts_down, key_by}
use Rattle.model.specs.Comparison.{Reason, Comparison, by_sum, by_count, by_station, by_r, by_nothing, reason_at, compare_keys}
use Rattle.lemmas.proofs.Counts.{length-down}
use Rattle.lemmas.proofs.Comparing.{at_count, at-station, at-r, at-end}
use Rattle.timestamp.specs.Ranks.{decide_by, or_decide, compare_counts}

-- ---- two parts of keys, which start at a place of them

unfoldable compare_at : ℕ → ℕ → List ℕ → List ℕ → Comparison
compare_at epsilon at a b =
    record {
      order = compare (get_or a (first_difference a b) 0) (get_or b (first_difference a b) 0);
      reason = reason_at epsilon (at + first_difference a b);
    }

at-cons : (epsilon at x y : ℕ) (a b : List ℕ)
    → compare_at epsilon at (x ∷ a) (y ∷ b) ≡ or_decide (decide_by (reason_at epsilon at) (compare x y)) (compare_at epsilon (suc at) a b)
unfolding compare_at first_difference
at-cons epsilon at x y a b = go (lt-or-ge x y) (lt-or-ge y x)
  where
    here : at + 0 ≡ at
    here = omega arith

    go : (x < y) ⊎ (y ≤ x) → (y < x) ⊎ (x ≤ y)
        → compare_at epsilon at (x ∷ a) (y ∷ b) ≡ or_decide (decide_by (reason_at epsilon at) (compare x y)) (compare_at epsilon (suc at) a b)
    go (inl h) _ = rw (ne_eqb x y (λ e. omega arith), compare-lt h, here)
    go (inr _) (inl h) = rw (ne_eqb x y (λ e. omega arith), compare-gt h, here)
    go (inr h) (inr k) =
        let e : x ≡ y = omega arith in
        let next : at + suc (first_difference a b) ≡ suc at + first_difference a b = omega arith in
        rw (eq-eqb x y e, compare-eq e, next)

at_none : (epsilon at : ℕ) → reason_at epsilon at ≡ by_nothing → compare_at epsilon at [] [] ≡ record { order = Ordering.eq; reason = by_nothing }
unfolding compare_at first_difference
at_none epsilon at e = let here : at + 0 ≡ at = omega arith in rw (here, e)

-- an answer after another after another
or_assoc : (c d e : Comparison) → or_decide c (or_decide d e) ≡ or_decide (or_decide c d) e
or_assoc c d e = go c.order refl
  where
    go : (o : Ordering) → c.order ≡ o → or_decide c (or_decide d e) ≡ or_decide (or_decide c d) e
    go Ordering.lt h = rw h
    go Ordering.eq h = rw h
    go Ordering.gt h = rw h

-- the counts from place k of the order on, and what stands behind them
at-counts : (epsilon k : ℕ) (m m' t t' : List ℕ) → length m ≡ length m' → k + length m ≡ epsilon
    → compare_at epsilon (suc k) (m ++ t) (m' ++ t') ≡ or_decide (compare_counts k m m') (compare_at epsilon (suc epsilon) t t')
unfolding compare_counts
at-counts epsilon k [] [] t t' e h = let same : k ≡ epsilon = omega arith in rw same
at-counts epsilon k [] (y ∷ m') t t' e h = absurd (omega arith)
at-counts epsilon k (x ∷ m) [] t t' e h = absurd (omega arith)
at-counts epsilon k (x ∷ m) (y ∷ m') t t' e h =
    let below : k < epsilon = omega arith in
    rw (
      at-cons epsilon (suc k) x y (m ++ t) (m' ++ t'),
      at_count epsilon k below,
      at-counts epsilon (suc k) m m' t t' (suc_inj e) (omega arith),
    )
    (or_assoc (decide_by (by_count k) (compare x y)) (compare_counts (suc k) m m') (compare_at epsilon (suc epsilon) t t'))

at_front : (epsilon : ℕ) (a b : List ℕ) → compare_keys epsilon a b ≡ compare_at epsilon 0 a b
unfolding compare_keys compare_at
at_front epsilon a b = let here : 0 + first_difference a b ≡ first_difference a b = omega arith in rw here

-- nothing more to decide
or_nothing : (reason : Reason) (o : Ordering) → or_decide (decide_by reason o) (record { order = Ordering.eq; reason = by_nothing }) ≡ decide_by reason o
or_nothing reason Ordering.lt = refl
or_nothing reason Ordering.eq = refl
or_nothing reason Ordering.gt = refl

-- "first difference decides": the sum, so many counts, the station number and r, in turn
pub rows-in-turn : (most total total' : ℕ) (m m' : List ℕ) (station station' x y : ℕ) → length m ≡ most → length m' ≡ most
    → compare_keys most (total ∷ (m ++ (station ∷ x ∷ []))) (total' ∷ (m' ++ (station' ∷ y ∷ [])))
    ≡ or_decide (decide_by by_sum (compare total total'))
    (or_decide (compare_counts 0 m m') (or_decide (decide_by by_station (compare station station')) (decide_by by_r (compare x y))))
unfolding reason_at
rows-in-turn most total total' m m' station station' x y e e' =
    let all : 0 + length m ≡ most = omega arith in
    rw (
      at_front,
      at-cons,
      at-counts most 0 m m' (station ∷ x ∷ []) (station' ∷ y ∷ []) (e ∙ sym e') all,
      at-cons most (suc most) station station' (x ∷ []) (y ∷ []),
      at-cons most (suc (suc most)) x y [] [],
      at_none most (suc (suc (suc most))) (at-end most (suc (suc (suc most))) (omega arith)),
      at-station most,
      at-r most,
      or_nothing by_r (compare x y),
    )

-- 01's order of two stamps
pub keys-in-turn : (epsilon x y : ℕ) (f g : Frame)
    → compare_keys epsilon (key_by epsilon x f) (key_by epsilon y g)
    ≡ or_decide (decide_by by_sum (compare (x + f.stamp.c) (y + g.stamp.c)))
    (or_decide (compare_counts 0 (counts_down epsilon f.stamp) (counts_down epsilon g.stamp))
    (or_decide (decide_by by_station (compare f.station g.station)) (decide_by by_r (compare x y))))
unfolding key_by sum
keys-in-turn epsilon x y f g =
    rows-in-turn epsilon (x + f.stamp.c) (y + g.stamp.c) (counts_down epsilon f.stamp) (counts_down epsilon g.stamp) f.station g.station x y
    (length-down epsilon f.stamp) (length-down epsilon g.stamp)
