-- The order of two timestamps, difference by difference.
-- Assumes nothing.
use Prim.Native.Nat.{ℕ, ◌+◌, ◌-◌, ◌*◌, ◌≤◌, ◌<◌}
use native.Mathlib.Numerals.{add-one}
use native.Mathlib.Omega.{arith}
use mathlib.Core.Path.{◌≡◌, sym}
use mathlib.Core.List.{List, ◌∷◌}
use lib.ListN.{length, take, drop, get_or, drop_of_length-le}
use lib.Seq.{drop-cons, get_or-take}
use Rattle.laws.specs.Lists.{tab}
use Rattle.laws.proofs.Lists.{length-tab, get_or-tab, tab-ext}
use Rattle.laws.proofs.Numbers.{compare-lt, compare-gt, compare-eq}
use Rattle.model.specs.Timestamp.{Timestamp, trimmed}
use Rattle.model.specs.Order.{key_by}
use Rattle.model.specs.Comparison.{compare_keys}
use Rattle.model.specs.Comparison as model
use Rattle.lemmas.proofs.Counts.{down-places}
use Rattle.timestamp.proofs.Steps.{trimmed-all}
use Rattle.timestamp.proofs.Deciding.{keys-in-turn}
use Rattle.timestamp.specs.declared.ordering.Reason.{Reason}
use Rattle.timestamp.specs.declared.ordering.Reason.TheVariants.{Count}
use Rattle.timestamp.specs.declared.ordering.Comparison.{Comparison}
use Rattle.timestamp.specs.declared.ordering.Comparison.TheVariants.{First, Second, Alike}
use Rattle.timestamp.specs.declared.ordering.Rank.{Rank}
use Rattle.timestamp.specs.Views.{of_counts}
use Rattle.timestamp.specs.Ranks.{comparison_of, compare_counts, in_turn, stamped_frame, ranked_frame}

-- ---- two rows of counts, from place k on

row_cons : (most k : ℕ) (f : ℕ → ℕ) → k < most → drop k (tab most f) ≡ f k ∷ drop (k + 1) (tab most f)
row_cons most k f h =
    let inside : k < length (tab most f) = omega (arith, length-tab most f) in
    rw (drop-cons (tab most f) k 0 inside, get_or-tab most f k 0 h, add-one k)

module _ (most : ℕ) (f g : ℕ → ℕ) where
  abbrev pub rows_from : ℕ → model.Comparison
  rows_from k = compare_counts k (drop k (tab most f)) (drop k (tab most g))

  pub rows_none : (k : ℕ) → most ≤ k → rows_from k ≡ comparison_of Alike
  unfolding compare_counts
  rows_none k h = let short : length (tab most f) ≤ k = omega (arith, length-tab most f) in rw (drop_of_length-le (tab most f) short)

  pub rows-first : (k : ℕ) → k < most → f k < g k → rows_from k ≡ comparison_of (First (Count k))
  unfolding compare_counts
  rows-first k h less = rw (row_cons most k f h, row_cons most k g h, compare-lt less)

  pub rows-second : (k : ℕ) → k < most → g k < f k → rows_from k ≡ comparison_of (Second (Count k))
  unfolding compare_counts
  rows-second k h less = rw (row_cons most k f h, row_cons most k g h, compare-gt less)

  pub rows_next : (k : ℕ) → k < most → g k ≤ f k → f k ≤ g k → rows_from k ≡ rows_from (k + 1)
  unfolding compare_counts
  rows_next k h le ge =
      let same : f k ≡ g k = omega arith in
      rw (row_cons most k f h, row_cons most k g h, compare-eq same, add-one k)

-- the tags of the answers, by which a match tells them apart
pub record Tags : Type 0 where
  pub tag : Comparison → ℕ
  pub at_first : (reason : Reason) → tag (First reason) ≡ 0
  pub at_second : (reason : Reason) → tag (Second reason) ≡ 1
  pub at-alike : tag Alike ≡ 2

-- of two with their ε newest counts
pub ranked-in-turn : (epsilon : ℕ) (f g : Rank) (a b : List ℕ)
    → in_turn f g (compare_counts 0 (tab epsilon (λ k. get_or a (epsilon + f.c - k) 0)) (tab epsilon (λ k. get_or b (epsilon + g.c - k) 0)))
    ≡ compare_keys epsilon (key_by epsilon f.reading (ranked_frame f a)) (key_by epsilon g.reading (ranked_frame g b))
ranked-in-turn epsilon f g a b =
    rw (← down-places epsilon (of_counts f.c a), ← down-places epsilon (of_counts g.c b))
    (sym (keys-in-turn epsilon f.reading g.reading (ranked_frame f a) (ranked_frame g b)))

-- the order looks at no place past the 2ε counts
pub key-trimmed : (epsilon x station : ℕ) (t : Timestamp) → epsilon ≤ 16 → length t.kn ≡ 32 → t.c < epsilon
    → key_by epsilon x (stamped_frame station (record { r = 0; c = t.c; kn = t.kn })) ≡ key_by epsilon x (stamped_frame station (trimmed epsilon t))
unfolding key_by
key-trimmed epsilon x station t small long lead =
    let same : tab epsilon (λ j. get_or t.kn (epsilon + t.c - j) 0)
    ≡ tab epsilon (λ j. get_or (take (2 * epsilon) t.kn) (epsilon + t.c - j) 0) =
    tab-ext epsilon (λ j. get_or t.kn (epsilon + t.c - j) 0) (λ j. get_or (take (2 * epsilon) t.kn) (epsilon + t.c - j) 0)
    (λ j h. sym (get_or-take (2 * epsilon) t.kn (epsilon + t.c - j) 0 (omega arith))) in
    rw (
      trimmed-all epsilon t small long,
      down-places epsilon (of_counts t.c t.kn),
      down-places epsilon (record { r = t.r; c = t.c; kn = take (2 * epsilon) t.kn }),
      same,
    )
