-- The keys of two frames with counts of their own half widths, and the turns in which they are compared. Assumes nothing.
use Prim.Native.Nat.{ℕ, ◌+◌, ◌-◌, ◌≤◌, ◌<◌, compare}
use native.Mathlib.Omega.{arith}
use mathlib.Core.Path.{◌≡◌, sym, ap, ◌∙◌}
use mathlib.Core.Logic.{inl, inr}
use mathlib.Core.List.{List, ◌∷◌}
use lib.ListN.{get_or}
use borrow.Author.Tests.{le-leb, lt-leb, ne_eqb}
use Rattle.laws.specs.Lists.{tab, placed_at}
use Rattle.laws.specs.Lex.{lex_compare, first_difference}
use Rattle.laws.proofs.Numbers.{eq-or-ne, lt-or-gt}
use Rattle.laws.proofs.Lists.{tab-ext}
use Rattle.laws.proofs.Lex.{lex-head-lt, lex-head-gt}
use Rattle.model.specs.Timestamp.{count_at, sum}
use Rattle.model.specs.Frame.{Frame}
use Rattle.model.specs.Comparison.{compare_keys}
use Rattle.model.specs.Comparison as model
use Rattle.model.specs.Schedule.{Schedule, compared_along}
use Rattle.model.specs.Wider.{frame_half, counts_down_by, wider_key}
use Rattle.lemmas.proofs.Counts.{count-moved}
use Rattle.lemmas.proofs.WiderQueue.{length-down-by}
use Rattle.timestamp.specs.declared.ordering.Rank.{Rank}
use Rattle.timestamp.specs.Views.{of_counts}
use Rattle.timestamp.specs.Ranks.{decide_by, or_decide, compare_counts, in_turn, ranked_frame}
use Rattle.timestamp.proofs.Deciding.{rows-in-turn}
use Rattle.widerstamp.specs.Keys.{key_with}

-- ---- the counts of one

-- the count at offset c − k, where there is one and where not
pub count_none : (half k c : ℕ) (kn : List ℕ) → c + half < k → 0 ≡ count_at half k kn c
unfolding count_at placed_at
count_none half k c kn h = rw (lt-leb k (c + half) h)

pub count-some : (half k c : ℕ) (kn : List ℕ) → k ≤ c + half → get_or kn (c + half - k) 0 ≡ count_at half k kn c
unfolding count_at placed_at
count-some half k c kn h = rw (le-leb k (c + half) h)

-- so many of them, from offset c down
pub down-row : (most half c : ℕ) (kn : List ℕ) → counts_down_by most half (of_counts c kn) ≡ tab most (λ k. count_at half k kn c)
unfolding counts_down_by count_at
down-row most half c kn =
    tab-ext most (λ k. placed_at most kn (most + c - k + half)) (λ k. placed_at k kn (c + half))
    (λ k h. count-moved most k kn (most + c - k + half) (c + half) (omega arith))

-- ---- two frames

-- in turn
pub keys-in-turn : (most half half' x y : ℕ) (f g : Frame)
    → compare_keys most (key_with most half x f) (key_with most half' y g)
    ≡ or_decide (decide_by model.by_sum (compare (x + f.stamp.c) (y + g.stamp.c)))
    (or_decide (compare_counts 0 (counts_down_by most half f.stamp) (counts_down_by most half' g.stamp))
    (or_decide (decide_by model.by_station (compare f.station g.station)) (decide_by model.by_r (compare x y))))
unfolding sum
keys-in-turn most half half' x y f g =
    rows-in-turn most (x + f.stamp.c) (y + g.stamp.c) (counts_down_by most half f.stamp) (counts_down_by most half' g.stamp) f.station g.station x y
    (length-down-by most half f.stamp) (length-down-by most half' g.stamp)

-- by the counts of each, from offset c down
pub compared-in-turn : (most half half' : ℕ) (f g : Rank) (a b : List ℕ)
    → in_turn f g (compare_counts 0 (tab most (λ k. count_at half k a f.c)) (tab most (λ k. count_at half' k b g.c)))
    ≡ compare_keys most (key_with most half f.reading (ranked_frame f a)) (key_with most half' g.reading (ranked_frame g b))
compared-in-turn most half half' f g a b =
    rw (← down-row most half f.c a, ← down-row most half' g.c b)
    (sym (keys-in-turn most half half' f.reading g.reading (ranked_frame f a) (ranked_frame g b)))

-- where the sums differ nothing behind them is looked at
keys-head : (most x y : ℕ) (a b b' : List ℕ) → (x ≡ y → ⊥) → compare_keys most (x ∷ a) (y ∷ b) ≡ compare_keys most (x ∷ a) (y ∷ b')
unfolding compare_keys first_difference
keys-head most x y a b b' h = rw (ne_eqb x y h)

lex-head : (x y : ℕ) (a b b' : List ℕ) → (x ≡ y → ⊥) → lex_compare (x ∷ a) (y ∷ b) ≡ lex_compare (x ∷ a) (y ∷ b')
lex-head x y a b b' h =
    elim (lt-or-gt x y h) [
      | inl k ↦ lex-head-lt x y a b k ∙ sym (lex-head-lt x y a b' k)
      | inr k ↦ lex-head-gt x y a b k ∙ sym (lex-head-gt x y a b' k)
    ]

-- model's keys are by the number of counts of either sum: where they differ, so do the sums
module _ (g : Schedule) (x y : ℕ) (a b : Frame) where
  abbrev most : ℕ
  most = compared_along g (sum x a.stamp.c)

  abbrev other : ℕ
  other = compared_along g (sum y b.stamp.c)

  pub compare-wider :
      compare_keys most (wider_key g x a) (wider_key g y b) ≡ compare_keys most (key_with most (frame_half g a) x a) (key_with most (frame_half g b) y b)
  unfolding wider_key
  compare-wider =
      elim (eq-or-ne (sum x a.stamp.c) (sum y b.stamp.c)) [
        | inl e ↦ ap (λ (n : ℕ). compare_keys most (wider_key g x a) (key_with (compared_along g n) (frame_half g b) y b)) (sym e)
        | inr h ↦ keys-head most (sum x a.stamp.c) (sum y b.stamp.c) _ _ _ h
      ]

  pub lex-wider : lex_compare (wider_key g x a) (wider_key g y b) ≡ lex_compare (key_with most (frame_half g a) x a) (key_with most (frame_half g b) y b)
  unfolding wider_key
  lex-wider =
      elim (eq-or-ne (sum x a.stamp.c) (sum y b.stamp.c)) [
        | inl e ↦ ap (λ (n : ℕ). lex_compare (wider_key g x a) (key_with (compared_along g n) (frame_half g b) y b)) (sym e)
        | inr h ↦ lex-head (sum x a.stamp.c) (sum y b.stamp.c) _ _ _ h
      ]
