-- The soundness of 2ε counts, and of a timestamp with all its places, question by question.
-- Assumes nothing.
use Prim.Native.Nat.{ℕ, ◌+◌, ◌-◌, ◌*◌, ◌≤◌, ◌<◌}
use native.Mathlib.Omega.{arith}
use mathlib.Core.Path.{◌≡◌, ap, ◌∙◌}
use mathlib.Core.Bool.{Bool, false, ◌&&◌}
use mathlib.Core.Logic.{◌⊎◌, inl, inr}
use mathlib.Core.List.{List}
use lib.ListN.{length, take, get_or}
use lib.Dec.{leb, ltb}
use lib.Seq.{slice}
use borrow.Author.Tests.{le-leb, lt-leb, lt-ltb, le-ltb}
use Rattle.laws.proofs.Numbers.{lt-or-ge, and-false}
use Rattle.model.specs.Timestamp.{Timestamp, count_at, at_most, trimmed, sound_timestamp, sound_beside}
use Rattle.lemmas.proofs.Counts.{count-zero, counts-from-drop}
use Rattle.timestamp.specs.Views.{of_counts, within_ceilings}
use Rattle.timestamp.proofs.Steps.{trimmed-all}

module _ (n epsilon c : ℕ) (kn : List ℕ) where
  count-c : count_at epsilon 0 kn c ≡ get_or kn (epsilon + c) 0
  unfolding count_at
  count-c = let e : c + epsilon ≡ epsilon + c = omega arith in count-zero kn (c + epsilon) ∙ ap (λ (i : ℕ). get_or kn i 0) e

  pub unsound-lead : 1 ≤ epsilon → epsilon ≤ c → sound_timestamp n epsilon (of_counts c kn) ≡ false
  unfolding sound_timestamp
  unsound-lead h k = let high : epsilon - 1 < c = omega arith in rw (lt-leb c (epsilon - 1) high)

  pub unsound-none : c < epsilon → get_or kn (epsilon + c) 0 < 1 → sound_timestamp n epsilon (of_counts c kn) ≡ false
  unfolding sound_timestamp
  unsound-none h k =
      let low : c ≤ epsilon - 1 = omega arith in
      rw (le-leb c (epsilon - 1) low, count-c, lt-leb 1 (get_or kn (epsilon + c) 0) k, and-false (at_most n kn))

  -- with a count at offset c, the limits of the counts decide
  pub sound-within : length kn ≡ 2 * epsilon → c < epsilon → 1 ≤ get_or kn (epsilon + c) 0
      → sound_timestamp n epsilon (of_counts c kn) ≡ within_ceilings n (epsilon + c) kn
  unfolding sound_timestamp
  sound-within long h k =
      let low : c ≤ epsilon - 1 = omega arith in
      rw (
        le-leb c (epsilon - 1) low,
        count-c,
        le-leb 1 (get_or kn (epsilon + c) 0) k,
        counts-from-drop epsilon 0 kn (c + 1) (epsilon + c + 1) (omega arith),
      )

  -- the questions in turn
  pub sound-asked : 1 ≤ epsilon → length kn ≡ 2 * epsilon
      → sound_timestamp n epsilon (of_counts c kn) ≡ (ltb c epsilon && (leb 1 (get_or kn (epsilon + c) 0) && within_ceilings n (epsilon + c) kn))
  sound-asked some long = go (lt-or-ge c epsilon) (lt-or-ge (get_or kn (epsilon + c) 0) 1)
    where
      go : (c < epsilon) ⊎ (epsilon ≤ c) → (get_or kn (epsilon + c) 0 < 1) ⊎ (1 ≤ get_or kn (epsilon + c) 0)
          → sound_timestamp n epsilon (of_counts c kn) ≡ (ltb c epsilon && (leb 1 (get_or kn (epsilon + c) 0) && within_ceilings n (epsilon + c) kn))
      go (inl h) (inl k) = rw (lt-ltb c epsilon h, lt-leb 1 (get_or kn (epsilon + c) 0) k) (unsound-none h k)
      go (inl h) (inr k) = rw (lt-ltb c epsilon h, le-leb 1 (get_or kn (epsilon + c) 0) k) (sound-within long h k)
      go (inr h) _ = rw (le-ltb c epsilon h) (unsound-lead some h)

module _ (epsilon : ℕ) (t : Timestamp) (small : epsilon ≤ 16) (long : length t.kn ≡ 32) (n : ℕ) where
  -- r is not looked at, and no place past the 2ε counts
  pub sound-trimmed : sound_timestamp n epsilon (of_counts t.c (take (2 * epsilon) t.kn)) ≡ sound_timestamp n epsilon (trimmed epsilon t)
  unfolding sound_timestamp
  sound-trimmed = rw (trimmed-all epsilon t small long)

  -- beside the test of r
  module _ (clock : Bool) where
    pub tables-are : sound_beside clock n epsilon (trimmed epsilon t)
        ≡ (sound_timestamp n epsilon (trimmed epsilon t) && (clock
        && at_most (n - 1) (slice (epsilon + 1) (2 * epsilon) t.kn)))
    tables-are =
        rw (trimmed-all epsilon t small long, counts-from-drop epsilon 0 (take (2 * epsilon) t.kn) 1 (epsilon + 1) (omega arith))
