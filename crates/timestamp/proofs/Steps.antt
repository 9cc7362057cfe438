-- Each step of a tick on a timestamp with all its places, from what the code's lists of counts hold.
-- Assumes nothing.
use Prim.Native.Nat.{ℕ, ◌+◌, ◌-◌, ◌*◌, ◌≤◌, ◌<◌, max}
use native.Mathlib.Omega.{arith}
use mathlib.Core.Path.{◌≡◌, ap, ◌∙◌}
use mathlib.Core.List.{List}
use lib.ListN.{length, take, drop, get_or, set, replicate, length-replicate, length-take}
use lib.Seq.{take_all}
use Rattle.laws.specs.Lists.{tab, padded, placed_at}
use Rattle.laws.proofs.Lists.{get_or-padded, tab-ext}
use Rattle.model.specs.Setup.{width}
use Rattle.model.specs.Timestamp.{Timestamp, count_at, sum, trimmed, widened, fresh, replaced, shift, step, absorb, count_own}
use Rattle.lemmas.proofs.Counts.{count-moved, count-zero}
use Rattle.timestamp.specs.Views.{stamp_by, larger_at, raised_at}
use Rattle.timestamp.proofs.Readings.{larger-raised}
use Rattle.timestamp.proofs.Counts.{set-padded, padded-zeros, padded-more, drop_of_take, trimmed-take}

pub fresh-widened : (epsilon clock : ℕ) → 1 ≤ epsilon → epsilon ≤ 16
    → stamp_by clock 0 (set (replicate 32 0) epsilon 1) ≡ widened (fresh epsilon clock)
unfolding widened fresh width
fresh-widened epsilon clock h k =
    let fits : 2 * epsilon ≤ 32 = omega arith in
    let inside : epsilon < length {A = ℕ} (replicate (2 * epsilon) 0) = omega (arith, length-replicate {A = ℕ} (2 * epsilon) 0) in
    ap (stamp_by clock 0)
    (ap (λ (l : List ℕ). set l epsilon 1) (padded-zeros 32 (2 * epsilon) fits)
    ∙ set-padded 32 (replicate (2 * epsilon) 0) epsilon 1 inside)

pub replaced-widened : (epsilon clock : ℕ) → epsilon ≤ 16 → stamp_by clock 0 (replicate 32 0) ≡ widened (replaced epsilon clock)
unfolding widened replaced width
replaced-widened epsilon clock k = let fits : 2 * epsilon ≤ 32 = omega arith in rw (padded-zeros 32 (2 * epsilon) fits)

module _ (epsilon : ℕ) (t : Timestamp) (small : epsilon ≤ 16) (long : length t.kn ≡ 32) where
  pub trimmed-all : trimmed epsilon t ≡ stamp_by t.r t.c (take (2 * epsilon) t.kn)
  unfolding width
  trimmed-all = trimmed-take epsilon t (omega arith)

  pub step-widened : (k v c : ℕ) (kn : List ℕ) → k ≤ epsilon → c ≡ t.c - k → kn ≡ padded 32 (take (2 * epsilon - k) (drop k t.kn))
      → stamp_by v c kn ≡ widened (step k v (trimmed epsilon t))
  unfolding widened step shift
  step-widened k v c kn h ec e =
      let moved : drop k (take (2 * epsilon) t.kn) ≡ take (2 * epsilon - k) (drop k t.kn) = drop_of_take k (2 * epsilon) t.kn in
      let fits : length (take (2 * epsilon - k) (drop k t.kn)) + k ≤ 32 =
      omega (arith, length-take (2 * epsilon - k) (drop k t.kn)) in
      rw (trimmed-all, moved, padded-more 32 (take (2 * epsilon - k) (drop k t.kn)) k fits, ec, e)

  -- places past the 2ε counts are 0
  pub narrow-counts : t ≡ widened (trimmed epsilon t) → t.kn ≡ padded 32 (take (2 * epsilon) t.kn)
  unfolding widened
  narrow-counts narrow = ap (λ (u : Timestamp). u.kn) (narrow ∙ ap widened trimmed-all)

  pub count-own-widened : (v : ℕ) → 1 ≤ epsilon → t ≡ widened (trimmed epsilon t)
      → stamp_by v t.c (set t.kn epsilon (get_or t.kn epsilon 0 + 1)) ≡ widened (count_own epsilon v (trimmed epsilon t))
  unfolding widened count_own
  count-own-widened v h narrow =
      let inside : epsilon < length (take (2 * epsilon) t.kn) = omega (arith, length-take (2 * epsilon) t.kn) in
      ap (λ (l : List ℕ). stamp_by v t.c (set l epsilon (get_or l epsilon 0 + 1))) (narrow-counts narrow)
      ∙ rw (
        trimmed-all,
        get_or-padded 32 (take (2 * epsilon) t.kn) epsilon,
        set-padded 32 (take (2 * epsilon) t.kn) epsilon (get_or (take (2 * epsilon) t.kn) epsilon 0 + 1) inside,
      )

  -- of a frame with that c and those counts, the own ones raised where they stand
  pub absorb-widened : (modulus reading up down count c d : ℕ) (counts kn : List ℕ) → t ≡ widened (trimmed epsilon t) → length counts ≡ 2 * epsilon
      → up ≡ reading - modulus → down ≡ modulus - reading → count ≡ 2 * epsilon - (up + down)
      → kn ≡ tab 32 (raised_at up t.kn (take count (drop down counts))) → d ≡ max t.c (reading + c - modulus)
      → stamp_by t.r d kn ≡ widened (absorb epsilon modulus (trimmed epsilon t) reading (stamp_by 0 c counts))
  unfolding widened absorb count_at sum width
  absorb-widened modulus reading up down count c d counts kn narrow wide eu ed ec e el =
      rw (
        trimmed-all,
        el,
        e,
        raised,
        tab-ext (2 * epsilon) (larger_at modulus reading (take (2 * epsilon) t.kn) counts)
            (λ i. max (placed_at (modulus + epsilon) (take (2 * epsilon) t.kn) (modulus + i + epsilon)) (placed_at (reading + epsilon) counts (modulus + i + epsilon))) one,
      )
    where
      all : take (2 * epsilon) counts ≡ counts
      all = take_all (2 * epsilon) counts (omega arith)

      raised : tab 32 (raised_at up t.kn (take count (drop down counts))) ≡ padded 32 (tab (2 * epsilon) (larger_at modulus reading (take (2 * epsilon) t.kn) counts))
      raised =
          ap (λ (l : List ℕ). tab 32 (raised_at up l (take count (drop down counts)))) (narrow-counts narrow)
          ∙ larger-raised (2 * epsilon) modulus reading up down count counts eu ed ec 32 t.kn (omega arith)
          ∙ ap (λ (l : List ℕ). padded 32 (tab (2 * epsilon) (larger_at modulus reading (take (2 * epsilon) t.kn) l))) all

      one : (i : ℕ) → i < 2 * epsilon
          → larger_at modulus reading (take (2 * epsilon) t.kn) counts i
          ≡ max (placed_at (modulus + epsilon) (take (2 * epsilon) t.kn) (modulus + i + epsilon)) (placed_at (reading + epsilon) counts (modulus + i + epsilon))
      one i h =
          rw (
            count-moved (modulus + epsilon) 0 (take (2 * epsilon) t.kn) (modulus + i + epsilon) i (omega arith),
            count-zero (take (2 * epsilon) t.kn) i,
            count-moved (reading + epsilon) reading counts (modulus + i + epsilon) (modulus + i) (omega arith),
          )
