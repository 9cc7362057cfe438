-- Counts of one half width among those of another: stepped into them, and absorbed. Assumes nothing.
use Prim.Native.Nat.{ℕ, zero, suc, ◌+◌, ◌-◌, ◌*◌, ◌≤◌, ◌<◌, max, min}
use native.Mathlib.Omega.{arith}
use mathlib.Core.Path.{◌≡◌, refl, ap, ◌∙◌}
use mathlib.Core.List.{List, ◌∷◌}
use lib.ListN.{length, take, drop, get_or, replicate}
use lib.Seq.{take_all, get_or-take}
use Rattle.laws.specs.Lists.{tab, padded, placed_at}
use Rattle.laws.proofs.Lists.{tab-ext, get_or-zeros}
use Rattle.model.specs.Setup.{width}
use Rattle.model.specs.Timestamp.{Timestamp, count_at, sum, trimmed, widened}
use Rattle.model.specs.Wider.{step_into, absorb_wide}
use Rattle.lemmas.proofs.Counts.{count-moved, count-zero}
use Rattle.timestamp.specs.Views.{stamp_by, larger_at, raised_at}
use Rattle.timestamp.proofs.Readings.{larger-beside}
use Rattle.timestamp.proofs.Steps.{trimmed-all}
use Rattle.widerstamp.specs.Placed.{larger_beside}

-- the own counts, raised where the others stand
pub raised-beside :
    (epsilon half modulus reading up down count : ℕ) (own other kn : List ℕ) → epsilon ≤ 16 → own ≡ padded 32 (take (2 * epsilon) own)
    → length other ≡ 2 * half → up ≡ reading + epsilon - (modulus + half) → down ≡ modulus + half - (reading + epsilon)
    → count ≡ min (2 * epsilon - up) (2 * half - down) → kn ≡ tab 32 (raised_at up own (take count (drop down other)))
    → kn ≡ padded 32 (tab (width epsilon) (larger_beside epsilon modulus own half reading other))
unfolding width count_at
raised-beside epsilon half modulus reading up down count own other kn small narrow wide eu ed ec e =
    e
    ∙ ap (λ (l : List ℕ). tab 32 (raised_at up l (take count (drop down other)))) narrow
    ∙ larger-beside (2 * epsilon) (2 * half) (modulus + half) (reading + epsilon) up down count other eu ed ec 32 own (omega arith)
    ∙ ap (padded 32) (tab-ext (2 * epsilon) (larger_at (modulus + half) (reading + epsilon) (take (2 * epsilon) own) (take (2 * half) other)) (λ i. max (get_or own i 0) (placed_at (reading + epsilon) other (modulus + i + half))) one)
  where
    all : take (2 * half) other ≡ other
    all = take_all (2 * half) other (omega arith)

    one : (i : ℕ) → i < 2 * epsilon
        → max (get_or (take (2 * epsilon) own) i 0) (placed_at (reading + epsilon) (take (2 * half) other) (modulus + half + i))
        ≡ max (get_or own i 0) (placed_at (reading + epsilon) other (modulus + i + half))
    one i h =
        let e' : modulus + half + i ≡ modulus + i + half = omega arith in
        rw (get_or-take (2 * epsilon) own i 0 h, all, e')

-- none at all have none past the 2ε
pub zeros-narrow : (n w : ℕ) → ◌≡◌ {A = List ℕ} (replicate w 0) (padded w (take n (replicate w 0)))
unfolding padded
zeros-narrow zero w = let e : w - 0 ≡ w = omega arith in rw e
zeros-narrow (suc n) zero = refl
zeros-narrow (suc n) (suc w) =
    let left : List ℕ = take n (replicate w 0) in
    let e : suc w - suc (length left) ≡ w - length left = omega arith in
    rw e (ap (λ (l : List ℕ). 0 ∷ l) (zeros-narrow n w))

module _ (t : Timestamp) (long : length t.kn ≡ 32) where
  -- 02, 2.2: into no counts at all
  pub step-beside :
      (epsilon half k v c : ℕ) (kn : List ℕ) → half ≤ 16 → c ≡ t.c - k
      → kn ≡ padded 32 (tab (width epsilon) (larger_beside epsilon k (replicate 32 0) half 0 (take (2 * half) t.kn)))
      → stamp_by v c kn ≡ widened (step_into epsilon half k v (trimmed half t))
  unfolding widened step_into count_at
  step-beside epsilon half k v c kn small ec e =
      rw (
        trimmed-all half t small long,
        ec,
        e,
        tab-ext (width epsilon) (λ i. max (get_or (replicate 32 0) i 0) (placed_at (0 + epsilon) (take (2 * half) t.kn) (k + i + half)))
            (λ i. placed_at epsilon (take (2 * half) t.kn) (k + i + half)) one,
      )
    where
      one : (i : ℕ) → i < width epsilon
          → max (get_or (replicate 32 0) i 0) (placed_at (0 + epsilon) (take (2 * half) t.kn) (k + i + half))
          ≡ placed_at epsilon (take (2 * half) t.kn) (k + i + half)
      one i h =
          let e' : 0 + epsilon ≡ epsilon = omega arith in
          rw (get_or-zeros 32 i, e') (omega arith)

  -- 01, tick 3
  pub absorb-beside :
      (epsilon half modulus reading c d : ℕ) (counts kn : List ℕ) → epsilon ≤ 16 → d ≡ max t.c (reading + c - modulus)
      → kn ≡ padded 32 (tab (width epsilon) (larger_beside epsilon modulus t.kn half reading counts))
      → stamp_by t.r d kn ≡ widened (absorb_wide epsilon half modulus (trimmed epsilon t) reading (stamp_by 0 c counts))
  unfolding widened absorb_wide count_at sum width
  absorb-beside epsilon half modulus reading c d counts kn small ed e =
      rw (
        trimmed-all epsilon t small long,
        ed,
        e,
        tab-ext (2 * epsilon) (λ i. max (get_or t.kn i 0) (placed_at (reading + epsilon) counts (modulus + i + half)))
            (λ i. max (placed_at (modulus + epsilon) (take (2 * epsilon) t.kn) (modulus + i + epsilon)) (placed_at (reading + epsilon) counts (modulus + i + half))) one,
      )
    where
      one : (i : ℕ) → i < 2 * epsilon
          → max (get_or t.kn i 0) (placed_at (reading + epsilon) counts (modulus + i + half))
          ≡ max (placed_at (modulus + epsilon) (take (2 * epsilon) t.kn) (modulus + i + epsilon)) (placed_at (reading + epsilon) counts (modulus + i + half))
      one i h =
          rw (
            count-moved (modulus + epsilon) 0 (take (2 * epsilon) t.kn) (modulus + i + epsilon) i (omega arith),
            count-zero (take (2 * epsilon) t.kn) i,
            get_or-take (2 * epsilon) t.kn i 0 h,
          )
