-- What counts in a window are held to, and the loop that holds them to it.
-- Assumes nothing.
use Prim.Native.Nat.{ℕ, ◌+◌, ◌-◌, ◌*◌, ◌≤◌, ◌<◌, max}
use native.Mathlib.Omega.{arith}
use mathlib.Core.Path.{◌≡◌, refl, sym, ap, ◌∙◌}
use mathlib.Core.Bool.{◌&&◌, cond}
use mathlib.Core.Logic.{◌⊎◌, inl, inr}
use mathlib.Core.List.{List, ◌++◌}
use lib.Bits.{bit_or, or_zero_r, or_add_and, and_le_l}
use lib.Dec.{leb, ltb, eqb}
use lib.ListN.{length, take, drop, get_or, replicate, length-append, length-take, length-drop, length-replicate, get_or-append, get_or-replicate}
use Rattle.std.proofs.Math.Bool.{and_comm}
use Rattle.std.proofs.lemmas.List.{get_or_default}
use Rattle.std.specs.List.{zip}
use Rattle.std.proofs.lemmas.Slice.Zip.{length-zip, get_or-zip}
use lib.Seq.{get_or-take, get_or-drop, get_or-append_right, length-take-le, take_all}
use borrow.Author.Tests.{le-leb, lt-leb, lt-ltb, le-ltb, eq-eqb, ne_eqb}
use borrow.Rule.Slice.PartMut.{put_mid}
use Rattle.laws.proofs.Numbers.{lt-or-ge, and-true, and-false}
use Rattle.laws.proofs.Lists.{get_or-tab, eq-tab, get_or-zeros}
use Rattle.model.specs.Timestamp.{sound_timestamp}
use Rattle.timestamp.specs.Views.{of_counts, within_ceilings}
use Rattle.timestamp.specs.Window.{ceiling_at, ceilings_of}
use Rattle.timestamp.proofs.Counts.{limits-start, limits-next}
use Rattle.timestamp.proofs.Soundness.{sound-asked}

module _ (n epsilon : ℕ) where
  -- the limit at a place, part by part
  limit-first : (i : ℕ) → i < 32 → ceiling_at n epsilon i ≡ n
  limit-first i h = rw (lt-ltb i 32 h)

  limit-none : (i : ℕ) → 32 ≤ i → i < 64 + 2 * epsilon → ceiling_at n epsilon i ≡ 0
  limit-none i h k = rw (le-ltb i 32 h, lt-ltb i (64 + 2 * epsilon) k)

  limit-byte : (i : ℕ) → 32 ≤ i → 64 + 2 * epsilon ≤ i → ceiling_at n epsilon i ≡ 255
  limit-byte i h k = rw (le-ltb i 32 h, le-ltb i (64 + 2 * epsilon) k)

  -- all of them: so many with n, as many with 0 as are left of what is no count, and 255 in the rest
  pub limits-made : (a z b : List ℕ) → epsilon ≤ 16 → a ≡ replicate 32 n → z ≡ replicate 64 0
      → b ≡ replicate (length (take (96 - (64 + 2 * epsilon)) (drop (64 + 2 * epsilon) (a ++ z)))) 255
      → put_mid (64 + 2 * epsilon) (96 - (64 + 2 * epsilon)) (a ++ z) b ≡ ceilings_of n epsilon
  unfolding ceilings_of
  limits-made a z b narrow ea ez eb =
      eq-tab (take (64 + 2 * epsilon) (a ++ z) ++ (b ++ rest)) 96 (ceiling_at n epsilon) 0 all (λ i h. go i h (lt-or-ge i (64 + 2 * epsilon)) (lt-or-ge i 32))
    where
      rest : List ℕ
      rest = drop (96 - (64 + 2 * epsilon)) (drop (64 + 2 * epsilon) (a ++ z))

      long-a : length a ≡ 32
      long-a = ap length ea ∙ length-replicate 32 n

      long-z : length z ≡ 64
      long-z = ap length ez ∙ length-replicate {A = ℕ} 64 0

      long-b : length b ≡ 32 - 2 * epsilon
      long-b =
          ap length eb
          ∙ length-replicate {A = ℕ} (length (take (96 - (64 + 2 * epsilon)) (drop (64 + 2 * epsilon) (a ++ z)))) 255
          ∙ omega (
            arith,
            length-take (96 - (64 + 2 * epsilon)) (drop (64 + 2 * epsilon) (a ++ z)),
            length-drop (64 + 2 * epsilon) (a ++ z),
            length-append a z,
            long-a,
            long-z,
          )

      no-rest : length rest ≡ 0
      no-rest =
          omega (
            arith,
            length-drop (96 - (64 + 2 * epsilon)) (drop (64 + 2 * epsilon) (a ++ z)),
            length-drop (64 + 2 * epsilon) (a ++ z),
            length-append a z,
            long-a,
            long-z,
          )

      front : length (take (64 + 2 * epsilon) (a ++ z)) ≡ 64 + 2 * epsilon
      front = length-take-le (64 + 2 * epsilon) (a ++ z) (omega (arith, length-append a z, long-a, long-z))

      all : length (take (64 + 2 * epsilon) (a ++ z) ++ (b ++ rest)) ≡ 96
      all = omega (arith, length-append (take (64 + 2 * epsilon) (a ++ z)) (b ++ rest), length-append b rest, front, long-b, no-rest)

      at-front : (i : ℕ) → i < 64 + 2 * epsilon → get_or (take (64 + 2 * epsilon) (a ++ z) ++ (b ++ rest)) i 0 ≡ get_or (a ++ z) i 0
      at-front i h =
          get_or-append (take (64 + 2 * epsilon) (a ++ z)) (b ++ rest) 0 i (omega (arith, front))
          ∙ get_or-take (64 + 2 * epsilon) (a ++ z) i 0 h

      go : (i : ℕ) → i < 96 → (i < 64 + 2 * epsilon) ⊎ (64 + 2 * epsilon ≤ i) → (i < 32) ⊎ (32 ≤ i)
          → get_or (take (64 + 2 * epsilon) (a ++ z) ++ (b ++ rest)) i 0 ≡ ceiling_at n epsilon i
      go i h (inl k) (inl m) =
          at-front i k
          ∙ get_or-append a z 0 i (omega (arith, long-a))
          ∙ ap (λ (l : List ℕ). get_or l i 0) ea
          ∙ get_or-replicate 32 i n 0 m
          ∙ sym (limit-first i m)
      go i h (inl k) (inr m) =
          at-front i k
          ∙ get_or-append_right a z i 0 (omega (arith, long-a))
          ∙ ap (λ (l : List ℕ). get_or l (i - length a) 0) ez
          ∙ get_or-zeros 64 (i - length a)
          ∙ sym (limit-none i m k)
      go i h (inr k) _ =
          get_or-append_right (take (64 + 2 * epsilon) (a ++ z)) (b ++ rest) i 0 (omega (arith, front))
          ∙ get_or-append b rest 0 (i - length (take (64 + 2 * epsilon) (a ++ z))) (omega (arith, front, long-b))
          ∙ ap (λ (l : List ℕ). get_or l (i - length (take (64 + 2 * epsilon) (a ++ z))) 0) eb
          ∙ get_or-replicate {A = ℕ} (length (take (96 - (64 + 2 * epsilon)) (drop (64 + 2 * epsilon) (a ++ z)))) (i - length (take (64 + 2 * epsilon) (a ++ z))) 255 0
          (omega (arith, front, long-b, ap length eb, length-replicate {A = ℕ} (length (take (96 - (64 + 2 * epsilon)) (drop (64 + 2 * epsilon) (a ++ z)))) 255))
          ∙ sym (limit-byte i (omega arith) k)

  -- the limits of counts of which those above the place `top` are 0
  module _ (top : ℕ) (limits : List ℕ) (narrow : epsilon ≤ 16) (h : top < 2 * epsilon) (e : limits ≡ ceilings_of n epsilon) where
    limit_is : (i : ℕ) → i < 96 → get_or limits i 0 ≡ ceiling_at n epsilon i
    unfolding ceilings_of
    limit_is i k = ap (λ (l : List ℕ). get_or l i 0) e ∙ get_or-tab 96 (ceiling_at n epsilon) i 0 k

    limit-count : (i : ℕ) → i < 2 * epsilon → max (get_or limits (31 - top + i) 0) (get_or limits (64 + i) 0) ≡ cond (leb i top) n 0
    limit-count i k =
        let last : get_or limits (64 + i) 0 ≡ 0 = limit_is (64 + i) (omega arith) ∙ limit-none (64 + i) (omega arith) (omega arith) in
        elim (lt-or-ge top i) [
          | inl m ↦
              let above : get_or limits (31 - top + i) 0 ≡ 0 =
              limit_is (31 - top + i) (omega arith) ∙ limit-none (31 - top + i) (omega arith) (omega arith) in
              rw (lt-leb i top m, above, last)
          | inr m ↦
              let below : get_or limits (31 - top + i) 0 ≡ n = limit_is (31 - top + i) (omega arith) ∙ limit-first (31 - top + i) (omega arith) in
              rw (le-leb i top m, below, last) (omega arith)
        ]

    limit-other : (i : ℕ) → 2 * epsilon ≤ i → i < 32 → get_or limits (64 + i) 0 ≡ 255
    limit-other i k m = limit_is (64 + i) (omega arith) ∙ limit-byte (64 + i) (omega arith) (omega arith)

-- nothing lies past its limit so far, and with one more
over-next : (a b over : ℕ) → eqb (bit_or over (a - b)) 0 ≡ (eqb over 0 && leb a b)
over-next a b over = go (lt-or-ge b a)
  where
    go : (b < a) ⊎ (a ≤ b) → eqb (bit_or over (a - b)) 0 ≡ (eqb over 0 && leb a b)
    go (inl h) =
        let p : bit_or over (a - b) ≡ 0 → ⊥ = λ z. omega (arith, or_add_and over (a - b), and_le_l over (a - b)) in
        rw (ne_eqb (bit_or over (a - b)) 0 p, lt-leb a b h, and-false (eqb over 0))
    go (inr h) =
        let none : a - b ≡ 0 = omega arith in
        let p : bit_or over (a - b) ≡ over = ap (bit_or over) none ∙ or_zero_r over in
        rw (p, le-leb a b h, and-true (eqb over 0))

-- the bytes of a window, each with its two limits
module _ (kn limits : List ℕ) (top : ℕ) (long : 32 ≤ length kn) (parts : length limits ≡ 96) (h : top < 32) where
  abbrev firsts : List ℕ
  firsts = take (31 - top + 32 - (31 - top)) (drop (31 - top) limits)

  abbrev others : List ℕ
  others = take (length limits - 64) (drop 64 limits)

  abbrev pub rows : List (ℕ × (ℕ × ℕ))
  rows = zip (take 32 kn) (zip firsts others)

  few : 31 - top + 32 - (31 - top) ≡ 32
  few = omega arith

  firsts-long : length firsts ≡ 32
  firsts-long = length-take-le (31 - top + 32 - (31 - top)) (drop (31 - top) limits) (omega (arith, few, length-drop (31 - top) limits)) ∙ few

  others-long : length others ≡ 32
  others-long =
      let left : length limits - 64 ≡ 32 = omega arith in
      length-take-le (length limits - 64) (drop 64 limits) (omega (arith, length-drop 64 limits)) ∙ left

  limits-long : length (zip firsts others) ≡ 32
  limits-long = omega (arith, length-zip firsts others, firsts-long, others-long)

  pub rows-long : length rows ≡ 32
  rows-long = omega (arith, length-zip (take 32 kn) (zip firsts others), length-take-le 32 kn long, limits-long)

  pub rows-at : (i : ℕ) (d : ℕ × (ℕ × ℕ)) → i < length rows
      → get_or rows i d ≡ (get_or kn i 0, (get_or limits (31 - top + i) 0, get_or limits (64 + i) 0))
  rows-at i d k =
      let inside : i < 32 = omega (arith, rows-long) in
      let at_kn : i < length (take 32 kn) = omega (arith, length-take-le 32 kn long) in
      let at_first : i < length firsts = omega (arith, firsts-long) in
      let at_other : i < length others = omega (arith, others-long) in
      let at_both : i < length (zip firsts others) = omega (arith, limits-long) in
      let short : i < 31 - top + 32 - (31 - top) = omega (arith, few) in
      let near : i < length limits - 64 = omega arith in
      get_or-zip (take 32 kn) (zip firsts others) i d at_kn at_both
      ∙ rw (
        get_or-zip firsts others i d.1 at_first at_other,
        get_or_default (take 32 kn) i d.0 0 at_kn,
        get_or_default firsts i d.1.0 0 at_first,
        get_or_default others i d.1.1 0 at_other,
        get_or-take 32 kn i 0 inside,
        get_or-take (31 - top + 32 - (31 - top)) (drop (31 - top) limits) i 0 short,
        get_or-take (length limits - 64) (drop 64 limits) i 0 near,
        get_or-drop (31 - top) limits i 0,
        get_or-drop 64 limits i 0,
      )

-- what a loop that holds each byte of a window to its limit knows at its start, after one turn more, and at its end
module _ (n epsilon top : ℕ) (kn limits : List ℕ) (narrow : epsilon ≤ 16) (h : top < 2 * epsilon) (long : 32 ≤ length kn)
    (e : limits ≡ ceilings_of n epsilon) where
  abbrev counts : List ℕ
  counts = take (2 * epsilon) kn

  counts-long : length (take (2 * epsilon) kn) ≡ 2 * epsilon
  counts-long = length-take-le (2 * epsilon) kn (omega arith)

  pub window-start : eqb 0 0 ≡ within_ceilings n top (take 0 counts)
  window-start = eq-eqb 0 0 refl ∙ limits-start n top

  pub window-next : (i over limit past : ℕ) → i < 32 → get_or kn i 0 ≤ 255
      → limit ≡ max (get_or limits (31 - top + i) 0) (get_or limits (64 + i) 0) → past ≡ get_or kn i 0 - limit
      → eqb over 0 ≡ within_ceilings n top (take i counts) → eqb (bit_or over past) 0 ≡ within_ceilings n top (take (i + 1) counts)
  window-next i over limit past inside byte l p f = go (lt-or-ge i (2 * epsilon))
    where
      go : (i < 2 * epsilon) ⊎ (2 * epsilon ≤ i) → eqb (bit_or over past) 0 ≡ within_ceilings n top (take (i + 1) counts)
      go (inl k) =
          let shorter : i < length counts = omega (arith, counts-long) in
          let here : get_or counts i 0 ≡ get_or kn i 0 = get_or-take (2 * epsilon) kn i 0 k in
          rw (p, ← here) (over-next (get_or counts i 0) limit over)
          ∙ limits-next n top i limit (eqb over 0) counts shorter (l ∙ limit-count n epsilon top limits narrow h e i k) f
      go (inr k) =
          let wide : 255 ≤ limit = omega (arith, limit-other n epsilon top limits narrow h e i k inside) in
          let none : past ≡ 0 = omega arith in
          let same : bit_or over past ≡ over = ap (bit_or over) none ∙ or_zero_r over in
          let all : take i counts ≡ counts = take_all i counts (omega (arith, counts-long)) in
          let more : take (i + 1) counts ≡ counts = take_all (i + 1) counts (omega (arith, counts-long)) in
          rw (same, more) (f ∙ ap (within_ceilings n top) all)

  pub window-end : (i over : ℕ) → 32 ≤ i → eqb over 0 ≡ within_ceilings n top (take i counts) → eqb over 0 ≡ within_ceilings n top counts
  window-end i over k f = f ∙ ap (within_ceilings n top) (take_all i counts (omega (arith, counts-long)))

-- the questions of a timestamp whose 2ε counts stand at the front of a window, the limits of the counts asked first
module _ (n epsilon c : ℕ) (kn : List ℕ) (narrow : epsilon ≤ 16) (long : 32 ≤ length kn) (some : 1 ≤ epsilon) where
  pub window-asked : sound_timestamp n epsilon (of_counts c (take (2 * epsilon) kn))
      ≡ (ltb c epsilon && (within_ceilings n (epsilon + c) (take (2 * epsilon) kn) && leb 1 (get_or kn (epsilon + c) 0)))
  window-asked =
      sound-asked n epsilon c (take (2 * epsilon) kn) some (length-take-le (2 * epsilon) kn (omega arith)) ∙ go (lt-or-ge c epsilon)
    where
      go : (c < epsilon) ⊎ (epsilon ≤ c)
          → (ltb c epsilon && (leb 1 (get_or (take (2 * epsilon) kn) (epsilon + c) 0) && within_ceilings n (epsilon + c) (take (2 * epsilon) kn)))
          ≡ (ltb c epsilon && (within_ceilings n (epsilon + c) (take (2 * epsilon) kn) && leb 1 (get_or kn (epsilon + c) 0)))
      go (inl h) = rw (lt-ltb c epsilon h, get_or-take (2 * epsilon) kn (epsilon + c) 0 (omega arith)) (and_comm (leb 1 (get_or kn (epsilon + c) 0)) _)
      go (inr h) = rw (le-ltb c epsilon h)
