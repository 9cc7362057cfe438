-- A clock read near v, and a count found by the clock that it is for.
-- Assumes nothing.
use Prim.Native.Nat.{ℕ, ◌+◌, ◌*◌, ◌-◌, ◌%◌, ◌≤◌, ◌<◌, max, min}
use native.Mathlib.Nat.{mod-eq_of_lt, add-mod_right}
use native.Mathlib.Omega.{arith}
use mathlib.Core.Path.{◌≡◌, sym, ap, ◌∙◌}
use mathlib.Core.Bool.{cond}
use mathlib.Core.Logic.{◌⊎◌, inl, inr}
use mathlib.Core.List.{List}
use lib.Dec.{eqb}
use lib.ListN.{length, take, drop, get_or, set, length-take, get_or-eq_default}
use lib.Seq.{get_or-take, get_or-drop}
use borrow.Author.Tests.{le-leb, lt-leb, eq-eqb, ne_eqb}
use Rattle.laws.specs.Lists.{tab, padded, placed_at}
use Rattle.timestamp.specs.Views.{larger_at, raised_at}
use Rattle.laws.proofs.Numbers.{lt-or-ge, eq-or-ne, lt-or-gt}
use Rattle.laws.proofs.Lists.{length-tab, get_or-tab, get_or-tab-out, tab-ext, tab-get_or, set-tab, length-padded, get_or-padded}
use Rattle.model.specs.Timestamp.{ahead, near}
use Rattle.lemmas.proofs.Reading.{near-ahead, near-behind}

-- 01's u, for clocks below B
pub ahead-from : (modulus v r : ℕ) → v ≤ r → r < modulus → r - v ≡ ahead modulus v r
unfolding ahead
ahead-from modulus v r h below =
    let round : r + (modulus - v) ≡ r - v + modulus = omega arith in
    rw (round, add-mod_right (r - v) modulus) (sym (mod-eq_of_lt (omega arith)))

pub ahead-round : (modulus v r : ℕ) → r < v → v < modulus → r + (modulus - v) ≡ ahead modulus v r
unfolding ahead
ahead-round modulus v r h below = let small : r + (modulus - v) < modulus = omega arith in sym (mod-eq_of_lt small)

-- a number below 2B modulo B
pub turned-past : (x modulus : ℕ) → modulus ≤ x → x < 2 * modulus → x - modulus ≡ x % modulus
turned-past x modulus h k =
    let back : x ≡ x - modulus + modulus = omega arith in
    let small : x - modulus < modulus = omega arith in
    sym (ap (λ (n : ℕ). n % modulus) back ∙ (add-mod_right (x - modulus) modulus ∙ mod-eq_of_lt small))

-- u, as a number
ahead-is : (modulus v r : ℕ) → v < modulus → r < modulus → ((v ≤ r) × (ahead modulus v r + v ≡ r)) ⊎ ((r < v) × (ahead modulus v r + v ≡ r + modulus))
ahead-is modulus v r below inside =
    elim (lt-or-ge r v) [
      | inl h ↦ let e = ahead-round modulus v r h below in inr (h, omega arith)
      | inr h ↦ let e = ahead-from modulus v r h inside in inl (h, omega arith)
    ]

-- the reading, as a number
near-is : (epsilon modulus v r : ℕ) → 1 ≤ epsilon → v < modulus
    → ((ahead modulus v r < epsilon) × (near epsilon modulus v r ≡ modulus + ahead modulus v r)) ⊎ ((epsilon ≤ ahead modulus v r) × (near epsilon modulus v r ≡ ahead modulus v r))
near-is epsilon modulus v r some-offset below =
    elim (lt-or-ge (ahead modulus v r) epsilon) [
      | inl h ↦ inl (h, near-ahead epsilon modulus v r some-offset h)
      | inr h ↦ let some-clock : 0 < modulus = omega arith in inr (h, near-behind epsilon modulus v r some-offset some-clock h)
    ]

-- the reading by the clock that reads ε
pub near-from : (epsilon modulus v r least : ℕ) → 1 ≤ epsilon → epsilon < modulus → v < modulus → r < modulus → least ≡ (v + epsilon) % modulus
    → ahead modulus least r + epsilon ≡ near epsilon modulus v r
near-from epsilon modulus v r least some-offset few below inside e =
    go (elim (lt-or-ge (v + epsilon) modulus) [
      | inl h ↦ inl (h, e ∙ mod-eq_of_lt h)
      | inr h ↦ inr (h, e ∙ sym (turned-past (v + epsilon) modulus h (omega arith)))
    ])
  where
    by : least < modulus → (v + epsilon ≡ least) ⊎ (v + epsilon ≡ least + modulus) → ahead modulus least r + epsilon ≡ near epsilon modulus v r
    by low (inl t) =
        elim (ahead-is modulus least r low inside) [
          | inl a ↦ elim (ahead-is modulus v r below inside) [
            | inl b ↦ elim (near-is epsilon modulus v r some-offset below) [ inl n ↦ omega arith | inr n ↦ omega arith ]
            | inr b ↦ elim (near-is epsilon modulus v r some-offset below) [ inl n ↦ omega arith | inr n ↦ omega arith ]
          ]
          | inr a ↦ elim (ahead-is modulus v r below inside) [
            | inl b ↦ elim (near-is epsilon modulus v r some-offset below) [ inl n ↦ omega arith | inr n ↦ omega arith ]
            | inr b ↦ elim (near-is epsilon modulus v r some-offset below) [ inl n ↦ omega arith | inr n ↦ omega arith ]
          ]
        ]
    by low (inr t) =
        elim (ahead-is modulus least r low inside) [
          | inl a ↦ elim (ahead-is modulus v r below inside) [
            | inl b ↦ elim (near-is epsilon modulus v r some-offset below) [ inl n ↦ omega arith | inr n ↦ omega arith ]
            | inr b ↦ elim (near-is epsilon modulus v r some-offset below) [ inl n ↦ omega arith | inr n ↦ omega arith ]
          ]
          | inr a ↦ elim (ahead-is modulus v r below inside) [
            | inl b ↦ elim (near-is epsilon modulus v r some-offset below) [ inl n ↦ omega arith | inr n ↦ omega arith ]
            | inr b ↦ elim (near-is epsilon modulus v r some-offset below) [ inl n ↦ omega arith | inr n ↦ omega arith ]
          ]
        ]

    go : ((v + epsilon < modulus) × (least ≡ v + epsilon)) ⊎ ((modulus ≤ v + epsilon) × (least ≡ v + epsilon - modulus)) → ahead modulus least r + epsilon ≡ near epsilon modulus v r
    go (inl t) = by (omega arith) (inl (omega arith))
    go (inr t) = by (omega arith) (inr (omega arith))

-- 01: "Outside those offsets a count reads as 0"
pub count-before : (reading w : ℕ) (kn : List ℕ) → w < reading → 0 ≡ placed_at reading kn w
unfolding placed_at
count-before reading w kn h = rw (lt-leb reading w h)

pub count_past : (reading w width : ℕ) (kn : List ℕ) → reading ≤ w → width ≤ w - reading → 0 ≡ placed_at reading (take width kn) w
unfolding placed_at
count_past reading w width kn h k =
    let short : length (take width kn) ≤ w - reading = omega (arith, length-take width kn) in
    rw (le-leb reading w h, get_or-eq_default (take width kn) 0 short)

pub count-inside : (reading w width : ℕ) (kn : List ℕ) → reading ≤ w → w - reading < width
    → get_or kn (w - reading) 0 ≡ placed_at reading (take width kn) w
unfolding placed_at
count-inside reading w width kn h k = rw (le-leb reading w h, get_or-take width kn (w - reading) 0 k)

-- the counts that a loop places, before it and after one turn more
no-counts : (to j : ℕ) (l : List ℕ) → 0 ≡ placed_at to (take 0 l) j
no-counts to j l = elim (lt-or-ge j to) [ inl h ↦ count-before to j (take 0 l) h | inr h ↦ count_past to j 0 l h (omega arith) ]

same_count : (to i j : ℕ) (l : List ℕ) → (j ≡ to + i → ⊥) → placed_at to (take i l) j ≡ placed_at to (take (i + 1) l) j
same_count to i j l n = go (lt-or-ge j to) (lt-or-gt j (to + i) n)
  where
    go : (j < to) ⊎ (to ≤ j) → (j < to + i) ⊎ (to + i < j) → placed_at to (take i l) j ≡ placed_at to (take (i + 1) l) j
    go (inl h) k = sym (count-before to j (take i l) h) ∙ count-before to j (take (i + 1) l) h
    go (inr h) (inl k) =
        let a : j - to < i = omega arith in
        let b : j - to < i + 1 = omega arith in
        sym (count-inside to j i l h a) ∙ count-inside to j (i + 1) l h b
    go (inr h) (inr k) =
        let a : i ≤ j - to = omega arith in
        let b : i + 1 ≤ j - to = omega arith in
        sym (count_past to j i l h a) ∙ count_past to j (i + 1) l h b

-- what a loop that raises counts has made at its start, and after one turn more
pub raised-start : (w to : ℕ) (own l : List ℕ) → length own ≡ w → own ≡ tab w (raised_at to own (take 0 l))
raised-start w to own l long =
    sym (tab-get_or w own 0 long)
    ∙ tab-ext w (λ j. get_or own j 0) (raised_at to own (take 0 l)) (λ j h. omega (arith, no-counts to j l))

module _ (w to i x : ℕ) (own l kn : List ℕ) (h : to + i < w) (e : kn ≡ tab w (raised_at to own (take i l)))
    (ex : x ≡ max (get_or kn (to + i) 0) (get_or l i 0)) where
  raised-here : x ≡ raised_at to own (take (i + 1) l) (to + i)
  raised-here =
      let z : to + i - to ≡ i = omega arith in
      let a : get_or kn (to + i) 0 ≡ raised_at to own (take i l) (to + i) =
      ap (λ (k : List ℕ). get_or k (to + i) 0) e ∙ get_or-tab w (raised_at to own (take i l)) (to + i) 0 h in
      let b : 0 ≡ placed_at to (take i l) (to + i) = count_past to (to + i) i l (omega arith) (omega arith) in
      let d : get_or l (to + i - to) 0 ≡ placed_at to (take (i + 1) l) (to + i) = count-inside to (to + i) (i + 1) l (omega arith) (omega arith) in
      let d' : get_or l i 0 ≡ placed_at to (take (i + 1) l) (to + i) = rw z at d in
      omega arith

  pub raised-next : set kn (to + i) x ≡ tab w (raised_at to own (take (i + 1) l))
  raised-next =
      ap (λ (k : List ℕ). set k (to + i) x) e
      ∙ set-tab w (raised_at to own (take i l)) (to + i) x
      ∙ tab-ext w (λ j. cond (eqb j (to + i)) x (raised_at to own (take i l) j)) (raised_at to own (take (i + 1) l)) (λ j k. go j (eq-or-ne j (to + i)))
    where
      go : (j : ℕ) → (j ≡ to + i) ⊎ (j ≡ to + i → ⊥)
          → cond (eqb j (to + i)) x (raised_at to own (take i l) j) ≡ raised_at to own (take (i + 1) l) j
      go j (inl p) = rw (eq-eqb j (to + i) p) (raised-here ∙ ap (raised_at to own (take (i + 1) l)) (sym p))
      go j (inr n) = rw (ne_eqb j (to + i) n, same_count to i j l n)

-- the frame's counts, so many as its width, among own ones, so many as another: placed by how far its reading lies ahead or behind
module _ (width wide modulus reading up down count : ℕ) (other : List ℕ) (eu : up ≡ reading - modulus) (ed : down ≡ modulus - reading)
    (less : count ≤ width - up) (few : count ≤ wide - down) (all : (x : ℕ) → count ≤ x → x < width - up → wide - down ≤ x) where
  placed-within : (i : ℕ) → i < width → placed_at up (take count (drop down other)) i ≡ placed_at reading (take wide other) (modulus + i)
  placed-within i k = go (lt-or-ge i up) (lt-or-ge (i - up) count)
    where
      go : (i < up) ⊎ (up ≤ i) → (i - up < count) ⊎ (count ≤ i - up)
          → placed_at up (take count (drop down other)) i ≡ placed_at reading (take wide other) (modulus + i)
      go (inl h) m =
          let a : modulus + i < reading = omega arith in
          sym (count-before up i (take count (drop down other)) h) ∙ count-before reading (modulus + i) (take wide other) a
      go (inr h) (inl m) =
          let a : reading ≤ modulus + i = omega arith in
          let b : modulus + i - reading < wide = omega arith in
          let z : down + (i - up) ≡ modulus + i - reading = omega arith in
          sym (count-inside up i count (drop down other) h m)
          ∙ get_or-drop down other (i - up) 0
          ∙ ap (λ (n : ℕ). get_or other n 0) z
          ∙ count-inside reading (modulus + i) wide other a b
      go (inr h) (inr m) =
          let a : reading ≤ modulus + i = omega arith in
          let rest : wide - down ≤ i - up = all (i - up) m (omega arith) in
          let b : wide ≤ modulus + i - reading = omega arith in
          sym (count_past up i count (drop down other) h m) ∙ count_past reading (modulus + i) wide other a b

  placed-without : (i : ℕ) → width ≤ i → 0 ≡ placed_at up (take count (drop down other)) i
  placed-without i k =
      elim (lt-or-ge i up) [
        | inl h ↦ count-before up i (take count (drop down other)) h
        | inr h ↦ count_past up i count (drop down other) h (omega arith)
      ]

  -- so that the counts that they raise are the larger ones
  module _ (w : ℕ) (own : List ℕ) (fits : width ≤ w) where
    abbrev larger : List ℕ
    larger = tab width (larger_at modulus reading (take width own) (take wide other))

    larger-at : (i : ℕ) → raised_at up (padded w (take width own)) (take count (drop down other)) i ≡ get_or larger i 0
    larger-at i = rw (get_or-padded w (take width own) i) (go (lt-or-ge i width))
      where
        go : (i < width) ⊎ (width ≤ i) → raised_at up (take width own) (take count (drop down other)) i ≡ get_or larger i 0
        go (inl h) = rw (get_or-tab width (larger_at modulus reading (take width own) (take wide other)) i 0 h, placed-within i h)
        go (inr h) =
            let short : length (take width own) ≤ i = omega (arith, length-take width own) in
            rw (get_or-tab-out width (larger_at modulus reading (take width own) (take wide other)) i 0 h, get_or-eq_default (take width own) 0 short)
            (omega (arith, placed-without i h))

    larger-by : tab w (raised_at up (padded w (take width own)) (take count (drop down other))) ≡ padded w larger
    larger-by =
        let long : length (padded w larger) ≡ w =
        length-padded w larger (omega (arith, length-tab width (larger_at modulus reading (take width own) (take wide other)))) in
        tab-ext w (raised_at up (padded w (take width own)) (take count (drop down other))) (λ i. get_or (padded w larger) i 0)
        (λ i h. larger-at i ∙ sym (get_or-padded w larger i))
        ∙ tab-get_or w (padded w larger) 0 long

least-all : (a b c : ℕ) → c ≡ min a b → (x : ℕ) → c ≤ x → x < a → b ≤ x
least-all a b c e x h k = omega arith

pub larger-beside :
    (width wide modulus reading up down count : ℕ) (other : List ℕ) → up ≡ reading - modulus → down ≡ modulus - reading
    → count ≡ min (width - up) (wide - down) → (w : ℕ) (own : List ℕ) → width ≤ w
    → tab w (raised_at up (padded w (take width own)) (take count (drop down other)))
    ≡ padded w (tab width (larger_at modulus reading (take width own) (take wide other)))
larger-beside width wide modulus reading up down count other eu ed ec =
    let less : count ≤ width - up = omega arith in
    let few : count ≤ wide - down = omega arith in
    larger-by width wide modulus reading up down count other eu ed less few (least-all (width - up) (wide - down) count ec)

-- of one width
pub larger-raised :
    (width modulus reading up down count : ℕ) (other : List ℕ) → up ≡ reading - modulus → down ≡ modulus - reading → count ≡ width - (up + down)
    → (w : ℕ) (own : List ℕ) → width ≤ w
    → tab w (raised_at up (padded w (take width own)) (take count (drop down other)))
    ≡ padded w (tab width (larger_at modulus reading (take width own) (take width other)))
larger-raised width modulus reading up down count other eu ed ec = larger-beside width width modulus reading up down count other eu ed (omega arith)
