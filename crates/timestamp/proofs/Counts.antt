-- Lists of counts: by place, padded with zeros, and the 2ε of a timestamp alone.
-- Assumes nothing.
use Prim.Native.Nat.{ℕ, zero, suc, ◌+◌, ◌-◌, ◌≤◌, ◌<◌, max, min}
use native.Mathlib.Numerals.{add-one}
use native.Mathlib.Omega.{arith}
use mathlib.Core.Path.{◌≡◌, sym}
use mathlib.Core.List.{List, [], ◌∷◌, ◌++◌, append_assoc}
use lib.ListN.{length, take, drop, get_or, set, replicate, length-append, length-set, length-replicate, length-drop, drop_of_length-le, replicate-append-replicate}
use mathlib.Core.Bool.{Bool, true, ◌&&◌, cond}
use mathlib.Core.Logic.{◌⊎◌, inl, inr}
use borrow.Author.Tests.{le-leb, lt-leb}
use lib.Dec.{leb}
use lib.Seq.{set-append_left, drop-append-le, length-take-le, take-nil, take-suc, drop-cons}
use Rattle.std.proofs.lemmas.List.{drop-replicate}
use Rattle.laws.specs.Lists.{every, padded}
use Rattle.laws.proofs.Numbers.{lt-or-ge, and-true, and-false}
use Rattle.laws.proofs.Lists.{tab-take, every_append}
use Rattle.model.specs.Setup.{width}
use Rattle.model.specs.Timestamp.{Timestamp, at_most, trimmed}
use Rattle.timestamp.specs.Views.{within_ceilings}

-- a count is written
pub set-padded : (w : ℕ) (l : List ℕ) (i x : ℕ) → i < length l → set (padded w l) i x ≡ padded w (set l i x)
unfolding padded
set-padded w l i x h = rw (set-append_left, length-set)

-- zeros after zeros
pub padded-zeros : (w n : ℕ) → n ≤ w → replicate w 0 ≡ padded w (replicate n 0)
unfolding padded
padded-zeros w n h =
    let e : n + (w - n) ≡ w = omega arith in
    rw (length-replicate, replicate-append-replicate, e)

-- zeros at the end change nothing
pub padded-more : (w : ℕ) (l : List ℕ) (k : ℕ) → length l + k ≤ w → padded w (l ++ replicate k 0) ≡ padded w l
unfolding padded
padded-more w l k h =
    let e : k + (w - (length l + k)) ≡ w - length l = omega arith in
    rw (length-append, length-replicate, append_assoc, replicate-append-replicate, e)

-- the counts but the first k
pub drop_of_take : (k w : ℕ) (l : List ℕ) → drop k (take w l) ≡ take (w - k) (drop k l)
drop_of_take zero w l = let e : w - 0 ≡ w = omega arith in rw e
drop_of_take (suc k) zero l = let e : 0 - suc k ≡ 0 = omega arith in rw e
drop_of_take (suc k) (suc w) [] = sym (take-nil (suc w - suc k))
drop_of_take (suc k) (suc w) (x ∷ l) = let e : suc w - suc k ≡ w - k = omega arith in rw e (drop_of_take k w l)

-- a timestamp's 2ε counts are the first 2ε of its places
pub trimmed-take : (epsilon : ℕ) (t : Timestamp) → width epsilon ≤ length t.kn
    → trimmed epsilon t ≡ record { r = t.r; c = t.c; kn = take (width epsilon) t.kn }
unfolding trimmed
trimmed-take epsilon t h = rw (tab-take (width epsilon) t.kn 0 h)

-- a part of s copied over the first of the zeros
pub copied-padded : (w from count : ℕ) (s : List ℕ) → from + count ≤ length s
    → take count (drop from s) ++ drop count (replicate w 0) ≡ padded w (take count (drop from s))
unfolding padded
copied-padded w from count s fits =
    let long : length (take count (drop from s)) ≡ count = length-take-le count (drop from s) (omega (arith, length-drop from s)) in
    rw (drop-replicate {X = ℕ} count w 0, long)

-- the test of the counts from a place on: the first of them, then the others
at-most-cons : (bound i : ℕ) (l : List ℕ) → i < length l → at_most bound (drop i l) ≡ (leb (get_or l i 0) bound && at_most bound (drop (i + 1) l))
unfolding at_most every
at-most-cons bound i l h = rw (drop-cons l i 0 h, add-one i)

-- the test of the larger of two, and of others
at-most-both : (bound a b : ℕ) (o : Bool) → (leb a bound && (leb b bound && o)) ≡ (leb (max a b) bound && o)
at-most-both bound a b o = go (lt-or-ge bound a) (lt-or-ge bound b)
  where
    go : (bound < a) ⊎ (a ≤ bound) → (bound < b) ⊎ (b ≤ bound) → (leb a bound && (leb b bound && o)) ≡ (leb (max a b) bound && o)
    go (inl h) k = let m : bound < max a b = omega arith in rw (lt-leb a bound h, lt-leb (max a b) bound m)
    go (inr h) (inl k) =
        let m : bound < max a b = omega arith in
        rw (le-leb a bound h, lt-leb b bound k, lt-leb (max a b) bound m)
    go (inr h) (inr k) =
        let m : max a b ≤ bound = omega arith in
        rw (le-leb a bound h, le-leb b bound k, le-leb (max a b) bound m)

-- what a loop that finds the largest count knows after one turn more, and at its end
pub at-most-next : (bound i most x : ℕ) (l : List ℕ) → i < length l → x ≡ max most (get_or l i 0)
    → (leb most bound && at_most bound (drop i l)) ≡ (leb x bound && at_most bound (drop (i + 1) l))
at-most-next bound i most x l h e = rw (at-most-cons bound i l h, e) (at-most-both bound most (get_or l i 0) (at_most bound (drop (i + 1) l)))

pub at-most-end : (bound i most : ℕ) (l : List ℕ) → length l ≤ i → (leb most bound && at_most bound (drop i l)) ≡ leb most bound
unfolding at_most every
at-most-end bound i most l h = rw (drop_of_length-le l h, and-true (leb most bound))

-- the counts from the lesser of two places on, up to the second: those from the first on
pub part-from : (from to m : ℕ) (l : List ℕ) → to ≤ length l → m ≡ min from to → take (to - m) (drop m l) ≡ drop from (take to l)
part-from from to m l h e = elim (lt-or-ge from to) [
  | inl k ↦ let same : m ≡ from = omega arith in rw same (sym (drop_of_take from to l))
  | inr k ↦
      let none : to - m ≡ 0 = omega arith in
      let short : length (take to l) ≤ from = omega (arith, length-take-le to l h) in
      rw (none, drop_of_length-le (take to l) short)
]

-- counts are within their limits if those before the last are, and the last is within its own
limits-append : (n top : ℕ) (l : List ℕ) (x : ℕ)
    → within_ceilings n top (l ++ (x ∷ [])) ≡ (within_ceilings n top l && leb x (cond (leb (length l) top) n 0))
unfolding at_most every
limits-append n top l x = go (lt-or-ge top (length l)) (lt-or-ge 0 x)
  where
    go : (top < length l) ⊎ (length l ≤ top) → (0 < x) ⊎ (x ≤ 0)
        → within_ceilings n top (l ++ (x ∷ [])) ≡ (within_ceilings n top l && leb x (cond (leb (length l) top) n 0))
    go (inr h) _ =
        let long : length l ≤ top + 1 = omega arith in
        let longer : length (l ++ (x ∷ [])) ≤ top + 1 = omega (arith, length-append l (x ∷ [])) in
        rw (
          le-leb (length l) top h,
          drop_of_length-le l long,
          drop_of_length-le (l ++ (x ∷ [])) longer,
          every_append (λ y. leb y n) l (x ∷ []),
          and-true (leb x n),
          and-true (every (λ y. leb y n) l),
          and-true (every (λ y. leb y n) l && leb x n),
        )
    go (inl h) k =
        let short : top + 1 ≤ length l = omega arith in
        rw (
          lt-leb (length l) top h,
          drop-append-le (top + 1) l (x ∷ []) short,
          every_append (λ y. leb y n) l (x ∷ []),
          every_append (λ y. leb y 0) (drop (top + 1) l) (x ∷ []),
        )
        (above k)
      where
        above : (0 < x) ⊎ (x ≤ 0)
            → ((every (λ y. leb y n) l && (leb x n && true)) && (every (λ y. leb y 0) (drop (top + 1) l) && (leb x 0 && true)))
            ≡ ((every (λ y. leb y n) l && every (λ y. leb y 0) (drop (top + 1) l)) && leb x 0)
        above (inl p) =
            rw (
              lt-leb x 0 p,
              and-false (every (λ y. leb y 0) (drop (top + 1) l)),
              and-false (every (λ y. leb y n) l && (leb x n && true)),
              and-false (every (λ y. leb y n) l && every (λ y. leb y 0) (drop (top + 1) l)),
            )
        above (inr p) =
            let q : x ≤ n = omega arith in
            rw (
              le-leb x 0 p,
              le-leb x n q,
              and-true (every (λ y. leb y n) l),
              and-true (every (λ y. leb y 0) (drop (top + 1) l)),
              and-true (every (λ y. leb y n) l && every (λ y. leb y 0) (drop (top + 1) l)),
            )

-- what a loop that asks for each count's limit knows at its start, after one turn more, and at its end
module _ (n top : ℕ) where
  pub limits-start : true ≡ within_ceilings n top []
  unfolding at_most every
  limits-start = let e : length {A = ℕ} [] ≤ top + 1 = omega arith in rw (drop_of_length-le [] e)

  pub limits-next : (i limit : ℕ) (fine : Bool) (kn : List ℕ) → i < length kn → limit ≡ cond (leb i top) n 0
      → fine ≡ within_ceilings n top (take i kn) → (fine && leb (get_or kn i 0) limit) ≡ within_ceilings n top (take (i + 1) kn)
  limits-next i limit fine kn h l f =
      let passed : length (take i kn) ≡ i = length-take-le i kn (omega arith) in
      rw (f, l, add-one i, take-suc kn i 0 h, limits-append n top (take i kn) (get_or kn i 0), passed)
