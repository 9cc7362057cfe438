-- The laws of `specs/Bytes.antt`'s definitions. A store is a `pasted` of one byte, and two neighbouring `pasted` are one: every function of the
-- crate is made of those two laws. `Pasting` is the state of a loop that pastes piece by piece, from either end. Assumes nothing.
use mathlib.Core.Path.{◌≡◌, refl, sym, ap, ◌∙◌}
use mathlib.Core.List.{List, [], ◌∷◌, ◌++◌, append_assoc, append-nil}
use mathlib.Core.Logic.{◌⊎◌, inl, inr, ⊎_elim}
use Prim.Native.Nat.{ℕ, zero, suc, ◌+◌, ◌-◌, ◌*◌, ◌/◌, ◌%◌, ◌≤◌, ◌<◌, zero-le}
use native.Mathlib.Nat.{add-zero, zero-add}
use native.Mathlib.Numerals.{add-one}
use native.Mathlib.Omega.{arith}
use lib.ListN.{length, take, drop, get_or, set, length-append, length-take, length-drop, length-set, length-replicate, take-append-drop, drop_of_length-le}
use lib.Seq.{length-take-le, take-append-le, drop-append-le, drop-append-add, take-take, take-add, take_at, take_all, drop_at, drop-cons, drop-drop, drop-length, set_split, get_or-take, get_or-drop, slice, slice_empty, length-slice}
use Rattle.laws.specs.Lex.{number_of}
use Rattle.laws.proofs.Lex.{number-ext}
use Rattle.model.specs.Long.{low_first, number_at}
use Rattle.splice.specs.Bytes.{pasted, part, used_from, zeros, cleared, inserted, cut_out}

-- a list with nothing pasted into it
pub pasted-nil : (l : List ℕ) (at : ℕ) → pasted l at [] ≡ l
unfolding pasted
pasted-nil l at = rw (add-zero at) (take-append-drop at l)

-- a store is a paste of one byte
pub set-pasted : (l : List ℕ) (at x : ℕ) → at < length l → set l at x ≡ pasted l at (x ∷ [])
unfolding pasted
set-pasted l at x h = rw (add-one at) (set_split l at x h)

pub length-pasted : (l : List ℕ) (at : ℕ) (s : List ℕ) → at + length s ≤ length l → length (pasted l at s) ≡ length l
unfolding pasted
length-pasted l at s h = simp (length-append, length-take, length-drop) (omega arith)

-- ---- a part of a list

pub length_part : (l : List ℕ) (from n : ℕ) → from + n ≤ length l → length (part l from n) ≡ n
length_part l from n h = simp (length-take, length-drop) (omega arith)

pub get_d_part : (l : List ℕ) (from n i : ℕ) → i < n → get_or (part l from n) i 0 ≡ get_or l (from + i) 0
get_d_part l from n i h = get_or-take n (drop from l) i 0 h ∙ get_or-drop from l i 0

-- one byte
part-one : (l : List ℕ) (from : ℕ) → from < length l → get_or l from 0 ∷ [] ≡ part l from 1
part-one l from h = rw (drop-cons l from 0 h)

pub length-zeros : (n : ℕ) → length (zeros n) ≡ n
length-zeros n = length-replicate {A = ℕ} n 0

-- ---- l with s pasted at `at`, read before, in and after the part

module _ (l : List ℕ) (at : ℕ) (s : List ℕ) (h : at ≤ length l) where
  -- before the part: as it was
  pub take-pasted : (n : ℕ) → n ≤ at → take n (pasted l at s) ≡ take n l
  unfolding pasted
  take-pasted n k = take-append-le n (take at l) (s ++ drop (at + length s) l) (rw (length-take-le at l h) k) ∙ take-take n at l k

  -- up to the part's end
  pub take-pasted-through : (n : ℕ) → n ≡ at + length s → take n (pasted l at s) ≡ take at l ++ s
  unfolding pasted
  take-pasted-through n e =
      rw (← append_assoc (take at l) s (drop (at + length s) l))
      (take_at (take at l ++ s) (drop (at + length s) l) n (simp (length-append, length-take) (omega arith)))

  -- from the part's index k on
  pub drop-pasted : (n k : ℕ) → n ≡ at + k → k ≤ length s → drop n (pasted l at s) ≡ drop k s ++ drop (at + length s) l
  unfolding pasted
  drop-pasted n k e i =
      ap (λ (m : ℕ). drop m (pasted l at s)) e
      ∙ sym (drop-drop k at (take at l ++ (s ++ drop (at + length s) l)))
      ∙ ap (drop k) (drop_at (take at l) (s ++ drop (at + length s) l) at (length-take-le at l h))
      ∙ drop-append-le k s (drop (at + length s) l) i

  -- past the part: as it was
  pub drop-pasted-after : (n : ℕ) → at + length s ≤ n → drop n (pasted l at s) ≡ drop n l
  drop-pasted-after n k =
      let e : n ≡ at + length s + (n - (at + length s)) = omega arith in
      ap (λ (m : ℕ). drop m (pasted l at s)) e
      ∙ sym (drop-drop (n - (at + length s)) (at + length s) (pasted l at s))
      ∙ ap (drop (n - (at + length s))) (drop-pasted (at + length s) (length s) refl (omega arith) ∙ ap (λ (r : List ℕ). r ++ drop (at + length s) l) (drop-length s))
      ∙ drop-drop (n - (at + length s)) (at + length s) l
      ∙ ap (λ (m : ℕ). drop m l) (sym e)

  -- one byte before the part
  pub get_or-pasted-before : (k : ℕ) → k < at → get_or (pasted l at s) k 0 ≡ get_or l k 0
  get_or-pasted-before k i =
      sym (get_or-take at (pasted l at s) k 0 i) ∙ ap (λ (r : List ℕ). get_or r k 0) (take-pasted at (omega arith)) ∙ get_or-take at l k 0 i

-- ---- neighbouring parts

pasted-is : (l : List ℕ) (at : ℕ) (s : List ℕ) → pasted l at s ≡ take at l ++ (s ++ drop (at + length s) l)
unfolding pasted
pasted-is l at s = refl

-- two parts, written out
pub pasted-append : (l : List ℕ) (at : ℕ) (s t : List ℕ) (n : ℕ) → n ≡ at + (length s + length t)
    → take at l ++ (s ++ (t ++ drop n l)) ≡ pasted l at (s ++ t)
pasted-append l at s t n e =
    rw (pasted-is l at (s ++ t), length-append s t, append_assoc s t (drop (at + (length s + length t)) l), e)

module _ (l : List ℕ) (at : ℕ) (s : List ℕ) (p : ℕ) (e : p ≡ at + length s) (t : List ℕ) where
  -- the left part pasted first, then the right one
  pub pasted-right : at ≤ length l → pasted (pasted l at s) p t ≡ pasted l at (s ++ t)
  pasted-right h =
      rw (
        pasted-is (pasted l at s) p t,
        take-pasted-through l at s h p e,
        drop-pasted-after l at s h (p + length t) (omega arith),
        append_assoc (take at l) s (t ++ drop (p + length t) l),
      )
      (pasted-append l at s t (p + length t) (omega arith))

  -- the right part pasted first, then the left one
  pub pasted-left : p ≤ length l → pasted (pasted l p t) at s ≡ pasted l at (s ++ t)
  pasted-left h =
      rw (
        pasted-is (pasted l p t) at s,
        take-pasted l p t h at (omega arith),
        drop-pasted l p t h (at + length s) 0 (omega arith) (omega arith),
      )
      (pasted-append l at s t (p + length t) (omega arith))

-- a part pasted over all of another one
pasted-over : (l : List ℕ) (p : ℕ) (u : List ℕ) (q : ℕ) (t : List ℕ) → p ≤ length l → q ≤ p → p + length u ≤ q + length t
    → pasted (pasted l p u) q t ≡ pasted l q t
pasted-over l p u q t h a b =
    rw (pasted-is (pasted l p u) q t, take-pasted l p u h q a, drop-pasted-after l p u h (q + length t) b) (sym (pasted-is l q t))

-- all of a list pasted over
pasted-whole : (l s : List ℕ) → length l ≤ length s → pasted l 0 s ≡ s
unfolding pasted
pasted-whole l s h = rw (zero-add (length s), drop_of_length-le l {i = length s} h) (append-nil s)

-- a part pasted where it stands: nothing changes
pub pasted-own : (l : List ℕ) (from to n : ℕ) → to ≡ from → from + n ≤ length l → l ≡ pasted l to (part l from n)
pasted-own l from to n e h =
    rw (e, pasted-is l from (part l from n), length_part l from n h, ← drop-drop n from l, take-append-drop n (drop from l))
    (sym (take-append-drop from l))

-- ---- what stands between two indices of a list

-- as a part
slice-part : (l : List ℕ) (from n : ℕ) → from ≤ length l → slice from (from + n) l ≡ part l from n
slice-part l from n h = ap (drop from) (take-add from n l) ∙ drop_at (take from l) (part l from n) from (length-take-le from l h)

-- two neighbours
slice-append : (i j k : ℕ) (s : List ℕ) → i ≤ j → j ≤ k → k ≤ length s → slice i j s ++ slice j k s ≡ slice i k s
slice-append i j k s o p h =
    sym
    (ap (drop i) (sym (take-append-drop j (take k s)) ∙ ap (λ (r : List ℕ). r ++ slice j k s) (take-take j k s p))
    ∙ drop-append-le i (take j s) (slice j k s) (rw (length-take-le j s (omega arith)) o))

-- ---- a loop that pastes s into l from `at` on, piece by piece: so far the bytes of s from index i up to, not including, index j

pub record Pasting (l : List ℕ) (at : ℕ) (s : List ℕ) (i j : ℕ) (cur : List ℕ) : Type 0 where
  pub room : at + length s ≤ length l
  pub ordered : i ≤ j
  pub within : j ≤ length s
  pub so_far : cur ≡ pasted l (at + i) (slice i j s)
  pub as_long : length cur ≡ length l

-- nothing is pasted yet
pub starts : (l : List ℕ) (at : ℕ) (s : List ℕ) (i : ℕ) → at + length s ≤ length l → i ≤ length s → Pasting l at s i i l
starts l at s i room h =
    record {
      room = room;
      ordered = omega arith;
      within = h;
      so_far = rw slice_empty (sym (pasted-nil l (at + i)));
      as_long = refl;
    }

-- all is pasted
pub ends : {l : List ℕ} {at : ℕ} {s : List ℕ} {i j : ℕ} {cur : List ℕ} → Pasting l at s i j cur → i ≤ 0 → length s ≤ j
    → cur ≡ pasted l at s
ends {at = at} {s = s} {i = i} {j = j} now z h = let e : i ≡ 0 = omega arith in now.so_far ∙ rw (e, add-zero at, take_all j s h)

module _ {l : List ℕ} {at : ℕ} {s : List ℕ} {i j : ℕ} {cur : List ℕ} (now : Pasting l at s i j cur) where
  size : length (slice i j s) ≡ j - i
  size = length-slice i j s now.within

  -- what is outside is as it was
  pub outside : (k n : ℕ) → k + n ≤ length l → (k + n ≤ at + i) ⊎ (at + j ≤ k) → part cur k n ≡ part l k n
  outside k n h (inl b) =
      sym (slice-part cur k n (omega (arith, now.as_long)))
      ∙ ap (drop k) (ap (take (k + n)) now.so_far ∙ take-pasted l (at + i) (slice i j s) (omega arith) (k + n) b)
      ∙ slice-part l k n (omega arith)
  outside k n h (inr a) =
      ap (λ (r : List ℕ). part r k n) now.so_far
      ∙ ap (take n) (drop-pasted-after l (at + i) (slice i j s) (omega arith) k (omega (arith, size)))

  -- a piece more at the end; it may begin in what is pasted
  pub joins-right : (p n : ℕ) {t next : List ℕ} → t ≡ part s p n → next ≡ pasted cur (at + p) t → i ≤ p → p ≤ j → j ≤ p + n → p + n ≤ length s
      → Pasting l at s i (p + n) next
  joins-right p n {t} e f a b c h =
      let long : length t ≡ n = ap length e ∙ length_part s p n h in
      let over : length (slice p j s) ≡ j - p = length-slice p j s now.within in
      let left : length (slice i p s) ≡ p - i = length-slice i p s (omega arith) in
      let meet : at + p ≡ at + i + length (slice i p s) = omega arith in
      let same : length (pasted l (at + i) (slice i p s)) ≡ length l = length-pasted l (at + i) (slice i p s) (omega arith) in
      let known : t ≡ slice p (p + n) s = e ∙ sym (slice-part s p n (omega arith)) in
      record {
        room = now.room;
        ordered = omega arith;
        within = h;
        so_far =
            f
            ∙ ap (λ (r : List ℕ). pasted r (at + p) t)
            (now.so_far
            ∙ ap (pasted l (at + i)) (sym (slice-append i p j s a b now.within))
            ∙ sym (pasted-right l (at + i) (slice i p s) (at + p) meet (slice p j s) (omega arith)))
            ∙ pasted-over (pasted l (at + i) (slice i p s)) (at + p) (slice p j s) (at + p) t (omega arith) (omega arith) (omega arith)
            ∙ pasted-right l (at + i) (slice i p s) (at + p) meet t (omega arith)
            ∙ ap (pasted l (at + i)) (rw known (slice-append i p (p + n) s a (omega arith) h));
        as_long = ap length f ∙ length-pasted cur (at + p) t (omega (arith, now.as_long)) ∙ now.as_long;
      }

  -- a piece more at the start; it may end in what is pasted
  pub joins-left : (p n : ℕ) {t next : List ℕ} → t ≡ part s p n → next ≡ pasted cur (at + p) t → p ≤ i → i ≤ p + n → p + n ≤ j
      → Pasting l at s p j next
  joins-left p n {t} e f a b c =
      let long : length t ≡ n = ap length e ∙ length_part s p n (omega arith) in
      let over : length (slice i (p + n) s) ≡ p + n - i = length-slice i (p + n) s (omega arith) in
      let right : length (slice (p + n) j s) ≡ j - (p + n) = length-slice (p + n) j s now.within in
      let same : length (pasted l (at + (p + n)) (slice (p + n) j s)) ≡ length l = length-pasted l (at + (p + n)) (slice (p + n) j s) (omega arith) in
      let known : t ≡ slice p (p + n) s = e ∙ sym (slice-part s p n (omega arith)) in
      record {
        room = now.room;
        ordered = omega arith;
        within = now.within;
        so_far =
            f
            ∙ ap (λ (r : List ℕ). pasted r (at + p) t)
            (now.so_far
            ∙ ap (pasted l (at + i)) (sym (slice-append i (p + n) j s b c now.within))
            ∙ sym (pasted-left l (at + i) (slice i (p + n) s) (at + (p + n)) (omega arith) (slice (p + n) j s) (omega arith)))
            ∙ pasted-over (pasted l (at + (p + n)) (slice (p + n) j s)) (at + i) (slice i (p + n) s) (at + p) t (omega arith) (omega arith) (omega arith)
            ∙ pasted-left l (at + p) t (at + (p + n)) (omega arith) (slice (p + n) j s) (omega arith)
            ∙ ap (pasted l (at + p)) (rw known (slice-append p (p + n) j s (omega arith) c now.within));
        as_long = ap length f ∙ length-pasted cur (at + p) t (omega (arith, now.as_long)) ∙ now.as_long;
      }

  -- one byte more at the end
  pub grows-right : {x : ℕ} → x ≡ get_or s j 0 → j < length s → Pasting l at s i (j + 1) (set cur (at + j) x)
  grows-right {x} e h =
      joins-right j 1 (rw e (part-one s j h)) (set-pasted cur (at + j) x (omega arith)) now.ordered (omega arith) (omega arith) (omega arith)

  -- one byte more at the start
  pub grows-left : {x : ℕ} → x ≡ get_or s (i - 1) 0 → 0 < i → Pasting l at s (i - 1) j (set cur (at + (i - 1)) x)
  grows-left {x} e h =
      joins-left (i - 1) 1 (rw e (part-one s (i - 1) (omega arith))) (set-pasted cur (at + (i - 1)) x (omega arith)) (omega arith) (omega arith) (omega arith)

-- ---- a list of zeros filled by a part of s

module _ (w : ℕ) (s : List ℕ) (at : ℕ) (fits : at + w ≤ length s) where
  pub filling-starts : Pasting (zeros w) 0 (part s at w) 0 0 (zeros w)
  filling-starts = starts (zeros w) 0 (part s at w) 0 (omega (arith, length_part s at w fits, length-zeros w)) zero-le

  pub fills : {i : ℕ} {cur : List ℕ} → Pasting (zeros w) 0 (part s at w) 0 i cur → i < w
      → Pasting (zeros w) 0 (part s at w) 0 (i + 1) (set cur i (get_or s (at + i) 0))
  fills {i} {cur} now h =
      rw (zero-add i) at (grows-right now (sym (get_d_part s at w i h)) (omega (arith, length_part s at w fits)))

  pub filled : {i : ℕ} {cur : List ℕ} → Pasting (zeros w) 0 (part s at w) 0 i cur → w ≤ i → cur ≡ part s at w
  filled now h =
      let size : length (part s at w) ≡ w = length_part s at w fits in
      ends now zero-le (omega arith) ∙ pasted-whole (zeros w) (part s at w) (omega (arith, length-zeros w))

-- ---- a move of n bytes: a loop that pastes a part of the list itself

-- a piece of the part
part-part : (l : List ℕ) (from n k m : ℕ) → from + n ≤ length l → k + m ≤ n → part l (from + k) m ≡ part (part l from n) k m
part-part l from n k m fits h =
    let after : length (drop from l) ≡ length l - from = length-drop from l in
    let whole : length (part l from n) ≡ n = length_part l from n fits in
    sym
    (sym (slice-part (part l from n) k m (omega arith))
    ∙ ap (drop k) (take-take (k + m) n (drop from l) h)
    ∙ slice-part (drop from l) k m (omega arith)
    ∙ ap (take m) (drop-drop k from l))

module _ (l : List ℕ) (from to n : ℕ) (fits : from + n ≤ length l) where
  whole : length (part l from n) ≡ n
  whole = length_part l from n fits

  pub moving-starts : (i : ℕ) → to + n ≤ length l → i ≤ n → Pasting l to (part l from n) i i l
  moving-starts i room h = starts l to (part l from n) i (omega (arith, whole)) (omega (arith, whole))

  module _ {i j : ℕ} {cur : List ℕ} (now : Pasting l to (part l from n) i j cur) where
    -- a piece more at the end, and at the start
    pub moves-right : (k m : ℕ) {t next : List ℕ} → t ≡ part l (from + k) m → next ≡ pasted cur (to + k) t → i ≤ k → k ≤ j → j ≤ k + m → k + m ≤ n
        → Pasting l to (part l from n) i (k + m) next
    moves-right k m e f a b c h = joins-right now k m (e ∙ part-part l from n k m fits h) f a b c (omega (arith, whole))

    pub moves-left : (k m : ℕ) {t next : List ℕ} → t ≡ part l (from + k) m → next ≡ pasted cur (to + k) t → k ≤ i → i ≤ k + m → k + m ≤ j
        → Pasting l to (part l from n) k j next
    moves-left k m e f a b c = joins-left now k m (e ∙ part-part l from n k m fits (omega (arith, whole, now.within))) f a b c

    -- a byte that still stands where it was, outside what is pasted
    pub unmoved : (k : ℕ) → k < n → (from + k < to + i) ⊎ (to + j ≤ from + k) → get_or cur (from + k) 0 ≡ get_or (part l from n) k 0
    unmoved k h w =
        let here : get_or (part cur (from + k) 1) 0 0 ≡ get_or cur (from + k) 0 = rw (add-zero (from + k)) at (get_d_part cur (from + k) 1 0 (omega arith)) in
        sym here
        ∙ ap (λ (r : List ℕ). get_or r 0 0)
        (outside now (from + k) 1 (omega arith) (⊎_elim (λ b. inl (omega arith)) (λ a. inr a) w)
        ∙ part-part l from n k 1 fits (omega arith)
        ∙ sym (part-one (part l from n) k (omega (arith, whole))))

    pub moving-ends : i ≤ 0 → n ≤ j → cur ≡ pasted l to (part l from n)
    moving-ends a b = ends now a (omega (arith, whole))

    -- by a last piece at the end, and at the start
    pub moving-ends-right : (k m : ℕ) {t next : List ℕ} → t ≡ part l (from + k) m → next ≡ pasted cur (to + k) t → i ≤ 0 → k ≤ j → k + m ≡ n
        → next ≡ pasted l to (part l from n)
    moving-ends-right k m e f a b c =
        ends (moves-right k m e f (omega arith) b (omega (arith, whole, now.within)) (omega arith)) a (omega (arith, whole))

    pub moving-ends-left : (m : ℕ) {t next : List ℕ} → t ≡ part l from m → next ≡ pasted cur to t → i ≤ m → m ≤ j → n ≤ j
        → next ≡ pasted l to (part l from n)
    moving-ends-left m {t} {next} e f a b c =
        let read : t ≡ part l (from + 0) m = rw (add-zero from) e in
        let put : next ≡ pasted cur (to + 0) t = rw (add-zero to) f in
        ends (moves-left 0 m read put (omega arith) (omega arith) (omega arith)) (omega arith) (omega (arith, whole))

-- ---- s inserted into the used bytes of l: a paste of s and of the used bytes after it

module _ (l : List ℕ) (used at : ℕ) (s : List ℕ) (h : at ≤ used) (room : used + length s ≤ length l) where
  pub inserted-pasted : inserted l used at s ≡ pasted l at (s ++ used_from l used at)
  unfolding inserted
  inserted-pasted =
      pasted-append l at s (used_from l used at) (used + length s) (omega (arith, length_part l at (used - at) (omega arith)))

  -- made by a move to the right, and then a copy
  pub inserted-made : {a b : List ℕ} → a ≡ pasted l (at + length s) (used_from l used at) → b ≡ pasted a at s → b ≡ inserted l used at s
  inserted-made moved copied =
      copied
      ∙ rw moved (pasted-left l at s (at + length s) refl (used_from l used at) (omega arith) ∙ sym inserted-pasted)

-- ---- n bytes cut out of the used bytes of l: a paste of the used bytes after them and of zeros

module _ (l : List ℕ) (used at n : ℕ) (h : at + n ≤ used) (room : used ≤ length l) where
  rest-size : length (used_from l used (at + n)) ≡ used - (at + n)
  rest-size = length_part l (at + n) (used - (at + n)) (omega arith)

  pub cut_out-pasted : cut_out l used at n ≡ pasted l at (used_from l used (at + n) ++ zeros n)
  unfolding cut_out
  cut_out-pasted =
      pasted-append l at (used_from l used (at + n)) (zeros n) used (omega (arith, rest-size, length-zeros n))

  -- made by a move to the left, and then a clearing
  pub cut_out-made : {a b : List ℕ} → a ≡ pasted l at (used_from l used (at + n)) → b ≡ cleared a (used - n) used → b ≡ cut_out l used at n
  cut_out-made moved emptied =
      let e : used - (used - n) ≡ n = omega arith in
      emptied
      ∙ rw (moved, e)
      (pasted-right l at (used_from l used (at + n)) (used - n) (omega (arith, rest-size)) (zeros n) (omega arith)
      ∙ sym cut_out-pasted)

-- ---- two bytes stored

pub two-stored : (l : List ℕ) (at a b : ℕ) → at + 2 ≤ length l → set (set l at a) (at + 1) b ≡ pasted l at (a ∷ b ∷ [])
two-stored l at a b h =
    set-pasted (set l at a) (at + 1) b (rw length-set (omega arith))
    ∙ ap (λ (r : List ℕ). pasted r (at + 1) (b ∷ [])) (set-pasted l at a (omega arith))
    ∙ pasted-right l at (a ∷ []) (at + 1) refl (b ∷ []) (omega arith)

-- ---- a buffer that is given as its pieces, one after the other

drop-two : (a b c : List ℕ) (n k : ℕ) → n ≡ length a + (length b + k) → drop n (a ++ (b ++ c)) ≡ drop k c
drop-two a b c n k e = rw (e, drop-append-add a (b ++ c) (length b + k)) (drop-append-add b c k)

-- s in the place of b
pub pasted-pieces : (a b c s : List ℕ) (at : ℕ) → length a ≡ at → length s ≡ length b → pasted (a ++ (b ++ c)) at s ≡ a ++ (s ++ c)
pasted-pieces a b c s at e d =
    rw (pasted-is (a ++ (b ++ c)) at s, take_at a (b ++ c) at e, drop-two a b c (at + length s) 0 (omega arith))

-- s before b, where a and b are in use and c is free
pub inserted-pieces : (a b c s : List ℕ) (used at : ℕ) → length a ≡ at → used ≡ at + length b
    → inserted (a ++ (b ++ c)) used at s ≡ a ++ (s ++ (b ++ drop (length s) c))
unfolding inserted
inserted-pieces a b c s used at e d =
    rw (
      take_at a (b ++ c) at e,
      drop_at a (b ++ c) at e,
      take_at b c (used - at) (omega arith),
      drop-two a b c (used + length s) (length s) (omega arith),
    )

-- b cut out, where a, b and c are in use
pub cut_out-pieces : (a b c d : List ℕ) (used at n : ℕ) → length a ≡ at → length b ≡ n → used ≡ at + n + length c
    → cut_out (a ++ (b ++ (c ++ d))) used at n ≡ a ++ (c ++ (zeros n ++ d))
unfolding cut_out
cut_out-pieces a b c d used at n e f g =
    rw (
      take_at a (b ++ (c ++ d)) at e,
      drop-two a b (c ++ d) (at + n) 0 (omega arith),
      take_at c d (used - (at + n)) (omega arith),
      drop-two a b (c ++ d) used (length c) (omega arith),
      drop_at c d (length c) refl,
    )

-- four digits one by one
pub four-number : (f : ℕ → ℕ) (d : ℕ) → d ≡ f 3 → ((f 0 * 256 + f 1) * 256 + f 2) * 256 + d ≡ number_of 4 f
unfolding number_of
four-number f d e = omega arith

-- eight digits, four at a time
pub eight-number : (f g h : ℕ → ℕ) → ((k : ℕ) → k < 4 → g k ≡ f k) → ((k : ℕ) → k < 4 → h k ≡ f (4 + k)) → number_of 4 g * 4294967296 + number_of 4 h ≡ number_of 8 f
unfolding number_of
eight-number f g h p q =
    omega (arith, p 0 (omega arith), p 1 (omega arith), p 2 (omega arith), p 3 (omega arith), q 0 (omega arith), q 1 (omega arith), q 2 (omega arith), q 3 (omega arith))

-- the same eight, low first: the number that they are the bytes of
pub low-first-number : (k : ℕ) (s : List ℕ) (at : ℕ) → number_of k (λ i. get_or s (at + (k - 1 - i)) 0) ≡ number_at k s at
unfolding number_of number_at
low-first-number zero s at = refl
low-first-number (suc k) s at =
    let higher : number_of k (λ i. get_or s (at + (suc k - 1 - i)) 0) ≡ number_at k s (at + 1) =
    number-ext k (λ i. get_or s (at + (suc k - 1 - i)) 0) (λ i. get_or s (at + 1 + (k - 1 - i)) 0)
    (λ i h. let e : at + (suc k - 1 - i) ≡ at + 1 + (k - 1 - i) = omega arith in ap (λ (j : ℕ). get_or s j 0) e)
    ∙ low-first-number k s (at + 1) in
    let e : at + (suc k - 1 - k) ≡ at = omega arith in
    let low : get_or s (at + (suc k - 1 - k)) 0 ≡ get_or s at 0 = ap (λ (j : ℕ). get_or s j 0) e in
    omega arith

-- ---- a number's bytes stored, the low one first

-- the state of a loop that stores them: with the bytes of what is left of the number, all of them are pasted
pub record Digits (l : List ℕ) (at k value : ℕ) (cur : List ℕ) (rest i : ℕ) : Type 0 where
  pub kept : length cur ≡ length l
  pub most : i ≤ k
  pub whole : pasted cur (at + i) (low_first (k - i) rest) ≡ pasted l at (low_first k value)

pub digits-start : (l : List ℕ) (at k value : ℕ) → Digits l at k value l value 0
digits-start l at k value =
    let all : k - 0 ≡ k = omega arith in
    record { kept = refl; most = omega arith; whole = rw (add-zero at, all) }

pub digits-turn :
    {l : List ℕ} {at k value : ℕ} {cur : List ℕ} {rest i : ℕ} → Digits l at k value cur rest i → i < k → at + k ≤ length l
    → Digits l at k value (set cur (at + i) (rest % 256)) (rest / 256) (i + 1)
unfolding low_first
digits-turn {l} {at} {k} {value} {cur} {rest} {i} d h room =
    let here : at + i < length cur = omega (arith, d.kept) in
    let next : at + (i + 1) ≡ at + i + 1 = omega arith in
    let more : k - i ≡ suc (k - (i + 1)) = omega arith in
    record {
      kept = length-set cur (at + i) (rest % 256) ∙ d.kept;
      most = omega arith;
      whole =
          rw (set-pasted cur (at + i) (rest % 256) here)
          (pasted-right cur (at + i) (rest % 256 ∷ []) (at + (i + 1)) next (low_first (k - (i + 1)) (rest / 256)) (omega arith)
          ∙ ap (λ (j : ℕ). pasted cur (at + i) (low_first j rest)) (sym more)
          ∙ d.whole);
    }

pub digits-end : {l : List ℕ} {at k value : ℕ} {cur : List ℕ} {rest i : ℕ} → Digits l at k value cur rest i → k ≤ i → cur ≡ pasted l at (low_first k value)
unfolding low_first
digits-end {l} {at} {k} {value} {cur} {rest} {i} d h =
    let none : k - i ≡ 0 = omega arith in
    sym (ap (λ (j : ℕ). pasted cur (at + i) (low_first j rest)) none ∙ pasted-nil cur (at + i)) ∙ d.whole
