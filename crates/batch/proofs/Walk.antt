-- The walk over a batch by positions gives the batch's entries. Assumes nothing.
use mathlib.Core.Path.{◌≡◌, refl, sym, ap, ◌∙◌}
use mathlib.Core.Bool.{true, false, ◌&&◌}
use mathlib.Core.List.{List, [], ◌∷◌}
use mathlib.Core.Logic.{inl, inr}
use Prim.Native.Nat.{ℕ, zero, suc, ◌+◌, ◌-◌, ◌≤◌, ◌<◌, min}
use native.Mathlib.Nat.{min-eq_left}
use native.Mathlib.Numerals.{add-one}
use native.Mathlib.Omega.{arith}
use lib.Dec.{leb, eqb}
use lib.ListN.{length, take, drop, get_or, length-drop, drop_of_length-le, get_or-eq_default}
use lib.Seq.{drop-cons, drop-drop, take_all}
use borrow.Author.Tests.{le-leb, lt-leb, ne_eqb, leb-true}
use Rattle.laws.proofs.Numbers.{lt-or-ge, clash, and_left, and_right}
use Rattle.std.specs.Prelude.{slice_range}
use Rattle.std.proofs.lemmas.Slice.{between_to_end}
use Rattle.model.specs.Batch.{ends_after, exact_batch, entries_of, batch_entries}
use Rattle.batch.specs.Walk.{count_of, entry_at, next_at, entry_span_at}
use Rattle.batch.specs.declared.EntrySpan.{EntrySpan}

-- ---- what is left of a batch, and how many entries are left

-- the bytes after the first, as the code has them
abbrev pub after_first : List ℕ → List ℕ
after_first s = take (length s - 1) (drop 1 s)

after-is : (s : List ℕ) → after_first s ≡ drop 1 s
after-is s = take_all (length s - 1) (drop 1 s) (simp length-drop (omega arith))

pub exact-empty : (s : List ℕ) → length s < 1 → exact_batch s ≡ false
unfolding exact_batch
exact-empty [] h = refl
exact-empty (x ∷ xs) h = absurd (omega arith)

pub exact-opened : (s : List ℕ) → 1 ≤ length s → exact_batch s ≡ ends_after (get_or s 0 0 - 0) (after_first s)
unfolding exact_batch
exact-opened [] h = absurd (omega arith)
exact-opened (x ∷ xs) h = let e : x - 0 ≡ x = omega arith in rw (after-is (x ∷ xs), e)

-- no entry is left to count
pub ends-done : (k : ℕ) (rest : List ℕ) → k ≤ 0 → ends_after k rest ≡ eqb (length rest) 0
unfolding ends_after
ends-done zero [] h = refl
ends-done zero (x ∷ xs) h = sym (ne_eqb (length (x ∷ xs)) 0 (omega arith))
ends-done (suc k) rest h = absurd (omega arith)

-- an entry is missing
pub ends-missing : (k : ℕ) (rest : List ℕ) → 0 < k → length rest < 1 → ends_after k rest ≡ false
unfolding ends_after
ends-missing zero rest z h = absurd (omega arith)
ends-missing (suc k) [] z h = refl
ends-missing (suc k) (x ∷ xs) z h = absurd (omega arith)

-- an entry is cut
pub ends-cut : (k size : ℕ) (rest : List ℕ) → 0 < k → 1 ≤ length rest → size ≡ get_or rest 0 0 → length (after_first rest) < size
    → ends_after k rest ≡ false
unfolding ends_after
ends-cut zero size rest z h e o = absurd (omega arith)
ends-cut (suc k) size [] z h e o = absurd (omega arith)
ends-cut (suc k) size (x ∷ xs) z h e o = let short = rw (after-is (x ∷ xs), e) at o in rw (lt-leb x (length xs) short)

-- an entry is whole
pub ends-turn : (k j size : ℕ) (rest next : List ℕ) → k ≡ suc j → 1 ≤ length rest → size ≡ get_or rest 0 0 → size ≤ length (after_first rest)
    → next ≡ slice_range (after_first rest) size (length (after_first rest)) → ends_after k rest ≡ ends_after j next
unfolding ends_after
ends-turn k j size [] next m h e o f = absurd (omega arith)
ends-turn k j size (x ∷ xs) next m h e o f =
    let fits = rw (after-is (x ∷ xs), e) at o in
    let following = rw (after-is (x ∷ xs), e, between_to_end xs x (length xs) (omega arith)) at f in
    rw (m, le-leb x (length xs) fits, following)

-- ---- at an entry's length, at the end, and past it

-- what is left at a position inside
opened : (s : List ℕ) (at : ℕ) → at < length s → drop at s ≡ get_or s at 0 ∷ drop (at + 1) s
opened s at h = rw (add-one at) (drop-cons s at 0 h)

ends_at : (k : ℕ) (s : List ℕ) (at : ℕ) → at < length s
    → ends_after (suc k) (drop at s) ≡ leb (get_or s at 0) (length s - (at + 1)) && ends_after k (drop (at + 1 + get_or s at 0) s)
unfolding ends_after
ends_at k s at h = rw (opened s at h, length-drop (at + 1) s, drop-drop (get_or s at 0) (at + 1) s)

-- an entry is missing
pub ends-short : (left : ℕ) (s : List ℕ) (at : ℕ) → 0 < left → length s ≤ at → ends_after left (drop at s) ≡ false
unfolding ends_after
ends-short zero s at z h = absurd (omega arith)
ends-short (suc k) s at z h = rw (drop_of_length-le s h)

-- ---- the entry at a position, and the position after it, where the entry is whole

module _ (s : List ℕ) (at : ℕ) (h : at < length s) (o : get_or s at 0 ≤ length s - (at + 1)) where
  next-whole : next_at s at ≡ at + 1 + get_or s at 0
  unfolding next_at
  next-whole = min-eq_left (omega arith)

  entries_at : (k : ℕ) → entries_of (suc k) (drop at s) ≡ entry_at s at ∷ entries_of k (drop (next_at s at) s)
  unfolding entries_of entry_at
  entries_at k = rw (next-whole, opened s at h, drop-drop (get_or s at 0) (at + 1) s)

-- ---- and where it is not

module _ (s : List ℕ) (at : ℕ) where
  pub entry_past : length s ≤ at → entry_at s at ≡ []
  unfolding entry_at
  entry_past h = rw (get_or-eq_default s 0 h)

  -- as the code has it: from a position that is not past the largest number
  pub entry-from : (n : ℕ) → (at < length s → n ≡ at + 1) → take (get_or s at 0) (drop n s) ≡ entry_at s at
  unfolding entry_at
  entry-from n e = elim (lt-or-ge at (length s)) [ inl h ↦ rw (e h) | inr h ↦ rw (get_or-eq_default s 0 h) ]

  entry-cut : length s - (at + 1) < get_or s at 0 → entry_at s at ≡ drop (at + 1) s
  unfolding entry_at
  entry-cut h = take_all (get_or s at 0) (drop (at + 1) s) (simp length-drop (omega arith))

  -- as the code has it: up to the batch's end, or for as long as the entry says
  pub entry-rest : length s - (at + 1) < get_or s at 0 → take (length s - (at + 1)) (drop (at + 1) s) ≡ entry_at s at
  entry-rest h = take_all (length s - (at + 1)) (drop (at + 1) s) (simp length-drop (omega arith)) ∙ sym (entry-cut h)

  pub entry-between : take (at + 1 + get_or s at 0 - (at + 1)) (drop (at + 1) s) ≡ entry_at s at
  unfolding entry_at
  entry-between = let e : at + 1 + get_or s at 0 - (at + 1) ≡ get_or s at 0 = omega arith in rw e

-- ---- one step

module _ (s : List ℕ) (at : ℕ) where
  stepped : take ((entry_span_at s at).end - (entry_span_at s at).start) (drop (entry_span_at s at).start s) ≡ entry_at s at
  unfolding entry_span_at next_at
  stepped = elim (lt-or-ge at (length s)) [
    | inl h ↦
        let b : min (at + 1) (length s) ≡ at + 1 = omega arith in
        elim (lt-or-ge (length s - (at + 1)) (get_or s at 0)) [
          | inl o ↦ let e : min (at + 1 + get_or s at 0) (length s) ≡ length s = omega arith in rw (b, e) (entry-rest s at o)
          | inr o ↦ let e : min (at + 1 + get_or s at 0) (length s) ≡ at + 1 + get_or s at 0 = omega arith in rw (b, e) (entry-between s at)
        ]
    | inr h ↦
        let z : min (at + 1 + get_or s at 0) (length s) - min (at + 1) (length s) ≡ 0 = omega arith in rw (z, entry_past s at h)
  ]

-- as a caller has it: the bytes are a part of the batch, and are the entry; where they end, the walk goes on
module _ (s : List ℕ) (at : ℕ) (r : EntrySpan) (e : r ≡ entry_span_at s at) where
  pub step-ordered : r.start ≤ r.end
  unfolding entry_span_at next_at
  step-ordered = rw e (omega arith)

  pub step-within : r.end ≤ length s
  unfolding entry_span_at next_at
  step-within = rw e (omega arith)

  pub step-next : r.end ≡ next_at s at
  unfolding entry_span_at
  step-next = rw e

  pub step-entry : take (r.end - r.start) (drop r.start s) ≡ entry_at s at
  step-entry = rw e (stepped s at)

-- one turn of a walk over entries of which all are whole
pub record Turn (k : ℕ) (s : List ℕ) (at : ℕ) : Type 0 where
  pub inside : at < length s
  pub entries : entries_of (suc k) (drop at s) ≡ entry_at s at ∷ entries_of k (drop (next_at s at) s)
  pub rest : ends_after k (drop (next_at s at) s) ≡ true

pub turn : (k : ℕ) (s : List ℕ) (at : ℕ) → ends_after (suc k) (drop at s) ≡ true → Turn k s at
turn k s at e = elim (lt-or-ge at (length s)) [ inl h ↦ whole h | inr h ↦ absurd (clash e (ends-short (suc k) s at (omega arith) h)) ]
  where
    whole : at < length s → Turn k s at
    whole h =
        let both : leb (get_or s at 0) (length s - (at + 1)) && ends_after k (drop (at + 1 + get_or s at 0) s) ≡ true = sym (ends_at k s at h) ∙ e in
        let fits : leb (get_or s at 0) (length s - (at + 1)) ≡ true = and_left (leb (get_or s at 0) (length s - (at + 1))) (ends_after k (drop (at + 1 + get_or s at 0) s)) both in
        let o : get_or s at 0 ≤ length s - (at + 1) = leb-true (get_or s at 0) (length s - (at + 1)) fits in
        record {
          inside = h;
          entries = entries_at s at h o k;
          rest = rw (next-whole s at h o) (and_right (leb (get_or s at 0) (length s - (at + 1))) (ends_after k (drop (at + 1 + get_or s at 0) s)) both);
        }

-- ---- the whole walk

-- 01: "A walk over a bundle": k entries from a position on
unfoldable pub walked : ℕ → List ℕ → ℕ → List (List ℕ)
walked zero s at = []
walked (suc k) s at = entry_at s at ∷ walked k s (next_at s at)

-- where the first entry's length stands
abbrev first_at : ℕ
first_at = 1

pub walked-entries : (k : ℕ) (s : List ℕ) (at : ℕ) → ends_after k (drop at s) ≡ true → walked k s at ≡ entries_of k (drop at s)
unfolding walked entries_of
walked-entries zero s at e = refl
walked-entries (suc k) s at e =
    let t : Turn k s at = turn k s at e in
    ap (λ (l : List (List ℕ)). entry_at s at ∷ l) (walked-entries k s (next_at s at) t.rest) ∙ sym t.entries

-- walking as many entries as the batch says, from the first on, gives its entries
pub batch-walked : (s : List ℕ) → exact_batch s ≡ true → walked (count_of s) s first_at ≡ batch_entries s
unfolding count_of exact_batch batch_entries walked
batch-walked [] e = refl
batch-walked (count ∷ rest) e = walked-entries count (count ∷ rest) first_at e

length-walked : (k : ℕ) (s : List ℕ) (at : ℕ) → length (walked k s at) ≡ k
unfolding walked
length-walked zero s at = refl
length-walked (suc k) s at = ap suc (length-walked k s (next_at s at))

-- and they are as many as it says
pub batch-count : (s : List ℕ) → exact_batch s ≡ true → length (batch_entries s) ≡ count_of s
batch-count s e = ap length (sym (batch-walked s e)) ∙ length-walked (count_of s) s first_at
