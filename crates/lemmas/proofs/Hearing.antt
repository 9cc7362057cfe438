-- Hearing a batch, whatever is asked of an entry and wherever a taken frame is put: a station's, an observer's and an engine's.
-- Assumes nothing.
use Prim.Native.Nat.{ℕ, zero, suc, ◌+◌, ◌≤◌, ◌<◌}
use native.Mathlib.Omega.{arith}
use native.Mathlib.Nat.{add-zero, zero-add}
use mathlib.Core.Path.{◌≡◌, refl, sym, ap, ◌∙◌}
use mathlib.Core.Bool.{true}
use mathlib.Core.List.{List, [], ◌∷◌, ◌++◌, append-nil, append_assoc}
use mathlib.Core.Option.{some}
use lib.Dec.{ltb}
use lib.ListN.{length, take, drop, get_or, get_elem?, length-append, get_or-append}
use lib.Seq.{get_or-append_seam}
use borrow.Author.Tests.{ltb-true}
use Rattle.laws.specs.Lists.{every, insert_at, overlay, fold_left}
use Rattle.laws.proofs.Numbers.{and_left}
use Rattle.laws.proofs.Lists.{take-overlay, get_elem?-lt}
use Rattle.model.specs.Timestamp.{Timestamp}
use Rattle.model.specs.Frame.{Frame}
use Rattle.model.specs.Batch.{entries_of, batch_entries}
use Rattle.model.specs.Question.{first_no}
use Rattle.model.specs.Judge.{Asking, Heard, verdict_by, hear_by, absorb_each}

-- a bundle has as many entries as its count says, at most
pub entries-few : (k : ℕ) (s : List ℕ) → length (entries_of k s) ≤ k
unfolding entries_of
entries-few zero s = omega arith
entries-few (suc k) [] = omega arith
entries-few (suc k) (size ∷ rest) = let more = entries-few k (drop size rest) in omega arith

-- and one of bytes at most 255
pub batch-few : (batch : List ℕ) → every (λ b. ltb b 256) batch ≡ true → length (batch_entries batch) ≤ 255
unfolding batch_entries every
batch-few [] h = omega arith
batch-few (count ∷ rest) h = omega (arith, entries-few count rest, ltb-true count 256 (and_left (ltb count 256) _ h))

-- one entry, by the number of the first no: the number stands behind those before it
pub by-verdict : (k place : ℕ) (f : Frame) (h : Heard) → (hear_by (verdict_by k place) f h).verdicts ≡ h.verdicts ++ (k ∷ [])
by-verdict zero place f h = refl
by-verdict (suc k) place f h = refl

-- and the frame is put in its place, or the queue stays
pub by-queue :
    (P : List Frame → Type 0) (k place : ℕ) (f : Frame) (h : Heard) → (k ≡ 0 → P (insert_at place f h.queue)) → P h.queue
    → P (hear_by (verdict_by k place) f h).queue
by-queue P zero place f h taken old = taken refl
by-queue P (suc k) place f h taken old = old

module _ (asking : Asking) (one : Heard → List ℕ → Heard) where
  -- the verdicts of the entries, without those before them
  unfoldable pub numbers_by : Heard → List (List ℕ) → List ℕ
  numbers_by h [] = []
  numbers_by h (bytes ∷ rest) = first_no (asking h.queue bytes) ∷ numbers_by (one h bytes) rest

  -- what each entry keeps of the queue, all of them do
  pub fold-queue :
      (P : List Frame → Type 0) → ((h : Heard) (bytes : List ℕ) → P h.queue → P (one h bytes).queue)
      → (h : Heard) (entries : List (List ℕ)) → P h.queue → P (fold_left one h entries).queue
  unfolding fold_left
  fold-queue P keeps h [] p = p
  fold-queue P keeps h (bytes ∷ rest) p = fold-queue P keeps (one h bytes) rest (keeps h bytes p)

  -- and what each keeps of the stamp
  pub fold-stamp :
      (absorbs : ℕ → List ℕ → Timestamp → Timestamp) (P : Timestamp → Type 0)
      → ((queue : List Frame) (bytes : List ℕ) (t : Timestamp) → P t → P (absorbs (first_no (asking queue bytes)) bytes t))
      → (h : Heard) (t : Timestamp) (entries : List (List ℕ)) → P t → P (absorb_each absorbs t entries (numbers_by h entries))
  unfolding absorb_each numbers_by
  fold-stamp absorbs P keeps h t [] p = p
  fold-stamp absorbs P keeps h t (bytes ∷ rest) p =
      fold-stamp absorbs P keeps (one h bytes) (absorbs (first_no (asking h.queue bytes)) bytes t) rest (keeps h.queue bytes t p)

  -- each entry's verdict is written behind those before it
  module _ (writes : (h : Heard) (bytes : List ℕ) → (one h bytes).verdicts ≡ h.verdicts ++ (first_no (asking h.queue bytes) ∷ [])) where
    pub fold-verdicts : (h : Heard) (entries : List (List ℕ)) → (fold_left one h entries).verdicts ≡ h.verdicts ++ numbers_by h entries
    unfolding fold_left numbers_by
    fold-verdicts h [] = sym (append-nil h.verdicts)
    fold-verdicts h (bytes ∷ rest) =
        fold-verdicts (one h bytes) rest
        ∙ (ap (λ (l : List ℕ). l ++ numbers_by (one h bytes) rest) (writes h bytes)
        ∙ append_assoc h.verdicts (first_no (asking h.queue bytes) ∷ []) (numbers_by (one h bytes) rest))

    pub one-length : (h : Heard) (bytes : List ℕ) → length (one h bytes).verdicts ≡ length h.verdicts + 1
    one-length h bytes = rw (writes h bytes) (length-append h.verdicts _)

    pub fold-length : (h : Heard) (entries : List (List ℕ)) → length (fold_left one h entries).verdicts ≡ length h.verdicts + length entries
    unfolding fold_left
    fold-length h [] = sym (add-zero (length h.verdicts))
    fold-length h (bytes ∷ rest) =
        let here = one-length h bytes in
        let all = fold-length (one h bytes) rest in
        omega arith

    -- what was written stays
    pub fold-keeps : (h : Heard) (entries : List (List ℕ)) (k : ℕ) → k < length h.verdicts → get_or (fold_left one h entries).verdicts k 0 ≡ get_or h.verdicts k 0
    unfolding fold_left
    fold-keeps h [] k below = refl
    fold-keeps h (bytes ∷ rest) k below =
        fold-keeps (one h bytes) rest k (omega (arith, one-length h bytes))
        ∙ (ap (λ (l : List ℕ). get_or l k 0) (writes h bytes) ∙ get_or-append h.verdicts _ 0 k below)

    pub fold-verdict :
        (h : Heard) (entries : List (List ℕ)) (k : ℕ) (entry : List ℕ) → get_elem? entries k ≡ some entry
        → get_or (fold_left one h entries).verdicts (length h.verdicts + k) 0 ≡ first_no (asking (fold_left one h (take k entries)).queue entry)
    unfolding fold_left
    fold-verdict h [] k entry e = absurd (let z : ◌≡◌ {A = ℕ} 0 1 = cc in omega arith)
    fold-verdict h (bytes ∷ rest) zero entry e =
        let same : bytes ≡ entry = cc in
        rw (add-zero (length h.verdicts))
        (fold-keeps (one h bytes) rest (length h.verdicts) (omega (arith, one-length h bytes))
        ∙ (ap (λ (l : List ℕ). get_or l (length h.verdicts) 0) (writes h bytes)
        ∙ (get_or-append_seam h.verdicts (first_no (asking h.queue bytes)) [] 0
        ∙ ap (λ (b : List ℕ). first_no (asking h.queue b)) same)))
    fold-verdict h (bytes ∷ rest) (suc k) entry e =
        let there : length h.verdicts + suc k ≡ length (one h bytes).verdicts + k = omega (arith, one-length h bytes) in
        rw there (fold-verdict (one h bytes) rest k entry e)

    -- in a call nothing is written before: the verdicts stand at the front of their buffer
    module _ (queue : List Frame) (entries : List (List ℕ)) where
      abbrev start : Heard
      start = record { queue = queue; verdicts = [] }

      pub all-length : length (fold_left one start entries).verdicts ≡ length entries
      all-length = fold-length start entries ∙ zero-add (length entries)

      pub all-front : (old : List ℕ) → take (length entries) (overlay (fold_left one start entries).verdicts old) ≡ (fold_left one start entries).verdicts
      all-front old =
          ap (λ (k : ℕ). take k (overlay (fold_left one start entries).verdicts old)) (sym all-length)
          ∙ take-overlay (fold_left one start entries).verdicts old

      pub all-verdict :
          (old : List ℕ) (k : ℕ) (entry : List ℕ) → get_elem? entries k ≡ some entry
          → get_or (overlay (fold_left one start entries).verdicts old) k 0 ≡ first_no (asking (fold_left one start (take k entries)).queue entry)
      unfolding overlay
      all-verdict old k entry e =
          let written = (fold_left one start entries).verdicts in
          get_or-append written (drop (length written) old) 0 k (omega (arith, all-length, get_elem?-lt entries k e))
          ∙ (ap (λ (m : ℕ). get_or written m 0) (sym (zero-add k)) ∙ fold-verdict start entries k entry e)
