-- The hearing loop, the half that goes into the stamp, whatever an entry's share of it is: what is absorbed so far, and what absorbing the rest
-- makes of it, is what absorbing all entries makes. Assumes nothing.
use Prim.Native.Nat.{ℕ, zero, suc, ◌+◌, ◌*◌, ◌-◌, ◌≤◌, ◌<◌}
use native.Mathlib.Nat.{sub-zero}
use native.Mathlib.Omega.{arith}
use mathlib.Core.Path.{◌≡◌, refl, sym, ap, ap₂, ◌∙◌}
use mathlib.Core.Bool.{Bool, true, false, cond}
use mathlib.Core.List.{List, [], ◌∷◌}
use lib.ListN.{length, drop, length-take, length-drop}
use Rattle.model.specs.Setup.{Setup, width}
use Rattle.model.specs.Timestamp.{Timestamp, trimmed, widened, absorb}
use Rattle.model.specs.Order.{reading_of}
use Rattle.model.specs.Frame.{Frame, counts_of, payload_count_at, decode}
use Rattle.model.specs.Batch.{exact_batch, batch_entries}
use Rattle.model.specs.Judge.{absorb_by, absorb_all, absorb_each}
use Rattle.lemmas.proofs.Counts.{trimmed-wide, trimmed-widened, absorb-wide}
use Rattle.timestamp.specs.Views.{of_counts}
use Rattle.batch.specs.Walk.{count_of, entry_at, next_at}
use Rattle.batch.proofs.Walk.{walked, batch-walked}
use Rattle.node.specs.States.{absorbed_for}
use Rattle.node.proofs.HearTurns.{walk_more}

-- ---- a frame's share, of its c and its counts as the code lends them

pub counts-wide : (epsilon : ℕ) (bytes : List ℕ) → payload_count_at epsilon ≤ length bytes → length (counts_of epsilon bytes) ≡ 2 * epsilon
unfolding counts_of payload_count_at width
counts-wide epsilon bytes h = rw (length-take, length-drop) (omega arith)

-- its r is not looked at
pub counts-absorbed : (epsilon at reading : ℕ) (t : Timestamp) (bytes : List ℕ) (c : ℕ) (counts : List ℕ) → c ≡ (decode epsilon bytes).stamp.c → counts ≡ counts_of epsilon bytes
    → absorb epsilon at t reading (of_counts c counts) ≡ absorb epsilon at t reading (decode epsilon bytes).stamp
unfolding absorb decode
counts-absorbed epsilon at reading t bytes c counts ec e = rw (ec, e)

-- ---- the loop

-- an entry's share of the stamp, by its verdict's number
abbrev pub Share : Type 0
Share = ℕ → List ℕ → Timestamp → Timestamp

absorbed-rest : (one : Share) (t : Timestamp) (batch numbers : List ℕ) (at k : ℕ) → k ≡ 0 → absorb_each one t (walked k batch at) numbers ≡ t
unfolding absorb_each walked
absorbed-rest one t batch numbers at k e = rw e

-- this half of the loop's invariant, at entry i, whose length stands at `at`; `numbers` are the verdicts of all entries
pub record StampTurning (one : Share) (epsilon : ℕ) (t₀ : Timestamp) (batch numbers : List ℕ) (t : Timestamp) (at i : ℕ) : Type 0 where
  pub narrow : t ≡ widened (trimmed epsilon t)
  pub whole : absorb_each one (trimmed epsilon t₀) (batch_entries batch) numbers ≡ absorb_each one (trimmed epsilon t) (walked (count_of batch - i) batch at) (drop i numbers)

pub stamp-start : {one : Share} {epsilon : ℕ} {t : Timestamp} {batch numbers : List ℕ} → t ≡ widened (trimmed epsilon t) → exact_batch batch ≡ true → StampTurning one epsilon t batch numbers t 1 0
stamp-start {one} {epsilon} {t} {batch} narrow exact =
    record { narrow = narrow; whole = rw (sub-zero (count_of batch), batch-walked batch exact) }

-- one turn: the entry's verdict is x, and the next entry stands at `at'`
module _ {one : Share} {epsilon : ℕ} {t₀ : Timestamp} {batch numbers : List ℕ} {t : Timestamp} {at i : ℕ} (u : StampTurning one epsilon t₀ batch numbers t at i) (more : i < count_of batch)
    {bytes : List ℕ} {at' x : ℕ} (entry : bytes ≡ entry_at batch at) (step : at' ≡ next_at batch at) (verdict : drop i numbers ≡ x ∷ drop (i + 1) numbers) where
  abbrev others : List (List ℕ)
  others = walked (count_of batch - (i + 1)) batch at'

  absorbed-one :
      absorb_each one (trimmed epsilon t₀) (batch_entries batch) numbers ≡ absorb_each one (one x bytes (trimmed epsilon t)) others (drop (i + 1) numbers)
  unfolding absorb_each
  absorbed-one =
      u.whole
      ∙ ap₂ (λ (entries : List (List ℕ)) (l : List ℕ). absorb_each one (trimmed epsilon t) entries l)
      (walk_more batch at i more ∙ ap₂ (λ (b : List ℕ) (k : ℕ). b ∷ walked (count_of batch - (i + 1)) batch k) (sym entry) (sym step)) verdict

  -- a refused frame is not absorbed
  pub stamp-refused : one x bytes (trimmed epsilon t) ≡ trimmed epsilon t → StampTurning one epsilon t₀ batch numbers t at' (i + 1)
  stamp-refused none =
      record { narrow = u.narrow; whole = absorbed-one ∙ ap (λ (y : Timestamp). absorb_each one y others (drop (i + 1) numbers)) none }

  -- a taken one is, and the places past the 2ε counts stay 0
  pub stamp-taken : {t' : Timestamp} → epsilon ≤ 16 → length (one x bytes (trimmed epsilon t)).kn ≡ width epsilon → t' ≡ widened (one x bytes (trimmed epsilon t)) → StampTurning one epsilon t₀ batch numbers t' at' (i + 1)
  stamp-taken {t'} small wide e =
      let kept : trimmed epsilon t' ≡ one x bytes (trimmed epsilon t) = ap (trimmed epsilon) e ∙ trimmed-widened epsilon (one x bytes (trimmed epsilon t)) small wide in
      record {
        narrow = e ∙ ap widened (sym kept);
        whole = absorbed-one ∙ ap (λ (y : Timestamp). absorb_each one y others (drop (i + 1) numbers)) (sym kept);
      }

pub stamp-end : {one : Share} {epsilon : ℕ} {t₀ : Timestamp} {batch numbers : List ℕ} {t : Timestamp} {at i : ℕ} → StampTurning one epsilon t₀ batch numbers t at i → count_of batch ≤ i
    → t ≡ widened (absorb_each one (trimmed epsilon t₀) (batch_entries batch) numbers)
stamp-end {one} {epsilon} {t₀} {batch} {numbers} {t} {at} {i} u h =
    let none : count_of batch - i ≡ 0 = omega arith in
    u.narrow
    ∙ ap widened (sym (u.whole ∙ absorbed-rest one (trimmed epsilon t) batch (drop i numbers) at (count_of batch - i) none))

-- ---- one that only listens absorbs none

abbrev pub listening : Bool → Share → Share
listening listens one x bytes t = cond listens t (one x bytes t)

listening-each : (listens : Bool) (one : Share) (t : Timestamp) (entries : List (List ℕ)) (numbers : List ℕ) → absorb_each (listening listens one) t entries numbers ≡ cond listens t (absorb_each one t entries numbers)
unfolding absorb_each
listening-each false one t entries numbers = refl
listening-each true one t [] numbers = refl
listening-each true one t (bytes ∷ rest) [] = refl
listening-each true one t (bytes ∷ rest) (x ∷ numbers) = listening-each true one t rest numbers

module _ (listens : Bool) (one : Share) where
  pub listening-refused : (x : ℕ) (bytes : List ℕ) (t : Timestamp) → ((k : ℕ) → one (suc k) bytes t ≡ t) → (x ≡ 0 → ⊥) → listening listens one x bytes t ≡ t
  listening-refused zero bytes t skips h = absurd (h refl)
  listening-refused (suc k) bytes t skips h = go listens
    where
      go : (b : Bool) → cond b t (one (suc k) bytes t) ≡ t
      go true = refl
      go false = skips k

  module _ (epsilon : ℕ) (bytes : List ℕ) (t : Timestamp) where
    pub listening-wide : length (one 0 bytes (trimmed epsilon t)).kn ≡ width epsilon → length (listening listens one 0 bytes (trimmed epsilon t)).kn ≡ width epsilon
    listening-wide h = go listens
      where
        go : (b : Bool) → length (cond b (trimmed epsilon t) (one 0 bytes (trimmed epsilon t))).kn ≡ width epsilon
        go true = trimmed-wide epsilon t
        go false = h

    pub listening-taken : {t' : Timestamp} → t ≡ widened (trimmed epsilon t) → t' ≡ cond listens t (widened (one 0 bytes (trimmed epsilon t))) → t' ≡ widened (listening listens one 0 bytes (trimmed epsilon t))
    listening-taken narrow e = e ∙ go listens
      where
        go : (b : Bool) → cond b t (widened (one 0 bytes (trimmed epsilon t))) ≡ widened (cond b (trimmed epsilon t) (one 0 bytes (trimmed epsilon t)))
        go true = narrow
        go false = refl

  pub listening-end : {epsilon : ℕ} {t₀ : Timestamp} {batch numbers : List ℕ} {t : Timestamp} {at i : ℕ} → StampTurning (listening listens one) epsilon t₀ batch numbers t at i → count_of batch ≤ i
      → t ≡ widened (cond listens (trimmed epsilon t₀) (absorb_each one (trimmed epsilon t₀) (batch_entries batch) numbers))
  listening-end {epsilon} {t₀} {batch} {numbers} u h =
      stamp-end u h ∙ ap widened (listening-each listens one (trimmed epsilon t₀) (batch_entries batch) numbers)

-- ---- at a node

-- a frame's share
abbrev frame_share : Setup → ℕ → Share
frame_share s v x bytes t = absorb_by x s v (decode s.epsilon bytes) t

abbrev pub absorbed_one : Bool → Setup → ℕ → Share
absorbed_one listens s v = listening listens (frame_share s v)

pub node-refused : (listens : Bool) (s : Setup) (v x : ℕ) (bytes : List ℕ) (t : Timestamp) → (x ≡ 0 → ⊥) → absorbed_one listens s v x bytes t ≡ t
node-refused listens s v x bytes t h = listening-refused listens (frame_share s v) x bytes t (λ k. refl) h

pub node_wide : (listens : Bool) (s : Setup) (v : ℕ) (bytes : List ℕ) (t : Timestamp) → length (absorbed_one listens s v 0 bytes (trimmed s.epsilon t)).kn ≡ width s.epsilon
node_wide listens s v bytes t =
    let f : Frame = decode s.epsilon bytes in
    listening-wide listens (frame_share s v) s.epsilon bytes t (absorb-wide s.epsilon s.modulus (reading_of s v f) (trimmed s.epsilon t) f.stamp)

pub node-taken :
    (listens : Bool) (s : Setup) (v : ℕ) (bytes : List ℕ) (t t' : Timestamp) → t ≡ widened (trimmed s.epsilon t)
    → t' ≡ cond listens t (widened (absorb_by 0 s v (decode s.epsilon bytes) (trimmed s.epsilon t)))
    → t' ≡ widened (absorbed_one listens s v 0 bytes (trimmed s.epsilon t))
node-taken listens s v bytes t t' narrow e = listening-taken listens (frame_share s v) s.epsilon bytes t narrow e

pub node_end : (listens : Bool) (s : Setup) (v : ℕ) {t₀ : Timestamp} {batch numbers : List ℕ} {t : Timestamp} {at i : ℕ} → StampTurning (absorbed_one listens s v) s.epsilon t₀ batch numbers t at i → count_of batch ≤ i
    → t ≡ widened (absorbed_for listens s v (trimmed s.epsilon t₀) (batch_entries batch) numbers)
unfolding absorbed_for absorb_all
node_end listens s v u h = listening-end listens (frame_share s v) u h
