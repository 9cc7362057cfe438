-- A call that has nothing to do: of a queue with no frames and a batch with no entries nothing is heard and nothing is handed out.
-- Assumes nothing.
use Prim.Native.Nat.{ℕ, zero-le}
use mathlib.Core.Path.{◌≡◌, refl, sym, ap, ◌∙◌}
use mathlib.Core.Bool.{Bool, true, false, cond}
use mathlib.Core.List.{List, [], ◌∷◌}
use lib.Dec.{eqb}
use lib.ListN.{length}
use borrow.Author.Tests.{le-leb, eqb-true, eq-eqb, ne_eqb}
use Rattle.laws.specs.Lists.{every, chained, apart, select, overlay, fold_left, joined}
use Rattle.laws.proofs.Numbers.{and_left, and_right}
use Rattle.model.specs.Setup.{Setup, depth_of}
use Rattle.model.specs.Timestamp.{Timestamp, trimmed, widened}
use Rattle.model.specs.Frame.{Frame, two_bytes, two_at}
use Rattle.model.specs.Batch.{batch_entries, entries_of}
use Rattle.model.specs.Holdback.{cut_by, cut_frames, held_bytes, held, sound_holdback, encode_frames, encode_holdback}
use Rattle.model.specs.Judge.{Heard, hear, absorb_each, absorb_all}
use Rattle.model.specs.Tick.{holdback_size, opening_queue, taken_count}
use Rattle.timestamp.specs.declared.stamp.Timestamp as stamps
use Rattle.timestamp.specs.Views.{stamp_of}
use Rattle.batch.specs.Walk.{count_of}
use Rattle.splice.specs.Bytes.{pasted}
use Rattle.node.specs.declared.attending.Attended.{Attended}
use Rattle.node.specs.Answers.{passed_over}
use Rattle.node.specs.States.{is_idle, overdue_ones, absorbed_for, attended_all, attended_frames, AttendedWith, AttendedQueue, AttendedStamp}

-- ---- no frames

module _ (s : Setup) (v least : ℕ) (buffer : List ℕ) (none : two_at buffer 0 ≡ 0) where
  bytes-none : held_bytes s.epsilon buffer ≡ []
  unfolding held_bytes cut_frames cut_by
  bytes-none = rw none

  held_none : held s.epsilon buffer ≡ []
  unfolding held
  held_none = rw bytes-none

  sound_none : sound_holdback s v least buffer ≡ true
  unfolding sound_holdback every chained apart
  sound_none = rw (none, le-leb 0 (depth_of s) zero-le, bytes-none, held_none)

  opening-none : opening_queue s v least buffer ≡ []
  unfolding opening_queue
  opening-none = rw (sound_none, held_none)

-- ---- no frames and no entries, whatever the frames' widths: what is answered, and left

pub idle-with : {r : Attended} {t : stamps.Timestamp} {sound : Bool} {all : Heard} {handed stays : List Frame} {size : ℕ} {verdicts delivery buffer' delivery' : List ℕ} → r ≡ passed_over t
    → sound ≡ true → all ≡ record { queue = []; verdicts = [] } → handed ≡ [] → stays ≡ [] → buffer' ≡ encode_holdback size [] → delivery' ≡ overlay (encode_frames []) delivery
    → AttendedWith sound all handed stays size verdicts delivery r.repair r.taken r.delivered buffer' verdicts delivery'
unfolding select taken_count overlay
idle-with {size = size} {delivery = delivery} passed sound all handed stays kept given =
    record {
      repaired = ap (λ (x : Attended). x.repair) passed ∙ rw sound;
      taken_is = ap (λ (x : Attended). x.taken) passed ∙ rw all;
      count-is = ap (λ (x : Attended). x.delivered) passed ∙ ap length (sym handed);
      kept = kept ∙ ap (encode_holdback size) (sym stays);
      numbers = rw all;
      given = given ∙ ap (λ (l : List Frame). overlay (encode_frames l) delivery) (sym handed);
    }

-- ---- no entries

pub entries_none : (batch : List ℕ) → count_of batch ≡ 0 → batch_entries batch ≡ []
unfolding batch_entries count_of entries_of
entries_none [] e = refl
entries_none (count ∷ rest) e = rw e

module _ (listens : Bool) (s : Setup) (v least : ℕ) (batch buffer : List ℕ) (idle : is_idle batch buffer ≡ true) where
  no_frames_lem : two_at buffer 0 ≡ 0
  no_frames_lem = eqb-true (two_at buffer 0) 0 (and_left (eqb (two_at buffer 0) 0) (eqb (count_of batch) 0) idle)

  no-entries : batch_entries batch ≡ []
  no-entries = entries_none batch (eqb-true (count_of batch) 0 (and_right (eqb (two_at buffer 0) 0) (eqb (count_of batch) 0) idle))

  overdue-none : overdue_ones s v least buffer ≡ []
  unfolding select
  overdue-none = rw (opening-none s v least buffer no_frames_lem)

  heard-none : attended_all listens s v least batch buffer ≡ record { queue = []; verdicts = [] }
  unfolding select hear fold_left
  heard-none = rw (no-entries, opening-none s v least buffer no_frames_lem)

  absorbed-none : (t : Timestamp) (numbers : List ℕ) → absorbed_for listens s v t (batch_entries batch) numbers ≡ t
  unfolding absorbed_for absorb_all absorb_each
  absorbed-none t numbers = rw no-entries (go listens)
    where
      go : (b : Bool) → cond b t t ≡ t
      go true = refl
      go false = refl

  attended-none : attended_frames listens s v least batch buffer ≡ []
  unfolding select
  attended-none = rw (overdue-none, heard-none)

  -- ---- what is answered, and left

  module _ {r : Attended} {t : stamps.Timestamp} (passed : r ≡ passed_over t) where
    pub idle-stamp : stamp_of t ≡ widened (trimmed s.epsilon (stamp_of t)) → AttendedStamp listens s v least (stamp_of t) batch buffer (stamp_of r.stamp)
    idle-stamp narrow =
        record {
          stamp =
              ap (λ (x : Attended). stamp_of x.stamp) passed
              ∙ (narrow ∙ ap widened (sym (absorbed-none (trimmed s.epsilon (stamp_of t)) (attended_all listens s v least batch buffer).verdicts)));
        }

    pub idle-queue : {verdicts delivery buffer' delivery' : List ℕ} → length buffer ≡ holdback_size s → buffer' ≡ encode_holdback (length buffer) []
        → delivery' ≡ overlay (encode_frames []) delivery
        → AttendedQueue listens s v least batch buffer verdicts delivery r.repair r.taken r.delivered buffer' verdicts delivery'
    unfolding select
    idle-queue {verdicts} {delivery} size kept given =
        idle-with passed (sound_none s v least buffer no_frames_lem) heard-none attended-none (rw heard-none) (kept ∙ ap (λ (n : ℕ). encode_holdback n []) size) given

-- the delivery gets the count of no frames
pub none-given : (delivery : List ℕ) {delivery' : List ℕ} → delivery' ≡ pasted delivery 0 (two_bytes 0) → delivery' ≡ overlay (encode_frames []) delivery
unfolding pasted overlay encode_frames joined two_bytes
none-given delivery e = e

-- ---- the test

pub idle-frames : (batch buffer : List ℕ) {count : ℕ} → count ≡ two_at buffer 0 → (count ≡ 0 → ⊥) → false ≡ is_idle batch buffer
idle-frames batch buffer e n = rw (ne_eqb (two_at buffer 0) 0 (λ h. n (e ∙ h)))

pub idle-entries : (batch buffer : List ℕ) {count entries : ℕ} → count ≡ two_at buffer 0 → count ≡ 0 → entries ≡ count_of batch → eqb entries 0 ≡ is_idle batch buffer
idle-entries batch buffer e n h = rw (eq-eqb (two_at buffer 0) 0 (sym e ∙ n), h)
