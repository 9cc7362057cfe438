-- 02, 2.10: what a node and an observer share of a call with both pairs of limits, from its parts: what is opened, heard and delivered.
-- Assumes nothing.
use Prim.Native.Nat.{ℕ, ◌+◌, ◌*◌, ◌-◌, ◌≤◌}
use native.Mathlib.Omega.{arith}
use mathlib.Core.Path.{◌≡◌, refl, sym, ap, ap₂, ◌∙◌}
use mathlib.Core.Bool.{Bool, true, false, not, cond}
use mathlib.Core.List.{List, [], ◌++◌, Memᴰ}
use lib.Dec.{eqb}
use lib.ListN.{length, drop}
use lib.Seq.{take_all}
use borrow.Author.Tests.{eqb-true}
use Rattle.laws.specs.Lists.{every, select, overlay, fold_left}
use Rattle.laws.proofs.Numbers.{and_left, and_right}
use Rattle.laws.proofs.Lists.{mem-of-select, every_map, every-of-mem, length-overlay}
use Rattle.model.specs.Timestamp.{Timestamp, trimmed, widened}
use Rattle.model.specs.Frame.{Frame, two_at, encode}
use Rattle.model.specs.Batch.{batch_entries}
use Rattle.model.specs.Holdback.{encode_frames, encode_holdback}
use Rattle.model.specs.Judge.{Heard, absorb_each}
use Rattle.model.specs.Tick.{holdback_size, taken_count}
use Rattle.model.specs.Schedule.{Schedule, widest_of, modulus_of, own_limits}
use Rattle.model.specs.Wider.{wider_formed, wider_held_bytes, wider_held, wider_opening_queue, wider_due_before, wider_due_now, wider_hear, wider_absorb_all}
use Rattle.lemmas.proofs.Queue.{both-few}
use Rattle.lemmas.proofs.Schedules.{limits-modulus}
use Rattle.lemmas.proofs.WideFrames.{HasWidth, FrameWithin, wide-formed, wide-held, wide-held-bytes, length-wide-held}
use Rattle.lemmas.proofs.WiderQueue.{QueueAlong, opening-along, overdue-few-along}
use Rattle.timestamp.specs.declared.stamp.Timestamp as stamps
use Rattle.timestamp.specs.Views.{stamp_of}
use Rattle.batch.specs.Walk.{count_of}
use Rattle.holdback.specs.Sound.{Recent}
use Rattle.node.specs.declared.attending.Attended.{Attended}
use Rattle.node.specs.Answers.{passed_over}
use Rattle.node.specs.States.{is_idle}
use Rattle.node.proofs.Places.{size-two}
use Rattle.node.proofs.Shared.{attended-from}
use Rattle.node.proofs.Nothing.{idle-with, entries_none}
use Rattle.widerqueue.specs.Queue.{Spans}
use Rattle.widernode.specs.States.{Timed, overdue_ones, OverdueGiven, QueueOpened, heard_with, heard_all, HeardQueue, absorbed_for, Closing, Delivered, attended_all, attended_frames, AttendedQueue}
use Rattle.widernode.proofs.Places.{frames-long, sound_none, opening-none}

-- ---- what is overdue: sound frames, few, and they stand in the delivery

module _ {g : Schedule} {v least : ℕ} {buffer delivery : List ℕ} {index at : ℕ} {delivery₁ : List ℕ} (t : Timed g v) (near : Recent (own_limits g) least)
    (room : holdback_size (widest_of g) ≤ length delivery) (h : OverdueGiven g v least buffer delivery index at delivery₁) where
  abbrev overdue : List Frame
  overdue = overdue_ones g v least buffer

  opened-ok : QueueAlong g v least (wider_opening_queue g v least buffer)
  opened-ok = opening-along g t.good v least buffer

  overdue-frames : (f : Frame) → Memᴰ f overdue → FrameWithin g (own_limits g) f
  overdue-frames f m = opened-ok.frames f (mem-of-select (wider_due_before g v) (wider_opening_queue g v least buffer) m).0

  overdue-wide : (f : Frame) → Memᴰ f overdue → HasWidth g f
  overdue-wide f m = (overdue-frames f m).wide

  overdue-number : length overdue ≤ (own_limits g).n * (2 * (own_limits g).epsilon - 2)
  overdue-number =
      overdue-few-along g t.good v least (wider_opening_queue g v least buffer) t.below (omega (arith, near.late, limits-modulus g t.good (modulus_of g))) opened-ok

  -- none of them is too long for the delivery
  overdue-fits : length (encode_frames overdue) ≤ length delivery
  overdue-fits = omega (arith, frames-long g overdue t.good overdue-frames (omega (arith, overdue-number, both-few (own_limits g))), room)

  overdue-long : length delivery₁ ≡ length delivery
  overdue-long = ap length h.given ∙ length-overlay (encode_frames overdue) delivery overdue-fits

  overdue-held : wider_held g delivery₁ ≡ overdue
  unfolding overlay
  overdue-held = ap (wider_held g) h.given ∙ wide-held g overdue overdue-wide (drop (length (encode_frames overdue)) delivery)

  overdue-spans : Spans g delivery₁ index at index at
  unfolding overlay
  overdue-spans =
      let long : length (wider_held g delivery₁) ≡ index = ap length overdue-held ∙ sym h.number in
      let ends : at ≡ length (encode_frames (wider_held g delivery₁)) = h.ends ∙ sym (ap (λ (l : List Frame). length (encode_frames l)) overdue-held) in
      record {
        formed =
            ap (λ (l : List ℕ). every (wider_formed g) (wider_held_bytes g l)) h.given
            ∙ (ap (every (wider_formed g)) (wide-held-bytes g overdue overdue-wide (drop (length (encode_frames overdue)) delivery))
            ∙ (every_map (wider_formed g) encode overdue
            ∙ every-of-mem (λ f. wider_formed g (encode f)) overdue (λ f m. wide-formed g f (overdue-wide f m) (overdue-frames f m).short)));
        two = omega (arith, overdue-long, size-two (widest_of g) (holdback_size (widest_of g)) refl, room);
        count-is = sym long ∙ length-wide-held g delivery₁;
        ends = ends;
        inside = omega arith;
        starts = ends ∙ ap (λ (l : List Frame). length (encode_frames l)) (sym (take_all index (wider_held g delivery₁) (omega arith)));
      }

  -- ---- the batch heard with what is left, and what is due at v delivered

  module _ {emptied count₁ stop₁ : ℕ} {buffer₁ table₁ : List ℕ} (q : QueueOpened g v least buffer emptied count₁ stop₁ buffer₁ table₁) where
    all : (listens : Bool) (batch : List ℕ) → heard_all listens g v batch buffer₁ ≡ attended_all listens g v least batch buffer
    all listens batch = ap (λ (x : List Frame). heard_with listens g v x batch) q.queue

    pub attended-stamp : (listens : Bool) (batch : List ℕ) (t₁ : Timestamp) {t₂ : Timestamp}
        → t₂ ≡ widened (absorbed_for listens g v (trimmed (own_limits g).epsilon t₁) (batch_entries batch) (heard_all listens g v batch buffer₁).verdicts)
        → t₂ ≡ widened (absorbed_for listens g v (trimmed (own_limits g).epsilon t₁) (batch_entries batch) (attended_all listens g v least batch buffer).verdicts)
    attended-stamp listens batch t₁ e =
        e ∙ ap (λ (y : Heard). widened (absorbed_for listens g v (trimmed (own_limits g).epsilon t₁) (batch_entries batch) y.verdicts)) (all listens batch)

    module _ {listens : Bool} {batch verdicts : List ℕ} {took count stop : ℕ} {buffer₂ table₂ verdicts₂ : List ℕ}
        (b : HeardQueue listens g v batch buffer₁ verdicts took count stop buffer₂ table₂ verdicts₂) where
      pub closing : Closing g v count stop index at buffer₂ delivery₁
      closing =
          record {
            timed = t;
            size = b.queued.size;
            sound = b.queued.sound;
            extent = b.extent;
            room = omega (arith, room, overdue-long);
            before = overdue-spans;
            few = omega (arith, h.number, overdue-number);
          }

      queue-is : wider_held g buffer₂ ≡ (attended_all listens g v least batch buffer).queue
      queue-is = b.buffers.queue ∙ ap (λ (x : Heard). x.queue) (all listens batch)

      pub attended-queue : {delivered : ℕ} {buffer₃ delivery₃ : List ℕ} → Delivered g v index buffer₂ delivery₁ delivered buffer₃ delivery₃
          → AttendedQueue listens g v least batch buffer verdicts delivery emptied took delivered buffer₃ verdicts₂ delivery₃
      attended-queue d =
          attended-from overdue (select (wider_due_now g v) (attended_all listens g v least batch buffer).queue) q.repaired h.number h.given
          (b.buffers.taken_is ∙ ap (λ (x : Heard). taken_count x.verdicts) (all listens batch))
          (b.buffers.numbers ∙ ap (λ (x : Heard). overlay x.verdicts verdicts) (all listens batch))
          (d.count-is ∙ ap (λ (l : List Frame). index + length (select (wider_due_now g v) l)) queue-is)
          (d.kept ∙ ap (λ (l : List Frame). encode_holdback (holdback_size (widest_of g)) (select (λ f. not (wider_due_now g v f)) l)) queue-is)
          (d.given ∙ ap₂ (λ (o : List Frame) (l : List Frame). overlay (encode_frames (o ++ select (wider_due_now g v) l)) delivery₁) overdue-held queue-is)

-- ---- a call that has nothing to do

module _ (listens : Bool) (g : Schedule) (v least : ℕ) (batch buffer : List ℕ) (idle : is_idle batch buffer ≡ true) where
  no_frames_lem : two_at buffer 0 ≡ 0
  no_frames_lem = eqb-true (two_at buffer 0) 0 (and_left (eqb (two_at buffer 0) 0) (eqb (count_of batch) 0) idle)

  no-entries : batch_entries batch ≡ []
  no-entries = entries_none batch (eqb-true (count_of batch) 0 (and_right (eqb (two_at buffer 0) 0) (eqb (count_of batch) 0) idle))

  heard-none : attended_all listens g v least batch buffer ≡ record { queue = []; verdicts = [] }
  unfolding select wider_hear fold_left
  heard-none = rw (no-entries, opening-none g v least buffer no_frames_lem)

  handed-none : attended_frames listens g v least batch buffer ≡ []
  unfolding select
  handed-none = rw (heard-none, opening-none g v least buffer no_frames_lem)

  absorbed-none : (t : Timestamp) (numbers : List ℕ) → absorbed_for listens g v t (batch_entries batch) numbers ≡ t
  unfolding absorbed_for wider_absorb_all absorb_each
  absorbed-none t numbers = rw no-entries (go listens)
    where
      go : (b : Bool) → cond b t t ≡ t
      go true = refl
      go false = refl

  module _ {r : Attended} {t : stamps.Timestamp} (passed : r ≡ passed_over t) where
    pub idle-stamp : stamp_of t ≡ widened (trimmed (own_limits g).epsilon (stamp_of t))
        → stamp_of r.stamp ≡ widened (absorbed_for listens g v (trimmed (own_limits g).epsilon (stamp_of t)) (batch_entries batch) (attended_all listens g v least batch buffer).verdicts)
    idle-stamp narrow =
        ap (λ (x : Attended). stamp_of x.stamp) passed
        ∙ (narrow ∙ ap widened (sym (absorbed-none (trimmed (own_limits g).epsilon (stamp_of t)) (attended_all listens g v least batch buffer).verdicts)))

    pub idle-queue : {verdicts delivery buffer' delivery' : List ℕ} → length buffer ≡ holdback_size (widest_of g) → buffer' ≡ encode_holdback (length buffer) []
        → delivery' ≡ overlay (encode_frames []) delivery
        → AttendedQueue listens g v least batch buffer verdicts delivery r.repair r.taken r.delivered buffer' verdicts delivery'
    unfolding select
    idle-queue size kept given =
        idle-with passed (sound_none g v least buffer no_frames_lem) heard-none handed-none (rw heard-none) (kept ∙ ap (λ (n : ℕ). encode_holdback n []) size) given
