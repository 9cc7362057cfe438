-- What a node and an observer share of a call, from its parts: what is opened, heard and delivered. Assumes nothing.
use Prim.Native.Nat.{ℕ, ◌+◌, ◌*◌, ◌-◌, ◌≤◌, ◌<◌}
use native.Mathlib.Omega.{arith}
use mathlib.Core.Path.{◌≡◌, refl, sym, ap, ap₂, ◌∙◌}
use mathlib.Core.Bool.{Bool, not, cond}
use mathlib.Core.List.{List, ◌++◌, Memᴰ}
use lib.ListN.{length, length-append}
use Rattle.laws.specs.Lists.{every, select, joined, overlay}
use Rattle.laws.proofs.Lists.{mem-of-select, every_map, every-of-mem, length-overlay, overlay-hides, joined-append}
use Rattle.model.specs.Setup.{Setup}
use Rattle.model.specs.Timestamp.{Timestamp, trimmed, widened}
use Rattle.model.specs.Frame.{Frame, two_bytes, two_at, encode, well_formed}
use Rattle.model.specs.Batch.{batch_entries}
use Rattle.model.specs.Holdback.{held_bytes, held, encode_frames, encode_holdback}
use Rattle.model.specs.Judge.{Heard}
use Rattle.model.specs.Tick.{holdback_size, opening_queue, due_before, due_now, taken_count}
use Rattle.lemmas.proofs.Bounds.{Limits, FrameOk}
use Rattle.lemmas.proofs.Questions.{limits-from}
use Rattle.lemmas.proofs.RoundTrip.{well-formed-encode, two-at-encode, held-encode, held-frames}
use Rattle.lemmas.proofs.Queue.{opening-queue, overdue-few, both-few, depth_small}
use Rattle.holdback.specs.Queue.{frame_start, Spans}
use Rattle.holdback.specs.Sound.{Recent}
use Rattle.holdback.proofs.Placed.{Wide, written-whole}
use Rattle.node.specs.States.{Timed, overdue_ones, OverdueGiven, QueueOpened, heard_with, heard_all, HeardQueue, HeardStamp, absorbed_for, Closing, Delivered, attended_all, AttendedWith, AttendedQueue, AttendedStamp}
use Rattle.node.proofs.Places.{size-two, frames-long}

-- more frames are no shorter
more-longer : (q r : List Frame) → length (encode_frames q) ≤ length (encode_frames (q ++ r))
unfolding encode_frames two_bytes
more-longer q r = omega (arith, ap length (joined-append encode q r), length-append (joined encode q) (joined encode r))

-- ---- from its parts, whatever the frames' widths (02, 2.10): what is overdue stands in the delivery, and what is due at v goes behind it

pub attended-from : (overdue due : List Frame) {sound : Bool} {all : Heard} {stays : List Frame} {size index repair took delivered : ℕ} {verdicts delivery delivery₁ buffer₃ verdicts₃ delivery₃ : List ℕ}
    → repair ≡ cond sound 0 2 → index ≡ length overdue → delivery₁ ≡ overlay (encode_frames overdue) delivery
    → took ≡ taken_count all.verdicts → verdicts₃ ≡ overlay all.verdicts verdicts
    → delivered ≡ index + length due → buffer₃ ≡ encode_holdback size stays → delivery₃ ≡ overlay (encode_frames (overdue ++ due)) delivery₁
    → AttendedWith sound all (overdue ++ due) stays size verdicts delivery repair took delivered buffer₃ verdicts₃ delivery₃
attended-from overdue due {delivery = delivery} e-repair number before e-taken e-numbers count kept given =
    record {
      repaired = e-repair;
      taken_is = e-taken;
      count-is = count ∙ ap (λ (n : ℕ). n + length due) number ∙ sym (length-append overdue due);
      kept = kept;
      numbers = e-numbers;
      given =
          given ∙ ap (overlay (encode_frames (overdue ++ due))) before
          ∙ overlay-hides (encode_frames (overdue ++ due)) (encode_frames overdue) delivery (more-longer overdue due);
    }

-- ---- what is overdue: sound frames, few, and they stand in the delivery

module _ {s : Setup} {v least : ℕ} {buffer delivery : List ℕ} {index at : ℕ} {delivery₁ : List ℕ} (t : Timed s v) (near : Recent s least)
    (room : holdback_size s ≤ length delivery) (h : OverdueGiven s v least buffer delivery index at delivery₁) where
  abbrev overdue : List Frame
  overdue = overdue_ones s v least buffer

  limits : Limits s
  limits = limits-from s t.limits

  overdue-frames : (f : Frame) → Memᴰ f overdue → FrameOk s f
  overdue-frames f m = (opening-queue s v least buffer limits).frames f (mem-of-select (due_before s v) (opening_queue s v least buffer) m).0

  overdue-number : length overdue ≤ s.n * (2 * s.epsilon - 2)
  overdue-number = overdue-few s v least (opening_queue s v least buffer) limits t.below near.late (opening-queue s v least buffer limits)

  -- none of them is too long for the delivery
  overdue-fits : length (encode_frames overdue) ≤ length delivery
  overdue-fits = omega (arith, frames-long s overdue limits overdue-frames (omega (arith, overdue-number, both-few s)), room)

  overdue-long : length delivery₁ ≡ length delivery
  overdue-long = ap length h.given ∙ length-overlay (encode_frames overdue) delivery overdue-fits

  overdue-small : length overdue < 65536
  overdue-small = omega (arith, overdue-number, both-few s, depth_small s limits)

  overdue-held : held s.epsilon delivery₁ ≡ overdue
  unfolding overlay
  overdue-held = ap (held s.epsilon) h.given ∙ held-frames s.epsilon overdue _ (λ f m. (overdue-frames f m).sound.wide) overdue-small

  overdue-spans : Spans s.epsilon delivery₁ index at index at
  unfolding overlay
  overdue-spans =
      let wide : Wide s.epsilon overdue = λ f m. (overdue-frames f m).sound.wide in
      let count : two_at delivery₁ 0 ≡ length overdue = ap (λ (l : List ℕ). two_at l 0) h.given ∙ two-at-encode overdue _ in
      let ends : at ≡ frame_start s.epsilon delivery₁ index =
      h.ends ∙ sym (ap₂ (λ (l : List ℕ) (n : ℕ). frame_start s.epsilon l n) h.given h.number ∙ written-whole s.epsilon overdue _ wide) in
      record {
        formed =
            ap (λ (l : List ℕ). every (well_formed s.epsilon) (held_bytes s.epsilon l)) h.given
            ∙ ap (every (well_formed s.epsilon)) (held-encode s.epsilon overdue _ wide overdue-small)
            ∙ (every_map (well_formed s.epsilon) encode overdue
            ∙ every-of-mem (λ f. well_formed s.epsilon (encode f)) overdue (λ f m. well-formed-encode s.epsilon f (overdue-frames f m).sound.wide (overdue-frames f m).short));
        two = omega (arith, overdue-long, size-two s (holdback_size s) refl, room);
        count-is = h.number ∙ sym count;
        ends = ends;
        inside = omega arith;
        starts = ends;
      }

  -- ---- the batch heard with what is left, and what is due at v delivered

  module _ {emptied count₁ stop₁ : ℕ} {buffer₁ table₁ starts₁ : List ℕ} (q : QueueOpened s v least buffer emptied count₁ stop₁ buffer₁ table₁ starts₁) where
    all : (listens : Bool) (batch : List ℕ) → heard_all listens s v batch buffer₁ ≡ attended_all listens s v least batch buffer
    all listens batch = ap (λ (x : List Frame). heard_with listens s v x batch) q.queue

    pub attended-stamp : {listens : Bool} {batch : List ℕ} {t₁ t₂ : Timestamp} → HeardStamp listens s v t₁ batch buffer₁ t₂ → AttendedStamp listens s v least t₁ batch buffer t₂
    attended-stamp {listens} {batch} {t₁} g =
        record {
          stamp = g.stamp ∙ ap (λ (y : Heard). widened (absorbed_for listens s v (trimmed s.epsilon t₁) (batch_entries batch) y.verdicts)) (all listens batch);
        }

    module _ {listens : Bool} {batch verdicts : List ℕ} {took count stop : ℕ} {buffer₂ table₂ starts₂ verdicts₂ : List ℕ}
        (g : HeardQueue listens s v batch buffer₁ verdicts took count stop buffer₂ table₂ starts₂ verdicts₂) where
      pub closing : Closing s v count stop index at buffer₂ delivery₁
      closing =
          record {
            timed = t;
            size = g.queued.size;
            sound = g.queued.sound;
            extent = g.extent;
            room = omega (arith, room, overdue-long);
            before = overdue-spans;
            few = omega (arith, h.number, overdue-number);
          }

      queue-is : held s.epsilon buffer₂ ≡ (attended_all listens s v least batch buffer).queue
      queue-is = g.buffers.queue ∙ ap (λ (x : Heard). x.queue) (all listens batch)

      pub attended-queue : {delivered : ℕ} {buffer₃ delivery₃ : List ℕ} → Delivered s v index buffer₂ delivery₁ delivered buffer₃ delivery₃
          → AttendedQueue listens s v least batch buffer verdicts delivery emptied took delivered buffer₃ verdicts₂ delivery₃
      attended-queue d =
          attended-from overdue (select (due_now s v) (attended_all listens s v least batch buffer).queue) q.repaired h.number h.given
          (g.buffers.taken_is ∙ ap (λ (x : Heard). taken_count x.verdicts) (all listens batch))
          (g.buffers.numbers ∙ ap (λ (x : Heard). overlay x.verdicts verdicts) (all listens batch))
          (d.count-is ∙ ap (λ (l : List Frame). index + length (select (due_now s v) l)) queue-is)
          (d.kept ∙ ap (λ (l : List Frame). encode_holdback (holdback_size s) (select (λ f. not (due_now s v f)) l)) queue-is)
          (d.given ∙ ap₂ (λ (q : List Frame) (l : List Frame). overlay (encode_frames (q ++ select (due_now s v) l)) delivery₁) overdue-held queue-is)
