-- 02, 2.10: what the functions of a tick with both pairs of limits ask of their arguments, and what they leave. `listens` is true of an observer,
-- and false of a node.
-- Assumes nothing.
use Rattle.std.specs.Prelude.{ℕ, ◌+◌, ◌*◌, ◌-◌, ◌≤◌, ◌<◌, ◌≡◌, Bool, true, cond, List, [], length}
use Rattle.laws.specs.Lists.{select, overlay, insert_at}
use Rattle.model.specs.Setup.{verdict_length, longest_frame, longest_payload}
use Rattle.model.specs.Timestamp.{Timestamp}
use Rattle.model.specs.Frame.{Frame}
use Rattle.model.specs.Batch.{exact_batch, batch_entries}
use Rattle.model.specs.Holdback.{encode_frames, encode_holdback}
use Rattle.model.specs.Question.{first_no}
use Rattle.model.specs.Judge.{Heard, taken}
use Rattle.model.specs.Tick.{holdback_size}
use Rattle.model.specs.Schedule.{Schedule, modulus_of, widest_of, own_limits}
use Rattle.model.specs.Wider.{wider_decode, wider_frame_questions, wider_held, wider_sound_holdback, wider_opening_queue, wider_due_now, wider_overdue, wider_opening, wider_delivered, wider_kept, wider_judge, wider_hear, wider_absorb_all, wider_tables_sound, wider_least, wider_opening_stamp}
use Rattle.lemmas.proofs.Schedules.{Good}
use Rattle.holdback.specs.Seen.{seen_table}
use Rattle.node.specs.States.{Hearing, HeardBuffers, OpenedAs, AttendedWith}
use Rattle.widerqueue.specs.Queue.{Extent, Spans}
use Rattle.widernode.specs.Views.{questions_for, start_in}

-- a call that has passed 1, 19 and 2
pub record Timed (g : Schedule) (v : ℕ) : Type 0 where
  pub good : Good g
  pub below : v < modulus_of g

-- and a frame that has passed 10 to 12
pub record Readable (g : Schedule) (v : ℕ) (bytes : List ℕ) : Type 0 where
  pub timed : Timed g v
  pub passed : first_no (wider_frame_questions g bytes) ≡ 0

-- the buffer has a sound queue of which no frame is due before v, and the table of origins is that of its frames
pub record Queued (g : Schedule) (v : ℕ) (buffer table : List ℕ) : Type 0 where
  pub size : length buffer ≡ holdback_size (widest_of g)
  pub sound : wider_sound_holdback g v (modulus_of g) buffer ≡ true
  pub table_is : table ≡ seen_table (own_limits g) v (wider_held g buffer)

-- ---- a frame taken: on the queue

-- a frame that is to be taken, by a node or an observer, at its place, and where that stands
pub record Taking (g : Schedule) (v : ℕ) (buffer : List ℕ) (place at : ℕ) (bytes : List ℕ) : Type 0 where
  pub timed : Timed g v
  pub listens : Bool
  pub judged : wider_judge g v (questions_for listens g v) (wider_held g buffer) bytes ≡ taken place
  pub starts : at ≡ start_in g buffer place

-- what putting it on the queue leaves
pub record Enqueued (g : Schedule) (v place : ℕ) (bytes buffer : List ℕ) (count stop : ℕ) (buffer' table' : List ℕ) : Type 0 where
  pub queued : Queued g v buffer' table'
  pub extent : Extent g buffer' (count + 1) (stop + length bytes)
  pub buffer-is : buffer' ≡ overlay (encode_frames (insert_at place (wider_decode g bytes) (wider_held g buffer))) buffer
  pub queue : wider_held g buffer' ≡ insert_at place (wider_decode g bytes) (wider_held g buffer)

-- ---- the hearing

-- a batch heard with those frames on the queue
abbrev pub heard_with : Bool → Schedule → ℕ → List Frame → List ℕ → Heard
heard_with listens g v queue batch = wider_hear g v (questions_for listens g v) (record { queue = queue; verdicts = [] }) (batch_entries batch)

-- what goes on the queue, and the verdicts
abbrev pub heard_all : Bool → Schedule → ℕ → List ℕ → List ℕ → Heard
heard_all listens g v batch buffer = heard_with listens g v (wider_held g buffer) batch

pub record HeardQueue (listens : Bool) (g : Schedule) (v : ℕ) (batch buffer verdicts : List ℕ) (took count stop : ℕ) (buffer' table' verdicts' : List ℕ) : Type 0 where
  pub queued : Queued g v buffer' table'
  pub extent : Extent g buffer' count stop
  pub buffers : HeardBuffers (wider_held g) encode_frames (heard_all listens g v batch buffer) buffer verdicts took buffer' verdicts'

-- what goes into the stamp, by the verdicts. 02, 2.6: one that only listens keeps "no counts"
unfoldable pub absorbed_for : Bool → Schedule → ℕ → Timestamp → List (List ℕ) → List ℕ → Timestamp
absorbed_for listens g v t entries numbers = cond listens t (wider_absorb_all g v t entries numbers)

-- ---- the opening

-- 01, tick 1 and 2: the tables judged, the stamp with which hearing starts, and the least due clock that the queue may have after them
abbrev pub StampOpened : Schedule → ℕ → Timestamp → Timestamp → ℕ → ℕ → Type 0
StampOpened g v t t' least repair = OpenedAs (wider_opening_stamp g v t) (wider_tables_sound g v t) (wider_least g v t) (own_limits g) t' least repair

-- 01, tick 1: the queue judged by the least due clock allowed, and emptied if it is unsound
unfoldable pub kept_buffer : Schedule → ℕ → ℕ → List ℕ → List ℕ
kept_buffer g v least buffer = cond (wider_sound_holdback g v least buffer) buffer (encode_holdback (length buffer) [])

pub record QueueJudged (g : Schedule) (v least : ℕ) (buffer : List ℕ) (repair count stop : ℕ) (buffer' table' : List ℕ) : Type 0 where
  pub repaired : repair ≡ cond (wider_sound_holdback g v least buffer) 0 2
  pub size : length buffer' ≡ holdback_size (widest_of g)
  pub sound : wider_sound_holdback g v least buffer' ≡ true
  pub table_is : table' ≡ seen_table (own_limits g) v (wider_held g buffer')
  pub extent : Extent g buffer' count stop
  pub buffer-is : buffer' ≡ kept_buffer g v least buffer
  pub queue : wider_held g buffer' ≡ wider_opening_queue g v least buffer

-- 02, 2.2: "Frames whose due clock lies before v go out before the bundle is judged": those, and the others
abbrev pub overdue_ones : Schedule → ℕ → ℕ → List ℕ → List Frame
overdue_ones g v least buffer = wider_overdue g v (wider_opening_queue g v least buffer)

abbrev pub other_ones : Schedule → ℕ → ℕ → List ℕ → List Frame
other_ones g v least buffer = (wider_opening g v (wider_opening_queue g v least buffer)).queue

-- what is overdue: how many frames, where they end in the delivery, and the delivery
pub record OverdueGiven (g : Schedule) (v least : ℕ) (buffer delivery : List ℕ) (index at : ℕ) (delivery' : List ℕ) : Type 0 where
  pub number : index ≡ length (overdue_ones g v least buffer)
  pub ends : at ≡ length (encode_frames (overdue_ones g v least buffer))
  pub given : delivery' ≡ overlay (encode_frames (overdue_ones g v least buffer)) delivery

-- the queue opened: judged, and without what is overdue
pub record QueueOpened (g : Schedule) (v least : ℕ) (buffer : List ℕ) (repair count stop : ℕ) (buffer' table' : List ℕ) : Type 0 where
  pub repaired : repair ≡ cond (wider_sound_holdback g v least buffer) 0 2
  pub queued : Queued g v buffer' table'
  pub extent : Extent g buffer' count stop
  pub buffer-is : buffer' ≡ overlay (encode_frames (other_ones g v least buffer)) (kept_buffer g v least buffer)
  pub queue : wider_held g buffer' ≡ other_ones g v least buffer

-- ---- delivering

-- 01, tick 6: what delivering asks, and leaves. `index` frames are handed out already, and end at `at`
pub record Closing (g : Schedule) (v count stop index at : ℕ) (buffer delivery : List ℕ) : Type 0 where
  pub timed : Timed g v
  pub size : length buffer ≡ holdback_size (widest_of g)
  pub sound : wider_sound_holdback g v (modulus_of g) buffer ≡ true
  pub extent : Extent g buffer count stop
  pub room : holdback_size (widest_of g) ≤ length delivery
  pub before : Spans g delivery index at index at
  pub few : index ≤ (own_limits g).n * (2 * (own_limits g).epsilon - 2)

pub record Delivered (g : Schedule) (v index : ℕ) (buffer delivery : List ℕ) (count : ℕ) (buffer' delivery' : List ℕ) : Type 0 where
  pub count-is : count ≡ index + length (select (wider_due_now g v) (wider_held g buffer))
  pub kept : buffer' ≡ encode_holdback (holdback_size (widest_of g)) (wider_kept g v (wider_held g buffer))
  pub given : delivery' ≡ overlay (encode_frames (wider_delivered g v (wider_held g delivery) (wider_held g buffer))) delivery

-- ---- what a node and an observer share: the queue opened, the batch heard, and what is due delivered

-- what it asks, of a call that has passed 1, 19 and 2
pub record Attending (g : Schedule) (t : Timestamp) (batch buffer verdicts delivery : List ℕ) : Type 0 where
  pub size : length buffer ≡ holdback_size (widest_of g)
  pub hearing : Hearing (own_limits g).epsilon t batch verdicts
  pub delivery-room : holdback_size (widest_of g) ≤ length delivery

-- what it leaves: the batch heard with what is left of the opened queue
abbrev pub attended_all : Bool → Schedule → ℕ → ℕ → List ℕ → List ℕ → Heard
attended_all listens g v least batch buffer = heard_with listens g v (other_ones g v least buffer) batch

-- the frames handed out. 02, 2.2: "both make one hand-out"
abbrev pub attended_frames : Bool → Schedule → ℕ → ℕ → List ℕ → List ℕ → List Frame
attended_frames listens g v least batch buffer = wider_delivered g v (overdue_ones g v least buffer) (attended_all listens g v least batch buffer).queue

abbrev pub AttendedQueue : Bool → Schedule → ℕ → ℕ → List ℕ → List ℕ → List ℕ → List ℕ → ℕ → ℕ → ℕ → List ℕ → List ℕ → List ℕ → Type 0
AttendedQueue listens g v least batch buffer verdicts delivery repair took delivered buffer' verdicts' delivery' =
    AttendedWith (wider_sound_holdback g v least buffer) (attended_all listens g v least batch buffer) (attended_frames listens g v least batch buffer)
    (wider_kept g v (attended_all listens g v least batch buffer).queue) (holdback_size (widest_of g)) verdicts delivery repair took delivered buffer' verdicts' delivery'

-- ---- an accepted call

-- what it has passed
pub record Accepted (g : Schedule) (own v : ℕ) (buffer batch payload outgoing verdicts delivery : List ℕ) : Type 0 where
  pub timed : Timed g v
  pub own_below : own < (own_limits g).n
  pub size : length buffer ≡ holdback_size (widest_of g)
  pub payload-short : length payload ≤ longest_payload
  pub exact : exact_batch batch ≡ true
  pub outgoing-room : longest_frame (widest_of g).epsilon ≤ length outgoing
  pub verdicts-room : verdict_length ≤ length verdicts
  pub delivery-room : holdback_size (widest_of g) ≤ length delivery
