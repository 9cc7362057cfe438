-- What the functions of a tick ask of their arguments, and what they leave. `listens` is true of an observer, and false of a node.
-- Assumes nothing.
use Rattle.std.specs.Prelude.{ℕ, ◌+◌, ◌*◌, ◌-◌, ◌^◌, ◌≤◌, ◌<◌, ◌≡◌, Bool, true, ◌&&◌, not, cond, List, [], ◌++◌, eqb, length}
use Rattle.laws.specs.Lists.{select, overlay, insert_at}
use Rattle.model.specs.Setup.{Setup, in_limits, verdict_length}
use Rattle.model.specs.Timestamp.{Timestamp, trimmed, widened, clock_step, sound_clock}
use Rattle.model.specs.Frame.{Frame, two_at, encode, decode, payload_count_at}
use Rattle.model.specs.Batch.{exact_batch, batch_entries}
use Rattle.model.specs.Holdback.{held, sound_holdback, encode_frames, encode_holdback}
use Rattle.model.specs.Question.{first_no, frame_questions}
use Rattle.model.specs.Codec.{frame_of}
use Rattle.model.specs.Judge.{Heard, judge, taken, hear, absorb_all}
use Rattle.model.specs.Tick.{holdback_size, tables_sound, least_after, least_due, opening_stamp, opening_queue, due_before, due_now, delivered_in, kept_in, taken_count}
use Rattle.batch.specs.Walk.{count_of}
use Rattle.holdback.specs.Queue.{frame_start, end_of, Spans}
use Rattle.holdback.specs.Seen.{seen_table}
use Rattle.holdback.specs.Starts.{starts_of}
use Rattle.holdback.specs.Sound.{Recent}
use Rattle.holdback.specs.Overdue.{SoundBy, released_buffer}
use Rattle.node.specs.Views.{questions_for}

-- a call that has passed 1 and 2
pub record Timed (s : Setup) (v : ℕ) : Type 0 where
  pub limits : in_limits s ≡ true
  pub below : v < s.modulus

-- and a frame that has passed 10 to 12
pub record Readable (s : Setup) (v : ℕ) (bytes : List ℕ) : Type 0 where
  pub timed : Timed s v
  pub passed : first_no (frame_questions s bytes) ≡ 0

-- what the questions on a frame's time, and its counts absorbed, ask of its bytes, with r at a reading, and v at its own: both are numbers of the machine
pub record Askable (s : Setup) (at reading : ℕ) (bytes : List ℕ) : Type 0 where
  pub n_pos : 1 ≤ s.n
  pub epsilon-pos : 1 ≤ s.epsilon
  pub epsilon-most : s.epsilon ≤ 16
  pub delta-most : s.delta ≤ 64
  pub clock-fits : at ≤ 2 ^ 63
  pub reading-fits : reading ≤ 2 ^ 63
  pub c-below : (decode s.epsilon bytes).stamp.c < s.epsilon
  pub long : payload_count_at s.epsilon ≤ length bytes

-- a buffer for a queue, as long as it has to be
pub record Stored (s : Setup) (buffer : List ℕ) : Type 0 where
  pub limits : in_limits s ≡ true
  pub size : length buffer ≡ holdback_size s

-- the buffer has a sound queue of which no frame is due before v, and the tables of origins and of starts are those of its frames
pub record Queued (s : Setup) (v : ℕ) (buffer table starts : List ℕ) : Type 0 where
  pub size : length buffer ≡ holdback_size s
  pub sound : sound_holdback s v s.modulus buffer ≡ true
  pub table_is : table ≡ seen_table s v (held s.epsilon buffer)
  pub starts_is : starts ≡ starts_of s v buffer

-- how many frames a queue has, and where they end
pub record Extent (epsilon : ℕ) (buffer : List ℕ) (count stop : ℕ) : Type 0 where
  pub count-is : count ≡ two_at buffer 0
  pub ends : stop ≡ end_of epsilon buffer

-- ---- a frame taken: on the queue

-- a frame that is to be taken, by a node or an observer, at its place, and where that stands
pub record Taking (s : Setup) (v : ℕ) (buffer : List ℕ) (place at : ℕ) (bytes : List ℕ) : Type 0 where
  pub timed : Timed s v
  pub size : length buffer ≡ holdback_size s
  pub sound : sound_holdback s v s.modulus buffer ≡ true
  pub listens : Bool
  pub judged : judge s v (questions_for listens s v) (held s.epsilon buffer) bytes ≡ taken place
  pub starts : at ≡ frame_start s.epsilon buffer place

-- what putting it on the queue leaves
pub record Enqueued (s : Setup) (v place : ℕ) (bytes buffer : List ℕ) (count stop : ℕ) (buffer' table' starts' : List ℕ) : Type 0 where
  pub queued : Queued s v buffer' table' starts'
  pub extent : Extent s.epsilon buffer' (count + 1) (stop + length bytes)
  pub buffer-is : buffer' ≡ overlay (encode_frames (insert_at place (decode s.epsilon bytes) (held s.epsilon buffer))) buffer
  pub queue : held s.epsilon buffer' ≡ insert_at place (decode s.epsilon bytes) (held s.epsilon buffer)

-- ---- the hearing

-- what it asks: the places past the 2ε counts are 0, the batch is exact, and there is a place for each verdict
pub record Hearing (epsilon : ℕ) (t : Timestamp) (batch verdicts : List ℕ) : Type 0 where
  pub narrow : t ≡ widened (trimmed epsilon t)
  pub exact : exact_batch batch ≡ true
  pub room : verdict_length ≤ length verdicts

-- a batch heard with those frames on the queue
abbrev pub heard_with : Bool → Setup → ℕ → List Frame → List ℕ → Heard
heard_with listens s v queue batch = hear s v (questions_for listens s v) (record { queue = queue; verdicts = [] }) (batch_entries batch)

-- what goes on the queue, and the verdicts
abbrev pub heard_all : Bool → Setup → ℕ → List ℕ → List ℕ → Heard
heard_all listens s v batch buffer = heard_with listens s v (held s.epsilon buffer) batch

-- what hearing leaves in the buffers, whatever hears, by what is heard: `held` says which frames stand in a buffer, and `bytes` what frames come to
pub record HeardBuffers (held : List ℕ → List Frame) (bytes : List Frame → List ℕ) (heard : Heard) (buffer verdicts : List ℕ) (took : ℕ) (buffer' verdicts' : List ℕ) : Type 0 where
  pub buffer-is : buffer' ≡ overlay (bytes heard.queue) buffer
  pub queue : held buffer' ≡ heard.queue
  pub numbers : verdicts' ≡ overlay heard.verdicts verdicts
  pub taken_is : took ≡ taken_count heard.verdicts

pub record HeardQueue (listens : Bool) (s : Setup) (v : ℕ) (batch buffer verdicts : List ℕ) (took count stop : ℕ) (buffer' table' starts' verdicts' : List ℕ) : Type 0 where
  pub queued : Queued s v buffer' table' starts'
  pub extent : Extent s.epsilon buffer' count stop
  pub buffers : HeardBuffers (held s.epsilon) encode_frames (heard_all listens s v batch buffer) buffer verdicts took buffer' verdicts'

-- what goes into the stamp, by the verdicts. 02, 2.6: one that only listens keeps "no counts"
unfoldable pub absorbed_for : Bool → Setup → ℕ → Timestamp → List (List ℕ) → List ℕ → Timestamp
absorbed_for listens s v t entries numbers = cond listens t (absorb_all s v t entries numbers)

pub record HeardStamp (listens : Bool) (s : Setup) (v : ℕ) (t : Timestamp) (batch buffer : List ℕ) (t' : Timestamp) : Type 0 where
  pub stamp : t' ≡ widened (absorbed_for listens s v (trimmed s.epsilon t) (batch_entries batch) (heard_all listens s v batch buffer).verdicts)

-- ---- the opening

-- 02, 2.2: a last clock that is called sound is judged so
pub record LastClock (s : Setup) (v : ℕ) (sound : Bool) (last : ℕ) : Type 0 where
  pub judged : sound ≡ true → sound_clock s.epsilon s.modulus v last ≡ true

-- the least due clock that the queue may have after it, and its share of the repair
pub record ClockOpened (s : Setup) (v : ℕ) (sound : Bool) (last least repair : ℕ) : Type 0 where
  pub least-is : least ≡ least_after s sound (clock_step s.modulus last v)
  pub recent : Recent s least
  pub repaired : repair ≡ cond sound 0 1

-- a stamp with which hearing starts, whether the tables were sound, and the least due clock that the queue may have after them, as the code has them
pub record OpenedAs (stamp₀ : Timestamp) (sound : Bool) (due : ℕ) (s : Setup) (t' : Timestamp) (least repair : ℕ) : Type 0 where
  pub stamp : t' ≡ widened stamp₀
  pub least-is : least ≡ due
  pub recent : Recent s least
  pub repaired : repair ≡ cond sound 0 1

-- 01, tick 1 and 2: the tables judged, the stamp with which hearing starts, and the least due clock that the queue may have after them
abbrev pub StampOpened : Setup → ℕ → Timestamp → Timestamp → ℕ → ℕ → Type 0
StampOpened s v t t' least repair = OpenedAs (opening_stamp s v t) (tables_sound s v t) (least_due s v t) s t' least repair

-- 01, tick 1: the queue judged by the least due clock allowed, and emptied if it is unsound
unfoldable pub kept_buffer : Setup → ℕ → ℕ → List ℕ → List ℕ
kept_buffer s v least buffer = cond (sound_holdback s v least buffer) buffer (encode_holdback (length buffer) [])

pub record QueueJudged (s : Setup) (v least : ℕ) (buffer : List ℕ) (repair count stop : ℕ) (buffer' table' starts' : List ℕ) : Type 0 where
  pub repaired : repair ≡ cond (sound_holdback s v least buffer) 0 2
  pub size : length buffer' ≡ holdback_size s
  pub sound : SoundBy s v buffer'
  pub table_is : table' ≡ seen_table s v (held s.epsilon buffer')
  pub starts_is : starts' ≡ starts_of s v buffer'
  pub extent : Extent s.epsilon buffer' count stop
  pub buffer-is : buffer' ≡ kept_buffer s v least buffer
  pub queue : held s.epsilon buffer' ≡ opening_queue s v least buffer

-- 02, 2.2: "Frames whose due clock lies before v go out before the bundle is judged": those, and the others
abbrev pub overdue_ones : Setup → ℕ → ℕ → List ℕ → List Frame
overdue_ones s v least buffer = select (due_before s v) (opening_queue s v least buffer)

abbrev pub other_ones : Setup → ℕ → ℕ → List ℕ → List Frame
other_ones s v least buffer = select (λ f. not (due_before s v f)) (opening_queue s v least buffer)

-- the buffer with which hearing starts
abbrev pub opened_buffer : Setup → ℕ → ℕ → List ℕ → List ℕ
opened_buffer s v least buffer = released_buffer s v (kept_buffer s v least buffer)

-- what is overdue: how many frames, where they end in the delivery, and the delivery
pub record OverdueGiven (s : Setup) (v least : ℕ) (buffer delivery : List ℕ) (index at : ℕ) (delivery' : List ℕ) : Type 0 where
  pub number : index ≡ length (overdue_ones s v least buffer)
  pub ends : at ≡ length (encode_frames (overdue_ones s v least buffer))
  pub given : delivery' ≡ overlay (encode_frames (overdue_ones s v least buffer)) delivery

-- the queue opened: judged, and without what is overdue
pub record QueueOpened (s : Setup) (v least : ℕ) (buffer : List ℕ) (repair count stop : ℕ) (buffer' table' starts' : List ℕ) : Type 0 where
  pub repaired : repair ≡ cond (sound_holdback s v least buffer) 0 2
  pub queued : Queued s v buffer' table' starts'
  pub extent : Extent s.epsilon buffer' count stop
  pub buffer-is : buffer' ≡ opened_buffer s v least buffer
  pub queue : held s.epsilon buffer' ≡ other_ones s v least buffer

-- ---- sending and delivering

-- 01, tick 5: the bytes of the frame that is sent, if one is
unfoldable pub bytes_to_send : ℕ → ℕ → Timestamp → Bool → List ℕ → List ℕ
bytes_to_send epsilon own t send payload = cond send (encode (frame_of epsilon own t payload)) []

pub record Sent (epsilon own : ℕ) (t : Timestamp) (send : Bool) (payload buffer : List ℕ) (size : ℕ) (buffer' : List ℕ) : Type 0 where
  pub long : size ≡ length (bytes_to_send epsilon own t send payload)
  pub bytes : buffer' ≡ overlay (bytes_to_send epsilon own t send payload) buffer

-- 01, tick 6: what delivering asks, and leaves. `index` frames are handed out already, and end at `at`
pub record Closing (s : Setup) (v count stop index at : ℕ) (buffer delivery : List ℕ) : Type 0 where
  pub timed : Timed s v
  pub size : length buffer ≡ holdback_size s
  pub sound : sound_holdback s v s.modulus buffer ≡ true
  pub extent : Extent s.epsilon buffer count stop
  pub room : holdback_size s ≤ length delivery
  pub before : Spans s.epsilon delivery index at index at
  pub few : index ≤ s.n * (2 * s.epsilon - 2)

pub record Delivered (s : Setup) (v index : ℕ) (buffer delivery : List ℕ) (count : ℕ) (buffer' delivery' : List ℕ) : Type 0 where
  pub count-is : count ≡ index + length (select (due_now s v) (held s.epsilon buffer))
  pub kept : buffer' ≡ encode_holdback (holdback_size s) (select (λ f. not (due_now s v f)) (held s.epsilon buffer))
  pub given : delivery' ≡ overlay (encode_frames (held s.epsilon delivery ++ select (due_now s v) (held s.epsilon buffer))) delivery

-- ---- what a node and an observer share: the queue opened, the batch heard, and what is due delivered

-- what it asks, of a call that has passed 1 and 2
pub record Attending (s : Setup) (t : Timestamp) (batch buffer verdicts delivery : List ℕ) : Type 0 where
  pub size : length buffer ≡ holdback_size s
  pub hearing : Hearing s.epsilon t batch verdicts
  pub delivery-room : holdback_size s ≤ length delivery

-- there is nothing to do: no frame is on the queue, and the batch has no entry
abbrev pub is_idle : List ℕ → List ℕ → Bool
is_idle batch buffer = eqb (two_at buffer 0) 0 && eqb (count_of batch) 0

-- what it leaves: the batch heard with what is left of the opened queue
abbrev pub attended_all : Bool → Setup → ℕ → ℕ → List ℕ → List ℕ → Heard
attended_all listens s v least batch buffer = heard_with listens s v (other_ones s v least buffer) batch

-- the frames handed out. 02, 2.2: "both make one hand-out"
abbrev pub attended_frames : Bool → Setup → ℕ → ℕ → List ℕ → List ℕ → List Frame
attended_frames listens s v least batch buffer = delivered_in s v (overdue_ones s v least buffer) (attended_all listens s v least batch buffer).queue

-- what a call leaves, whatever the frames' widths: by whether the queue was sound, what was heard, what is handed out and what stays
pub record AttendedWith (sound : Bool) (heard : Heard) (handed stays : List Frame) (size : ℕ) (verdicts delivery : List ℕ) (repair took delivered : ℕ) (buffer' verdicts' delivery' : List ℕ) : Type 0 where
  pub repaired : repair ≡ cond sound 0 2
  pub taken_is : took ≡ taken_count heard.verdicts
  pub count-is : delivered ≡ length handed
  pub kept : buffer' ≡ encode_holdback size stays
  pub numbers : verdicts' ≡ overlay heard.verdicts verdicts
  pub given : delivery' ≡ overlay (encode_frames handed) delivery

abbrev pub AttendedQueue : Bool → Setup → ℕ → ℕ → List ℕ → List ℕ → List ℕ → List ℕ → ℕ → ℕ → ℕ → List ℕ → List ℕ → List ℕ → Type 0
AttendedQueue listens s v least batch buffer verdicts delivery repair took delivered buffer' verdicts' delivery' =
    AttendedWith (sound_holdback s v least buffer) (attended_all listens s v least batch buffer) (attended_frames listens s v least batch buffer)
    (kept_in s v (attended_all listens s v least batch buffer).queue) (holdback_size s) verdicts delivery repair took delivered buffer' verdicts' delivery'

-- and the stamp
pub record AttendedStamp (listens : Bool) (s : Setup) (v least : ℕ) (t : Timestamp) (batch buffer : List ℕ) (t' : Timestamp) : Type 0 where
  pub stamp : t' ≡ widened (absorbed_for listens s v (trimmed s.epsilon t) (batch_entries batch) (attended_all listens s v least batch buffer).verdicts)
