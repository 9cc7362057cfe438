-- What the functions of an engine's tick (02, 2.9) ask of their arguments, and what they leave.
-- Assumes nothing.
use Rattle.std.specs.Prelude.{ℕ, ◌-◌, ◌≤◌, ◌<◌, ◌≡◌, Bool, true, not, cond, List, [], length}
use Rattle.laws.specs.Lists.{select, sort_by, apart, overlay}
use Rattle.model.specs.Setup.{Setup}
use Rattle.model.specs.Timestamp.{Timestamp, trimmed, widened, replaced, step}
use Rattle.model.specs.Frame.{Frame}
use Rattle.model.specs.Batch.{batch_entries}
use Rattle.model.specs.Holdback.{same_origin}
use Rattle.model.specs.Question.{first_no}
use Rattle.model.specs.Codec.{frame_of}
use Rattle.model.specs.Judge.{Heard}
use Rattle.model.specs.Tick.{taken_count}
use Rattle.model.specs.Long.{long_bound, long_limits, long_encode, long_frame_questions, long_before, long_holdback_size, long_held, long_sound_holdback, long_encode_frames, long_encode_holdback, long_hear, long_absorb_all, long_tables_sound, long_least_due, long_due_by}
use Rattle.longqueue.specs.Queue.{Extent}
use Rattle.node.specs.States.{Hearing, HeardBuffers}

-- a call that has passed 1 and 2
pub record Timed (s : Setup) (v : ℕ) : Type 0 where
  pub limits : long_limits s ≡ true
  pub below : v < long_bound

-- and a frame that has passed 10 to 12
pub record Readable (s : Setup) (v : ℕ) (bytes : List ℕ) : Type 0 where
  pub timed : Timed s v
  pub passed : first_no (long_frame_questions s bytes) ≡ 0

-- ---- the opening

-- 01, tick 1 and 2: the stamp with which hearing starts
abbrev pub opened_stamp : Setup → ℕ → Timestamp → Timestamp
opened_stamp s v t = cond (long_tables_sound s v t) (step (v - t.r) v (trimmed s.epsilon t)) (replaced s.epsilon v)

-- with the least due clock that the queue may have after the tables, and their share of the repair
pub record StampOpened (s : Setup) (v : ℕ) (t t' : Timestamp) (least repair : ℕ) : Type 0 where
  pub stamp : t' ≡ widened (opened_stamp s v t)
  pub least-is : least ≡ long_least_due s v t
  pub repaired : repair ≡ cond (long_tables_sound s v t) 0 1

-- the frames with which it starts
abbrev pub opened_frames : Setup → ℕ → ℕ → List ℕ → List Frame
opened_frames s v least buffer = cond (long_sound_holdback s v least buffer) (long_held s.epsilon buffer) []

-- ---- the hearing

-- a batch heard with those frames held
abbrev pub heard_with : Setup → ℕ → List Frame → List ℕ → Heard
heard_with s v queue batch = long_hear s v (record { queue = queue; verdicts = [] }) (batch_entries batch)

-- a buffer that holds frames, none with the origin of another
pub record Holding (s : Setup) (buffer : List ℕ) (count stop : ℕ) : Type 0 where
  pub extent : Extent s buffer count stop
  pub single : apart same_origin (long_held s.epsilon buffer) ≡ true

-- what is held, with every byte of its buffer, and the verdicts
pub record HeardQueue (s : Setup) (v : ℕ) (batch buffer verdicts : List ℕ) (took count stop : ℕ) (buffer' verdicts' : List ℕ) : Type 0 where
  pub holding : Holding s buffer' count stop
  pub buffers : HeardBuffers (long_held s.epsilon) long_encode_frames (heard_with s v (long_held s.epsilon buffer) batch) buffer verdicts took buffer' verdicts'

-- what goes into the stamp, by the verdicts
pub record HeardStamp (s : Setup) (v : ℕ) (t : Timestamp) (batch buffer : List ℕ) (t' : Timestamp) : Type 0 where
  pub stamp : t' ≡ widened (long_absorb_all s v (trimmed s.epsilon t) (batch_entries batch) (heard_with s v (long_held s.epsilon buffer) batch).verdicts)

-- ---- the queue opened, the batch heard, and what is due handed out

-- what it asks, of a call that has passed 1 and 2
pub record Attending (s : Setup) (t : Timestamp) (batch buffer verdicts delivery : List ℕ) : Type 0 where
  pub size : length buffer ≡ long_holdback_size s
  pub hearing : Hearing s.epsilon t batch verdicts
  pub delivery-room : long_holdback_size s ≤ length delivery

-- the batch heard with the frames of the opened queue
abbrev pub attended_all : Setup → ℕ → ℕ → List ℕ → List ℕ → Heard
attended_all s v least batch buffer = heard_with s v (opened_frames s v least buffer) batch

-- the frames handed out
abbrev pub due_frames : Setup → ℕ → List Frame → List Frame
due_frames s v queue = sort_by (long_before s) (select (long_due_by s v) queue)

-- and the others
abbrev pub kept_frames : Setup → ℕ → List Frame → List Frame
kept_frames s v queue = select (λ f. not (long_due_by s v f)) queue

pub record AttendedQueue (s : Setup) (v least : ℕ) (batch buffer verdicts delivery : List ℕ) (repair took delivered : ℕ) (buffer' verdicts' delivery' : List ℕ) : Type 0 where
  pub repaired : repair ≡ cond (long_sound_holdback s v least buffer) 0 2
  pub taken_is : took ≡ taken_count (attended_all s v least batch buffer).verdicts
  pub count-is : delivered ≡ length (due_frames s v (attended_all s v least batch buffer).queue)
  pub kept : buffer' ≡ long_encode_holdback (long_holdback_size s) (kept_frames s v (attended_all s v least batch buffer).queue)
  pub numbers : verdicts' ≡ overlay (attended_all s v least batch buffer).verdicts verdicts
  pub given : delivery' ≡ overlay (long_encode_frames (due_frames s v (attended_all s v least batch buffer).queue)) delivery

-- and the stamp
pub record AttendedStamp (s : Setup) (v least : ℕ) (t : Timestamp) (batch buffer : List ℕ) (t' : Timestamp) : Type 0 where
  pub stamp : t' ≡ widened (long_absorb_all s v (trimmed s.epsilon t) (batch_entries batch) (attended_all s v least batch buffer).verdicts)

-- ---- the sending

-- 01, tick 5: the bytes of the frame that is sent, if one is
unfoldable pub bytes_to_send : ℕ → ℕ → Timestamp → Bool → List ℕ → List ℕ
bytes_to_send epsilon own t send payload = cond send (long_encode (frame_of epsilon own t payload)) []

pub record Sent (epsilon own : ℕ) (t : Timestamp) (send : Bool) (payload buffer : List ℕ) (size : ℕ) (buffer' : List ℕ) : Type 0 where
  pub long : size ≡ length (bytes_to_send epsilon own t send payload)
  pub bytes : buffer' ≡ overlay (bytes_to_send epsilon own t send payload) buffer
