-- 02, 2.9: an engine with long clocks, from any state. "All else is as a station's": demand 1 of its calls, reader and writer; verdicts,
-- figures and bounds of every accepted call; its codec round-trips.
use Rattle.std.specs.Prelude.{ℕ, ◌+◌, ◌≤◌, ◌≡◌, Bool, true, ◌&&◌, cond, ltb, length, take, drop}
use mathlib.Core.List.{List, [], ◌∷◌, map, Memᴰ}
use Rattle.laws.specs.Lists.{chained}
use Rattle.model.specs.Setup.{Setup}
use Rattle.model.specs.Timestamp.{Timestamp}
use Rattle.model.specs.Frame.{Frame}
use Rattle.model.specs.Batch.{batch_entries}
use Rattle.model.specs.Codec.{frame_of}
use Rattle.model.specs.Judge.{Heard}
use Rattle.model.specs.Tick.{Input, Output, refusal, taken_count}
use Rattle.model.specs.Long.{long_bound, long_most, long_encode, long_decode, long_formed, ask_long_setup, long_frame_questions, long_read, long_write_questions, long_write, long_before, long_holdback_size, long_held_bytes, long_held, long_sound_holdback, long_encode_frames, long_encode_holdback, long_questions, long_hear, long_call_questions, long_tables_sound, long_least_due, long_opened, long_heard, long_sent, long_due_by, long_delivered, long_kept, long_acceptance, long_tick}
use Rattle.theory.specs.Demand1.{Checked, CheckedRead, CheckedWrite}
use Rattle.theory.specs.Demand2.{FirstFailed, are_bytes, has_width, Codec, RoundTrips}

-- ---- demand 1

abbrev pub Demand1Long : Input → Type 0
Demand1Long i = Checked Output (λ (o : Output). o.answer.number) (long_call_questions i) (refusal i) (long_acceptance i) (long_tick i)

abbrev pub Demand1LongRead : Type 0
Demand1LongRead =
    (s : Setup) (own : ℕ) (bytes : List ℕ)
    → CheckedRead (ask_long_setup s own ∷ long_frame_questions s bytes) (long_decode s.epsilon bytes) (long_read s own bytes)

abbrev pub Demand1LongWrite : Type 0
Demand1LongWrite =
    (s : Setup) (own station : ℕ) (t : Timestamp) (payload buffer : List ℕ)
    → CheckedWrite (long_write_questions s own (frame_of s.epsilon station t payload) buffer) (long_encode (frame_of s.epsilon station t payload)) buffer
    (long_write s own station t payload buffer)

-- ---- demand 2, of an accepted call

-- what a tick has heard before its entry k
unfoldable pub long_heard_before : Input → ℕ → Heard
long_heard_before i k =
    long_hear i.setup i.clock (record { queue = long_opened i; verdicts = [] }) (take k (batch_entries i.batch))

-- a buffer of which the call has written the first n bytes: "Bytes beyond those written stay"
pub record Overlaid (n : ℕ) (old new : List ℕ) : Type 0 where
  pub size : length new ≡ length old
  pub behind : drop n new ≡ drop n old

pub record AnyLong (i : Input) : Type 0 where
  pub verdict : FirstFailed (long_questions i.setup i.clock) (long_heard_before i) (batch_entries i.batch) (long_tick i).verdicts
  -- mend: 1 exactly if the tables are unsound for this clock, 2 exactly if the shelf is, after them, else 0
  pub repair :
      (long_tick i).answer.repair
      ≡ cond (long_tables_sound i.setup i.clock i.tables) 0 1
      + cond (long_sound_holdback i.setup i.clock (long_least_due i.setup i.clock i.tables) i.holdback) 0 2
  -- "the figures count what they say"
  pub taken : (long_tick i).answer.taken ≡ taken_count (take (length (batch_entries i.batch)) (long_tick i).verdicts)
  pub delivered : (long_tick i).answer.delivered ≡ length (long_delivered i)
  -- what stands in the hand-out buffer, byte for byte, and what is read back from it
  pub delivery : long_held_bytes i.setup.epsilon (long_tick i).delivery ≡ map long_encode (long_delivered i)
  pub delivered_frames : long_held i.setup.epsilon (long_tick i).delivery ≡ long_delivered i
  -- "a search through all of them at hand-out": what is due at v or before, of all that is held, and in order, so each once
  pub due : (f : Frame) → Memᴰ f (long_delivered i) → Memᴰ f (long_heard i).queue × (long_due_by i.setup i.clock f ≡ true)
  pub all_due : (f : Frame) → Memᴰ f (long_heard i).queue → long_due_by i.setup i.clock f ≡ true → Memᴰ f (long_delivered i)
  pub ordered : chained (long_before i.setup) (long_delivered i) ≡ true
  -- what is left is what is not due, in the order heard
  pub left : long_held i.setup.epsilon (long_tick i).holdback ≡ long_kept i
  -- "outgoing length (0 if none)": the bytes of the frame, which reads back with the stamp of the new tables
  pub sent : (long_tick i).answer.sent ≡ length (long_sent i)
  pub outgoing : take (long_tick i).answer.sent (long_tick i).outgoing ≡ long_sent i
  pub sent_read :
      i.send ≡ true
      → long_read i.setup i.own (take (long_tick i).answer.sent (long_tick i).outgoing)
      ≡ record { number = 0; station = i.own; stamp = (long_tick i).answer.tables; payload = i.payload }
  -- "Stamps stay within their bounds after every tick": the tables are sound for every next clock 1 to ε ahead
  pub bounded : (k : ℕ) → 1 ≤ k → k ≤ i.setup.epsilon → long_tables_sound i.setup (i.clock + k) (long_tick i).answer.tables ≡ true
  -- and so is the shelf, each frame due after this clock
  pub bounded_queue : (k : ℕ) → 1 ≤ k → k ≤ i.setup.epsilon → long_sound_holdback i.setup (i.clock + k) (i.clock + 1) (long_tick i).holdback ≡ true
  -- "up to 64 held messages": before each entry and after the last, where k is their number or more, and when the call is done
  pub few : (k : ℕ) → length (long_heard_before i k).queue ≤ long_most
  pub few_left : length (long_held i.setup.epsilon (long_tick i).holdback) ≤ long_most
  -- the buffers: the shelf has zeros behind its frames, the others what stood there. An entry's count is a byte
  pub holdback : (long_tick i).holdback ≡ long_encode_holdback (long_holdback_size i.setup) (long_held i.setup.epsilon (long_tick i).holdback)
  pub holdback_sized : length (long_tick i).holdback ≡ length i.holdback
  pub outgoing_kept : Overlaid (long_tick i).answer.sent i.outgoing (long_tick i).outgoing
  pub delivery_kept : Overlaid (length (long_encode_frames (long_delivered i))) i.delivery (long_tick i).delivery
  pub verdicts_kept : are_bytes i.batch ≡ true → Overlaid (length (batch_entries i.batch)) i.verdicts (long_tick i).verdicts

-- of every accepted call
abbrev pub Demand2Long : Type 0
Demand2Long = (i : Input) → (long_tick i).answer.number ≡ 0 → AnyLong i

-- ---- the codec

-- a frame of 2ε counts whose clock has room in eight bytes, below 2^63
unfoldable pub long_fits : ℕ → Frame → Bool
long_fits epsilon f = has_width epsilon f && ltb f.stamp.r long_bound

abbrev pub long_codec : Setup → ℕ → Codec
long_codec s own =
    record {
      epsilon = s.epsilon;
      read = long_read s own;
      write = λ station t payload buffer. long_write s own station t payload buffer;
      fits = long_fits s.epsilon;
      formed = long_formed s.epsilon;
      cut = long_held_bytes s.epsilon;
      held = long_held s.epsilon;
      delivery = long_encode_frames;
      holdback = long_encode_holdback;
      size = long_holdback_size s;
      sound = long_sound_holdback s;
    }

abbrev pub Demand2LongCodec : Type 0
Demand2LongCodec = (s : Setup) (own : ℕ) → RoundTrips (long_codec s own)
