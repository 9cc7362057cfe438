-- 02, 2.10: demand 1, and demand 2 from any state, of the calls with both pairs of limits.
use Rattle.std.specs.Prelude.{ℕ, ◌+◌, ◌-◌, ◌*◌, ◌%◌, ◌≤◌, ◌<◌, ◌≡◌, Bool, true, false, cond, List, [], ◌∷◌, map, leb, ltb, eqb, length, take, drop, replicate}
use Rattle.laws.specs.Lists.{every, overlay}
use Rattle.model.specs.Setup.{Setup, in_limits}
use Rattle.model.specs.Timestamp.{Timestamp, sound_clock, trimmed, widened}
use Rattle.model.specs.Frame.{Frame, encode}
use Rattle.model.specs.Batch.{exact_batch, batch_entries}
use Rattle.model.specs.Question.{Question, ask, first_no}
use Rattle.model.specs.Codec.{no_timestamp, frame_of}
use Rattle.model.specs.Holdback.{encode_frames, encode_holdback}
use Rattle.model.specs.Judge.{Heard}
use Rattle.model.specs.Tick.{Input, Output, holdback_size, refusal, taken_count}
use Rattle.model.specs.Observer.{Listening, Listened, not_listened}
use Rattle.model.specs.Schedule.{Schedule, limits_at, modulus_of, widest_of, Wider, change_near, same_pairs, along, own_limits}
use Rattle.model.specs.Wider.{wider_formed, wider_decode, frame_half, wider_held_bytes, wider_held, wider_sound_holdback, wider_opening, wider_questions, wider_observer_questions, wider_hear, wider_tables_sound, wider_least, wider_opened, wider_delivered_of, wider_sent, wider_call_questions, wider_acceptance, tick_in}
use Rattle.model.specs.WiderCalls.{listen_in_questions, wider_observer_least, wider_observer_opened, wider_observer_delivered, wider_listened, listen_in, pairs_of, read_in_questions, ReadInAnswer, is_wide, read_in_by, read_in, written_half, write_in_questions, write_in}
use Rattle.theory.specs.Demand1.{Checked, CheckedWrite}
use Rattle.theory.specs.Demand2.{FirstFailed, are_bytes, has_width}
use Rattle.theory.specs.NeverFull.{NeverFull}

-- ---- demand 1

abbrev pub Demand1In : Wider → Input → Type 0
Demand1In w i =
    Checked Output (λ (o : Output). o.answer.number) (wider_call_questions w i) (refusal i) (wider_acceptance (along i.setup w i.clock) i) (tick_in w i)

-- "that check's number", check by check in 02's words, and not by the tick's list: "with B in its limits for both, V below B (else 1), and a mark", of 0
-- or 1; "Number 19 when ε' or δ' is smaller than the old, asked after 1"; then 01's 2 to 6, where "shelves and buffers have the new sizes"
unfoldable pub numbers_in : Wider → Input → List Question
numbers_in w i =
    let s : Setup = i.setup in
    let new : Setup = record { n = s.n; epsilon = w.epsilon; delta = w.delta; modulus = s.modulus } in
    ask (in_limits s) 1 ∷ ask (in_limits new) 1 ∷ ask (ltb w.change s.modulus) 1 ∷ ask (leb w.marked 1) 1 ∷ ask (ltb i.own s.n) 1
    ∷ ask (leb s.epsilon w.epsilon) 19 ∷ ask (leb s.delta w.delta) 19
    ∷ ask (ltb i.clock s.modulus) 2 ∷ ask (eqb (length i.holdback) (holdback_size new)) 3
    ∷ ask (leb (length i.payload) 32) 4 ∷ ask (exact_batch i.batch) 5
    ∷ ask (leb (39 + 2 * w.epsilon) (length i.outgoing)) 6 ∷ ask (leb 255 (length i.verdicts)) 6 ∷ ask (leb (holdback_size new) (length i.delivery)) 6
    ∷ []

abbrev pub Demand1NumbersIn : Type 0
Demand1NumbersIn = (w : Wider) (i : Input) → (tick_in w i).answer.number ≡ first_no (numbers_in w i)

-- demand 1 of a listener's call
abbrev pub Demand1ListenIn : Wider → Listening → Type 0
Demand1ListenIn w i =
    Checked Listened (λ (o : Listened). o.number) (listen_in_questions w i) (not_listened i) (wider_listened (along i.setup w i.clock) i) (listen_in w i)

-- of the reader; a refused one "answers the number alone"
abbrev pub not_read_in : ℕ → ReadInAnswer
not_read_in number = record { number = number; wide = false; station = 0; stamp = no_timestamp; payload = [] }

abbrev pub Demand1ReadIn : Type 0
Demand1ReadIn =
    (s : Setup) (w : Wider) (own : ℕ) (bytes : List ℕ)
    → Checked ReadInAnswer (λ (a : ReadInAnswer). a.number) (read_in_questions s w own bytes) not_read_in
    (read_in_by 0 (is_wide s (pairs_of s w) (wider_decode (pairs_of s w) bytes)) (wider_decode (pairs_of s w) bytes)) (read_in s w own bytes)

-- and of the writer, for each width; a refused one "writes nothing"
abbrev pub Demand1WriteIn : Type 0
Demand1WriteIn =
    (s : Setup) (w : Wider) (own station : ℕ) (wide : Bool) (t : Timestamp) (payload buffer : List ℕ)
    → CheckedWrite (write_in_questions s w own (written_half s w wide) (frame_of (written_half s w wide) station t payload) buffer)
    (encode (frame_of (written_half s w wide) station t payload)) buffer (write_in s w own station wide t payload buffer)

-- ---- the next call

-- 02: "a mark set once the clock is at or past V": the setup that is right k clocks after v
unfoldable pub marked_later : Setup → Wider → ℕ → ℕ → Wider
marked_later s w v k =
    record { epsilon = w.epsilon; delta = w.delta; change = w.change; marked = cond (leb (change_near s.modulus v w) (s.modulus + k)) 1 0 }

-- the clock k after v may be the next: k is "A step of 1 to ε", by "the limits of its own clock", and it is less than B past V, for a call there
-- would read V elsewhere
pub record NextClock (s : Setup) (w : Wider) (v k : ℕ) : Type 0 where
  pub step-pos : 1 ≤ k
  pub step-few : k ≤ (limits_at (along s w v) (s.modulus + k)).epsilon
  pub before-next : same_pairs s w ≡ false → k < change_near s.modulus v w

-- the schedule of the next call
abbrev pub next_along : Setup → Wider → ℕ → ℕ → Schedule
next_along s w v k = along s (marked_later s w v k) ((v + k) % s.modulus)

-- ---- demand 2 from any state, of an accepted tick

-- what it has heard before its entry k
unfoldable pub heard_before_in : Schedule → Input → ℕ → Heard
heard_before_in g i k = wider_hear g i.clock (wider_questions g i.clock) (wider_opening g i.clock (wider_opened g i)) (take k (batch_entries i.batch))

pub record AnyStateIn (w : Wider) (i : Input) (g : Schedule) : Type 0 where
  -- "each verdict is the number of the first check failed"
  pub verdict : FirstFailed (wider_questions g i.clock) (heard_before_in g i) (batch_entries i.batch) (tick_in w i).verdicts
  -- mend is 1 exactly if the tables are unsound for this clock, 2 exactly if the shelf is, after them, 3 if both
  pub repair :
      (tick_in w i).answer.repair
      ≡ cond (wider_tables_sound g i.clock i.tables) 0 1 + cond (wider_sound_holdback g i.clock (wider_least g i.clock i.tables) i.holdback) 0 2
  -- "the figures count what they say"
  pub taken : (tick_in w i).answer.taken ≡ taken_count (take (length (batch_entries i.batch)) (tick_in w i).verdicts)
  pub delivered : (tick_in w i).answer.delivered ≡ length (wider_delivered_of g i)
  pub delivery : wider_held_bytes g (tick_in w i).delivery ≡ map encode (wider_delivered_of g i)
  pub sent : (tick_in w i).answer.sent ≡ length (wider_sent g i)
  pub outgoing : take (tick_in w i).answer.sent (tick_in w i).outgoing ≡ wider_sent g i
  -- tables and shelf are sound for every next clock that the limits allow, across V too, with the mark that is right there
  pub bounded :
      (k : ℕ) → NextClock i.setup w i.clock k
      → wider_tables_sound (next_along i.setup w i.clock k) ((i.clock + k) % i.setup.modulus) (tick_in w i).answer.tables ≡ true
  pub bounded_queue :
      (k : ℕ) → NextClock i.setup w i.clock k
      → wider_sound_holdback (next_along i.setup w i.clock k) ((i.clock + k) % i.setup.modulus) (i.setup.modulus + 1 - k) (tick_in w i).holdback ≡ true
  -- 02, 2.7, by the limits of v
  pub never_full : NeverFull (own_limits g) (heard_before_in g i)

abbrev pub Demand2In : Type 0
Demand2In = (w : Wider) (i : Input) → (tick_in w i).answer.number ≡ 0 → AnyStateIn w i (along i.setup w i.clock)

-- ---- and of an accepted call of a listener

unfoldable pub observed_before_in : Schedule → Listening → ℕ → Heard
observed_before_in g i k =
    wider_hear g i.clock (wider_observer_questions g i.clock) (wider_opening g i.clock (wider_observer_opened g i)) (take k (batch_entries i.batch))

pub record AnyListenIn (w : Wider) (i : Listening) (g : Schedule) : Type 0 where
  pub verdict : FirstFailed (wider_observer_questions g i.clock) (observed_before_in g i) (batch_entries i.batch) (listen_in w i).verdicts
  pub repair :
      (listen_in w i).repair
      ≡ cond (sound_clock (own_limits g).epsilon (modulus_of g) i.clock i.last) 0 1
      + cond (wider_sound_holdback g i.clock (wider_observer_least g i) i.holdback) 0 2
  pub taken : (listen_in w i).taken ≡ taken_count (take (length (batch_entries i.batch)) (listen_in w i).verdicts)
  pub delivered : (listen_in w i).delivered ≡ length (wider_observer_delivered g i)
  pub delivery : wider_held_bytes g (listen_in w i).delivery ≡ map encode (wider_observer_delivered g i)
  pub last : (listen_in w i).last ≡ i.clock
  pub bounded :
      (k : ℕ) → NextClock i.setup w i.clock k
      → sound_clock (own_limits (next_along i.setup w i.clock k)).epsilon i.setup.modulus ((i.clock + k) % i.setup.modulus) (listen_in w i).last ≡ true
  pub bounded_queue :
      (k : ℕ) → NextClock i.setup w i.clock k
      → wider_sound_holdback (next_along i.setup w i.clock k) ((i.clock + k) % i.setup.modulus) (i.setup.modulus + 1 - k) (listen_in w i).holdback ≡ true
  pub never_full : NeverFull (own_limits g) (observed_before_in g i)

abbrev pub Demand2ListenIn : Type 0
Demand2ListenIn = (w : Wider) (i : Listening) → (listen_in w i).number ≡ 0 → AnyListenIn w i (along i.setup w i.clock)

-- ---- the codec: reader and writer, for each width

-- a frame of one of the two widths
unfoldable pub fits_in : Schedule → Frame → Bool
fits_in g f = has_width (frame_half g f) f

-- "the codec round-trips": the frame, the shelf and the hand-out, with the width as a part of a frame's contents
pub record RoundTripsIn (s : Setup) (w : Wider) (own : ℕ) : Type 0 where
  -- a written frame reads back the same, and whether it has more than 2ε counts; the places past its own counts come back 0
  pub frame_read :
      (station : ℕ) (wide : Bool) (t : Timestamp) (payload buffer : List ℕ) → (write_in s w own station wide t payload buffer).number ≡ 0
      → read_in s w own (take (write_in s w own station wide t payload buffer).size (write_in s w own station wide t payload buffer).buffer)
      ≡ record {
        number = 0;
        wide = ltb s.epsilon (written_half s w wide);
        station = station;
        stamp = widened (trimmed (written_half s w wide) t);
        payload = payload;
      }
  -- an accepted frame is the one that the writer makes of its contents, at its width, in any buffer that is long enough
  pub frame_written :
      (bytes buffer : List ℕ) → are_bytes bytes ≡ true → (read_in s w own bytes).number ≡ 0 → length bytes ≤ length buffer
      → write_in s w own (read_in s w own bytes).station (read_in s w own bytes).wide (read_in s w own bytes).stamp (read_in s w own bytes).payload buffer
      ≡ record { number = 0; size = length bytes; buffer = overlay bytes buffer }
  -- a shelf holds the frames of which it was made, of either width; in a call for v
  pub holdback_read :
      (v size : ℕ) (queue : List Frame) → every (fits_in (along s w v)) queue ≡ true → wider_held (along s w v) (encode_holdback size queue) ≡ queue
  -- a sound shelf with zeros behind its frames is what is made of these frames
  pub holdback_written :
      (v least : ℕ) (bytes : List ℕ) → length bytes ≡ holdback_size (widest_of (along s w v)) → are_bytes bytes ≡ true
      → wider_sound_holdback (along s w v) v least bytes ≡ true
      → drop (length (encode_frames (wider_held (along s w v) bytes))) bytes
      ≡ replicate (holdback_size (widest_of (along s w v)) - length (encode_frames (wider_held (along s w v) bytes))) 0
      → encode_holdback (holdback_size (widest_of (along s w v))) (wider_held (along s w v) bytes) ≡ bytes
  -- a hand-out holds the frames of which it was made, of either width, whatever the buffer held
  pub delivery_read :
      (v : ℕ) (queue : List Frame) (old : List ℕ) → every (fits_in (along s w v)) queue ≡ true
      → wider_held (along s w v) (overlay (encode_frames queue) old) ≡ queue
  -- bytes that hold well-formed frames begin with the hand-out that is made of these frames
  pub delivery_written :
      (v : ℕ) (bytes : List ℕ) → 2 ≤ length bytes → are_bytes bytes ≡ true → every (wider_formed (along s w v)) (wider_held_bytes (along s w v) bytes) ≡ true
      → overlay (encode_frames (wider_held (along s w v) bytes)) bytes ≡ bytes

abbrev pub Demand2CodecIn : Type 0
Demand2CodecIn = (s : Setup) (w : Wider) (own : ℕ) → RoundTripsIn s w own
