-- 02, 2.10: the other calls with two pairs of limits: a listener's, the poll, the comparison, reader and writer alone, and fresh tables.
use Rattle.std.specs.Prelude.{ℕ, zero, suc, ◌+◌, Bool, false, cond, List, [], ◌∷◌, ◌++◌, map, leb, ltb, length}
use Rattle.std.proofs.Math.Option
use Rattle.std.proofs.Math.Option.{Option, none}
use Rattle.laws.specs.Lists.{select, overlay, smallest}
use Rattle.model.specs.Setup.{Setup}
use Rattle.model.specs.Timestamp.{Timestamp, sum, clock_step, sound_clock, widened, fresh}
use Rattle.model.specs.Frame.{Frame, encode}
use Rattle.model.specs.Order.{reading_clock}
use Rattle.model.specs.Comparison.{Comparison, compare_keys, count_clock, at_clocks, CompareAnswer, compare_by}
use Rattle.model.specs.Batch.{exact_batch, batch_entries}
use Rattle.model.specs.Question.{Question, ask, first_no, ask_range}
use Rattle.model.specs.Codec.{ask_payload, no_timestamp, frame_of, WriteAnswer, write_by}
use Rattle.model.specs.Holdback.{encode_frames, encode_holdback}
use Rattle.model.specs.Judge.{Heard}
use Rattle.model.specs.Tick.{holdback_size, delivery_roomy, holdback_questions, least_at, taken_count}
use Rattle.model.specs.Observer.{Listening, Listened, not_listened}
use Rattle.model.specs.Poll.{PollAnswer}
use Rattle.model.specs.Schedule.{Schedule, widening, modulus_of, widest_of, Wider, wider_setup, both_in_limits, ask_both, ask_wider, along, own_limits, compared_along}
use Rattle.model.specs.Wider.{wider_decode, frame_half, sound_within, questions_within, wider_frame_questions, wider_reading, wider_key_near, wider_due, wider_sound_holdback, wider_opening_queue, wider_overdue, wider_opening, wider_delivered, wider_kept, wider_observer_questions, wider_hear}

-- ---- a listener; 02: "A listener changes setups as a station does"

-- 1 without the own number, 19, 2, 3, 5, and 6 without the outgoing buffer
unfoldable pub listen_in_questions : Wider → Listening → List Question
listen_in_questions w i =
    let size : Setup = widest_of (along i.setup w i.clock) in
    ask (both_in_limits i.setup w) 1 ∷ ask_wider i.setup w
    ∷ (holdback_questions size i.clock i.holdback
    ++ (ask (exact_batch i.batch) 5 ∷ ask (delivery_roomy size i.verdicts i.delivery) 6 ∷ []))

-- its last clock, "judged and mended like the r of tables"
unfoldable pub wider_last_sound : Schedule → Listening → Bool
wider_last_sound g i = sound_clock (own_limits g).epsilon (modulus_of g) i.clock i.last

unfoldable pub wider_observer_least : Schedule → Listening → ℕ
wider_observer_least g i = least_at (modulus_of g) (wider_last_sound g i) (clock_step (modulus_of g) i.last i.clock)

unfoldable pub wider_observer_repair : Schedule → Listening → ℕ
wider_observer_repair g i =
    cond (wider_last_sound g i) 0 1 + cond (wider_sound_holdback g i.clock (wider_observer_least g i) i.holdback) 0 2

unfoldable pub wider_observer_opened : Schedule → Listening → List Frame
wider_observer_opened g i = wider_opening_queue g i.clock (wider_observer_least g i) i.holdback

unfoldable pub wider_observer_heard : Schedule → Listening → Heard
wider_observer_heard g i =
    wider_hear g i.clock (wider_observer_questions g i.clock) (wider_opening g i.clock (wider_observer_opened g i)) (batch_entries i.batch)

unfoldable pub wider_observer_delivered : Schedule → Listening → List Frame
wider_observer_delivered g i =
    wider_delivered g i.clock (wider_overdue g i.clock (wider_observer_opened g i)) (wider_observer_heard g i).queue

unfoldable pub wider_observer_kept : Schedule → Listening → List Frame
wider_observer_kept g i = wider_kept g i.clock (wider_observer_heard g i).queue

unfoldable pub wider_listened : Schedule → Listening → Listened
wider_listened g i =
    record {
      number = 0;
      repair = wider_observer_repair g i;
      taken = taken_count (wider_observer_heard g i).verdicts;
      delivered = length (wider_observer_delivered g i);
      last = i.clock;
      holdback = encode_holdback (holdback_size (widest_of g)) (wider_observer_kept g i);
      verdicts = overlay (wider_observer_heard g i).verdicts i.verdicts;
      delivery = overlay (encode_frames (wider_observer_delivered g i)) i.delivery;
    }

-- what comes of a call, by the number of the first no
abbrev pub wider_listen_by : ℕ → Schedule → Listening → Listened
wider_listen_by zero g i = wider_listened g i
wider_listen_by (suc k) g i = not_listened i (suc k)

unfoldable pub listen_in : Wider → Listening → Listened
listen_in w i = wider_listen_by (first_no (listen_in_questions w i)) (along i.setup w i.clock) i

-- ---- the poll

-- 1, 19, 2 and 3
unfoldable pub poll_in_questions : Setup → Wider → ℕ → ℕ → List ℕ → List Question
poll_in_questions s w own v holdback = ask_both s w own ∷ ask_wider s w ∷ holdback_questions (widest_of (along s w v)) v holdback

unfoldable pub wider_polled_queue : Schedule → ℕ → List ℕ → List Frame
wider_polled_queue g v holdback = wider_opening_queue g v (modulus_of g + 1) holdback

unfoldable pub wider_soonest_due : Schedule → ℕ → List Frame → Option ℕ
wider_soonest_due g v queue = smallest (map (wider_due g v) queue)

unfoldable pub wider_next_due : Schedule → ℕ → List Frame → Option ℕ
wider_next_due g v queue = Option.map (reading_clock (own_limits g) v) (wider_soonest_due g v queue)

unfoldable pub wider_due_within : Schedule → ℕ → ℕ → Frame → Bool
wider_due_within g v d f = leb (wider_due g v f) (modulus_of g + d)

unfoldable pub wider_number_within : Schedule → ℕ → ℕ → List Frame → ℕ
wider_number_within g v d queue = length (select (wider_due_within g v d) queue)

-- the answer by the number of the first no
abbrev pub wider_poll_by : ℕ → Schedule → ℕ → ℕ → List Frame → PollAnswer
wider_poll_by zero g v d queue = record { number = 0; next = wider_next_due g v queue; within = wider_number_within g v d queue }
wider_poll_by (suc k) g v d queue = record { number = suc k; next = none; within = 0 }

unfoldable pub poll_in : Setup → Wider → ℕ → ℕ → ℕ → List ℕ → PollAnswer
poll_in s w own v d holdback =
    wider_poll_by (first_no (poll_in_questions s w own v holdback)) (along s w v) v d (wider_polled_queue (along s w v) v holdback)

-- ---- the comparison, which judges as a tick for v

-- 1, 19, 2, then 10 to 12 of the first frame and of the second
unfoldable pub compare_in_questions : Setup → Wider → ℕ → ℕ → List ℕ → List ℕ → List Question
compare_in_questions s w own v first second =
    ask_both s w own ∷ ask_wider s w ∷ ask (ltb v s.modulus) 2
    ∷ (wider_frame_questions (along s w v) first ++ wider_frame_questions (along s w v) second)

-- which is first, and what decided. (Where the sums agree, so does the number of counts.)
unfoldable pub wider_compared : Schedule → ℕ → Frame → Frame → Comparison
wider_compared g v a b =
    let total : ℕ = sum (wider_reading g v a) a.stamp.c in
    at_clocks (count_clock (own_limits g) v total) (compare_keys (compared_along g total) (wider_key_near g v a) (wider_key_near g v b))

unfoldable pub compare_in : Setup → Wider → ℕ → ℕ → List ℕ → List ℕ → CompareAnswer
compare_in s w own v first second =
    compare_by (first_no (compare_in_questions s w own v first second))
    (wider_compared (along s w v) v (wider_decode (along s w v) first) (wider_decode (along s w v) second))

-- ---- reader and writer alone; they have no clock

-- both pairs, wherever V stands: which widths there are
abbrev pub pairs_of : Setup → Wider → Schedule
pairs_of s w = widening s (wider_setup s w) w.change

-- 1, 19, 10 to 12; 02: "reader and writer alone judge 12 by the frame's width"
unfoldable pub read_in_questions : Setup → Wider → ℕ → List ℕ → List Question
read_in_questions s w own bytes =
    ask_both s w own ∷ ask_wider s w
    ∷ questions_within (pairs_of s w) s (frame_half (pairs_of s w) (wider_decode (pairs_of s w) bytes)) bytes

-- what the reader answers; 02: "the width is part of a frame's contents": whether there are more than 2ε counts
pub record ReadInAnswer : Type 0 where
  -- 0, or the check's number
  pub number : ℕ
  pub wide : Bool
  pub station : ℕ
  pub stamp : Timestamp
  -- 01: the ticket
  pub payload : List ℕ

-- a frame has more counts than the old pair's
abbrev pub is_wide : Setup → Schedule → Frame → Bool
is_wide s g f = ltb s.epsilon (frame_half g f)

abbrev pub read_in_by : ℕ → Bool → Frame → ReadInAnswer
read_in_by zero wide f = record { number = 0; wide = wide; station = f.station; stamp = widened f.stamp; payload = f.payload }
read_in_by (suc k) wide f = record { number = suc k; wide = false; station = 0; stamp = no_timestamp; payload = [] }

unfoldable pub read_in : Setup → Wider → ℕ → List ℕ → ReadInAnswer
read_in s w own bytes =
    let f : Frame = wider_decode (pairs_of s w) bytes in
    read_in_by (first_no (read_in_questions s w own bytes)) (is_wide s (pairs_of s w) f) f

-- the half width that the writer is told
abbrev pub written_half : Setup → Wider → Bool → ℕ
written_half s w wide = cond wide w.epsilon s.epsilon

-- 1, 19, 4, 11, 12, then 6
unfoldable pub write_in_questions : Setup → Wider → ℕ → ℕ → Frame → List ℕ → List Question
write_in_questions s w own half f buffer =
    ask_both s w own ∷ ask_wider s w ∷ ask_payload f.payload ∷ ask_range s f ∷ ask (sound_within s.n half half f.stamp) 12
    ∷ ask (leb (length (encode f)) (length buffer)) 6 ∷ []

-- the writer, of a station, a width, a stamp and a ticket, into its buffer
unfoldable pub write_in : Setup → Wider → ℕ → ℕ → Bool → Timestamp → List ℕ → List ℕ → WriteAnswer
write_in s w own station wide t payload buffer =
    let half : ℕ = written_half s w wide in
    let f : Frame = frame_of half station t payload in
    write_by (first_no (write_in_questions s w own half f buffer)) f buffer

-- ---- fresh tables

-- 1, 19 and 2
unfoldable pub fresh_in_questions : Setup → Wider → ℕ → ℕ → List Question
fresh_in_questions s w own clock = ask_both s w own ∷ ask_wider s w ∷ ask (ltb clock s.modulus) 2 ∷ []

-- 01: "Fresh tables at a clock", of the width of that clock
unfoldable pub fresh_in : Setup → Wider → ℕ → Timestamp
fresh_in s w clock = fresh (own_limits (along s w clock)).epsilon clock
