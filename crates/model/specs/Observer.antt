-- 02, 2.6: "A board that only listens", here an observer. It "keeps its last clock … but no counts, and sends nothing".
use Rattle.std.specs.Prelude.{ℕ, zero, suc, ◌+◌, Bool, cond, List, [], ◌∷◌, ◌++◌, length}
use Rattle.laws.specs.Lists.{overlay}
use Rattle.model.specs.Setup.{Setup, in_limits}
use Rattle.model.specs.Timestamp.{clock_step, sound_clock}
use Rattle.model.specs.Frame.{Frame}
use Rattle.model.specs.Batch.{exact_batch, batch_entries}
use Rattle.model.specs.Question.{Question, ask, first_no}
use Rattle.model.specs.Holdback.{sound_holdback, encode_frames, encode_holdback}
use Rattle.model.specs.Judge.{Heard, hear, observer_questions}
use Rattle.model.specs.Tick.{holdback_size, delivery_roomy, holdback_questions, least_after, opening_queue, overdue_in, opening_in, delivered_in, kept_in, taken_count}

-- the arguments of an observer's call
pub record Listening : Type 0 where
  pub setup : Setup
  -- v
  pub clock : ℕ
  -- 02: "its last clock"
  pub last : ℕ
  -- 01: the shelf
  pub holdback : List ℕ
  -- 01: the bundle
  pub batch : List ℕ
  -- 01: the verdict and the hand-out buffer
  pub verdicts : List ℕ
  pub delivery : List ℕ

-- the answer, and what the observer keeps and the buffers hold after the call
pub record Listened : Type 0 where
  -- 0, or the check's number
  pub number : ℕ
  -- 01: mend
  pub repair : ℕ
  -- 01: frames taken
  pub taken : ℕ
  -- 01: frames handed out
  pub delivered : ℕ
  -- 02: the last clock
  pub last : ℕ
  -- 01: the shelf
  pub holdback : List ℕ
  -- 01: the verdict and the hand-out buffer
  pub verdicts : List ℕ
  pub delivery : List ℕ

-- 02: "It asks 1 without the own number, 2, 3, 5, and 6 without the outgoing buffer"
unfoldable pub listen_questions : Listening → List Question
listen_questions i =
    ask (in_limits i.setup) 1
    ∷ (holdback_questions i.setup i.clock i.holdback
    ++ (ask (exact_batch i.batch) 5 ∷ ask (delivery_roomy i.setup i.verdicts i.delivery) 6 ∷ []))

-- a refused call changes nothing
unfoldable pub not_listened : Listening → ℕ → Listened
not_listened i number =
    record {
      number = number;
      repair = 0;
      taken = 0;
      delivered = 0;
      last = i.last;
      holdback = i.holdback;
      verdicts = i.verdicts;
      delivery = i.delivery;
    }

-- 02: "its last clock (judged and mended like the r of tables)"
unfoldable pub last_sound : Listening → Bool
last_sound i = sound_clock i.setup.epsilon i.setup.modulus i.clock i.last

-- the least due clock that its shelf may have
unfoldable pub observer_least : Listening → ℕ
observer_least i = least_after i.setup (last_sound i) (clock_step i.setup.modulus i.last i.clock)

-- (mend 1) of the last clock, (mend 2) of the shelf; both, mend 3
unfoldable pub observer_repair : Listening → ℕ
observer_repair i = cond (last_sound i) 0 1 + cond (sound_holdback i.setup i.clock (observer_least i) i.holdback) 0 2

-- as a station: the shelf as found, or emptied
unfoldable pub observer_opened : Listening → List Frame
observer_opened i = opening_queue i.setup i.clock (observer_least i) i.holdback

-- the bundle heard, by its own questions
unfoldable pub observer_heard : Listening → Heard
observer_heard i =
    hear i.setup i.clock (observer_questions i.setup i.clock) (opening_in i.setup i.clock (observer_opened i)) (batch_entries i.batch)

-- the hand-out, and what stays
unfoldable pub observer_delivered : Listening → List Frame
observer_delivered i = delivered_in i.setup i.clock (overdue_in i.setup i.clock (observer_opened i)) (observer_heard i).queue

unfoldable pub observer_kept : Listening → List Frame
observer_kept i = kept_in i.setup i.clock (observer_heard i).queue

-- an accepted call; its last clock is v
unfoldable pub listened : Listening → Listened
listened i =
    record {
      number = 0;
      repair = observer_repair i;
      taken = taken_count (observer_heard i).verdicts;
      delivered = length (observer_delivered i);
      last = i.clock;
      holdback = encode_holdback (holdback_size i.setup) (observer_kept i);
      verdicts = overlay (observer_heard i).verdicts i.verdicts;
      delivery = overlay (encode_frames (observer_delivered i)) i.delivery;
    }

-- what comes of a call, by the number of the first no
abbrev pub listen_by : ℕ → Listening → Listened
listen_by zero i = listened i
listen_by (suc k) i = not_listened i (suc k)

unfoldable pub listen : Listening → Listened
listen i = listen_by (first_no (listen_questions i)) i
