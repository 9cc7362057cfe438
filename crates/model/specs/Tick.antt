-- 01, "One tick at clock v": the call's questions, the answer, and every buffer after the call.
use Rattle.std.specs.Prelude.{ℕ, zero, suc, ◌+◌, ◌-◌, Bool, ◌&&◌, not, cond, List, [], ◌∷◌, ◌++◌, leb, ltb, eqb, length}
use Rattle.laws.specs.Lists.{select, overlay}
use Rattle.model.specs.Setup.{Setup, longest_frame, holdback_length, verdict_length}
use Rattle.model.specs.Timestamp.{Timestamp, trimmed, widened, clock_step, sound_tables, replaced, step, count_own}
use Rattle.model.specs.Frame.{Frame, encode}
use Rattle.model.specs.Order.{due_near}
use Rattle.model.specs.Batch.{exact_batch, batch_entries}
use Rattle.model.specs.Holdback.{held, sound_holdback, encode_frames, encode_holdback}
use Rattle.model.specs.Question.{Question, ask, first_no, ask_setup}
use Rattle.model.specs.Codec.{ask_payload, frame_of}
use Rattle.model.specs.Judge.{Heard, hear, judge_questions, absorb_all}

-- the arguments of one call
pub record Input : Type 0 where
  pub setup : Setup
  -- 01: the own number
  pub own : ℕ
  -- 01: v
  pub clock : ℕ
  pub tables : Timestamp
  -- 01: the shelf
  pub holdback : List ℕ
  -- 01: the bundle
  pub batch : List ℕ
  -- 01: whether a ticket is to be sent, and the ticket
  pub send : Bool
  pub payload : List ℕ
  -- 01: the outgoing, the verdict and the hand-out buffer
  pub outgoing : List ℕ
  pub verdicts : List ℕ
  pub delivery : List ℕ

-- 01: "The answer gives 0, new tables, mend, frames taken, frames handed out, outgoing length (0 if none)"
pub record Answer : Type 0 where
  -- 0, or the check's number
  pub number : ℕ
  pub tables : Timestamp
  -- 01: mend
  pub repair : ℕ
  -- 01: frames taken
  pub taken : ℕ
  -- 01: frames handed out
  pub delivered : ℕ
  -- 01: outgoing length
  pub sent : ℕ

-- the answer, and the buffers after the call
pub record Output : Type 0 where
  pub answer : Answer
  -- 01: the shelf
  pub holdback : List ℕ
  -- 01: the outgoing, the verdict and the hand-out buffer
  pub outgoing : List ℕ
  pub verdicts : List ℕ
  pub delivery : List ℕ

-- 01: "a shelf's length"
abbrev pub holdback_size : Setup → ℕ
holdback_size s = holdback_length s.n s.epsilon s.delta

-- 01, 6: "Has … the verdict buffer 255, the hand-out buffer a shelf's length?"
abbrev pub delivery_roomy : Setup → List ℕ → List ℕ → Bool
delivery_roomy s verdicts delivery = leb verdict_length (length verdicts) && leb (holdback_size s) (length delivery)

-- 01, 6: "Has the outgoing buffer at least 39 + 2ε bytes", and these
unfoldable pub roomy : Input → Bool
roomy i = leb (longest_frame i.setup.epsilon) (length i.outgoing) && delivery_roomy i.setup i.verdicts i.delivery

-- 01, 2: "Is the clock below B?", and 3: "Has the shelf its exact length?"
abbrev pub holdback_questions : Setup → ℕ → List ℕ → List Question
holdback_questions s v holdback = ask (ltb v s.modulus) 2 ∷ ask (eqb (length holdback) (holdback_size s)) 3 ∷ []

-- 01: "Of the call, in order": 1 to 6
unfoldable pub call_questions : Input → List Question
call_questions i =
    ask_setup i.setup i.own
    ∷ (holdback_questions i.setup i.clock i.holdback
    ++ (ask_payload i.payload ∷ ask (exact_batch i.batch) 5 ∷ ask (roomy i) 6 ∷ []))

-- 01: "the answer is that number and the tables as given, all else 0, and all buffers keep their contents"
unfoldable pub refusal : Input → ℕ → Output
refusal i number =
    record {
      answer = record { number = number; tables = i.tables; repair = 0; taken = 0; delivered = 0; sent = 0 };
      holdback = i.holdback;
      outgoing = i.outgoing;
      verdicts = i.verdicts;
      delivery = i.delivery;
    }

-- 01: the tables are "sound for a new clock v", by their 2ε counts
unfoldable pub tables_sound : Setup → ℕ → Timestamp → Bool
tables_sound s v tables = sound_tables s.n s.epsilon s.modulus v (trimmed s.epsilon tables)

-- 02, 2.2: the step of a call: from the clock of its tables to v
unfoldable pub step_of : Setup → ℕ → Timestamp → ℕ
step_of s v tables = clock_step s.modulus tables.r v

-- 02, 2.2: the least due clock that the shelf may have, as a reading, in which v stands at B: one past "the last clock", by the step from
-- it, where it is sound; where not, "no due clock before v is accepted"
abbrev pub least_at : ℕ → Bool → ℕ → ℕ
least_at at sound step = cond sound (at + 1 - step) at

abbrev pub least_after : Setup → Bool → ℕ → ℕ
least_after s sound step = least_at s.modulus sound step

-- 02, 2.2: the last clock is "r of the tables"
unfoldable pub least_due : Setup → ℕ → Timestamp → ℕ
least_due s v tables = least_after s (tables_sound s v tables) (step_of s v tables)

-- the shelf is sound for v, after these tables
unfoldable pub holdback_sound : Setup → ℕ → Timestamp → List ℕ → Bool
holdback_sound s v tables holdback = sound_holdback s v (least_due s v tables) holdback

-- 01, tick 1: "(mend 1)", "(mend 2; both, mend 3)"
unfoldable pub repair_of : Setup → ℕ → Timestamp → List ℕ → ℕ
repair_of s v tables holdback = cond (tables_sound s v tables) 0 1 + cond (holdback_sound s v tables holdback) 0 2

-- 01, tick 1 and 2: the stamp with which hearing starts
unfoldable pub opening_stamp : Setup → ℕ → Timestamp → Timestamp
opening_stamp s v tables =
    cond (tables_sound s v tables) (step (step_of s v tables) v (trimmed s.epsilon tables)) (replaced s.epsilon v)

-- 01, tick 1: "An unsound shelf is emptied". The least due clock allowed is given
unfoldable pub opening_queue : Setup → ℕ → ℕ → List ℕ → List Frame
opening_queue s v least holdback = cond (sound_holdback s v least holdback) (held s.epsilon holdback) []

-- the same in a call
unfoldable pub opened_queue : Input → List Frame
opened_queue i = opening_queue i.setup i.clock (least_due i.setup i.clock i.tables) i.holdback

-- 02, 2.2: a frame's "due clock lies before v", which reads B
unfoldable pub due_before : Setup → ℕ → Frame → Bool
due_before s v f = ltb (due_near s v f) s.modulus

-- 02, 2.2: "Frames whose due clock lies before v go out before the bundle is judged"
abbrev pub overdue_in : Setup → ℕ → List Frame → List Frame
overdue_in s v queue = select (due_before s v) queue

-- what hearing starts from, on the shelf: all others
abbrev pub opening_in : Setup → ℕ → List Frame → Heard
opening_in s v queue = record { queue = select (λ f. not (due_before s v f)) queue; verdicts = [] }

-- the same in a call
unfoldable pub overdue_of : Input → List Frame
overdue_of i = overdue_in i.setup i.clock (opened_queue i)

abbrev pub opening : Input → Heard
opening i = opening_in i.setup i.clock (opened_queue i)

-- 01, tick 3: the shelf and the verdicts
unfoldable pub heard_of : Input → Heard
heard_of i =
    hear i.setup i.clock (judge_questions i.setup i.clock) (opening i) (batch_entries i.batch)

-- 01, tick 3: the stamp
unfoldable pub heard_stamp : Input → Timestamp
heard_stamp i =
    absorb_all i.setup i.clock (opening_stamp i.setup i.clock i.tables) (batch_entries i.batch)
    (heard_of i).verdicts

-- 01, tick 4
unfoldable pub new_stamp : Input → Timestamp
new_stamp i = count_own i.setup.epsilon i.clock (heard_stamp i)

-- 01, tick 5: "If a ticket is to be sent, the frame carries this stamp"
unfoldable pub sent_bytes : Input → List ℕ
sent_bytes i = cond i.send (encode (frame_of i.setup.epsilon i.own (new_stamp i) i.payload)) []

-- 01, tick 6: "whose sum + δ + ε (its due clock) equals v", which reads B
unfoldable pub due_now : Setup → ℕ → Frame → Bool
due_now s v f = eqb (due_near s v f) s.modulus

-- 01, tick 6: "is handed out, in order". 02, 2.2: those due before v and those due at v: "both make one hand-out"
abbrev pub delivered_in : Setup → ℕ → List Frame → List Frame → List Frame
delivered_in s v overdue queue = overdue ++ select (due_now s v) queue

-- 01, tick 6: "and leaves the shelf"
abbrev pub kept_in : Setup → ℕ → List Frame → List Frame
kept_in s v queue = select (λ f. not (due_now s v f)) queue

-- the same in a call
unfoldable pub delivered_of : Input → List Frame
delivered_of i = delivered_in i.setup i.clock (overdue_of i) (heard_of i).queue

unfoldable pub kept_of : Input → List Frame
kept_of i = kept_in i.setup i.clock (heard_of i).queue

-- how many verdicts are 0
unfoldable pub taken_count : List ℕ → ℕ
taken_count verdicts = length (select (λ x. eqb x 0) verdicts)

-- what an accepted call comes to: mend, the new stamp, the verdicts, the frame sent, what is handed out, with its bytes, and the shelf's bytes.
-- "Bytes beyond those written stay"
abbrev pub accepted_with : Input → ℕ → Timestamp → List ℕ → List ℕ → List Frame → List ℕ → List ℕ → Output
accepted_with i repair stamp verdicts sent delivered delivered_bytes holdback =
    record {
      answer =
          record {
            number = 0;
            tables = widened stamp;
            repair = repair;
            taken = taken_count verdicts;
            delivered = length delivered;
            sent = length sent;
          };
      holdback = holdback;
      outgoing = overlay sent i.outgoing;
      verdicts = overlay verdicts i.verdicts;
      delivery = overlay delivered_bytes i.delivery;
    }

-- an accepted call
unfoldable pub acceptance : Input → Output
acceptance i =
    accepted_with i (repair_of i.setup i.clock i.tables i.holdback) (new_stamp i) (heard_of i).verdicts (sent_bytes i)
    (delivered_of i) (encode_frames (delivered_of i)) (encode_holdback (holdback_size i.setup) (kept_of i))

-- what comes of a call, by the number of the first no
abbrev pub tick_by : ℕ → Input → Output
tick_by zero i = acceptance i
tick_by (suc k) i = refusal i (suc k)

-- 01: "A call is accepted exactly if none of its questions gets a no, and refused otherwise"
unfoldable pub tick : Input → Output
tick i = tick_by (first_no (call_questions i)) i
