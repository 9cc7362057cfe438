-- Demand 1: "A call that fails a check returns that check's number and changes nothing. Every other call is accepted, whatever its tables and shelf hold."
-- (That any call gets a finished answer is the checker's part: every function is total.)
use Rattle.std.specs.Prelude.{ℕ, suc, ◌≡◌, List, []}
use Rattle.model.specs.Setup.{Setup}
use Rattle.model.specs.Timestamp.{Timestamp}
use Rattle.model.specs.Frame.{Frame, encode, decode}
use Rattle.model.specs.Question.{Question, first_no}
use Rattle.model.specs.Codec.{read_questions, ReadAnswer, no_timestamp, read_by, read, frame_of, write_questions, WriteAnswer, written_by, write}
use Rattle.model.specs.Tick.{Input, Output, call_questions, refusal, acceptance, tick}
use Rattle.model.specs.Observer.{Listening, Listened, listen_questions, not_listened, listened, listen}

-- what demand 1 promises of a call, whatever its arguments hold: of what comes of it, by its questions, what it comes to when it is refused
-- with a number, and what when it is accepted
pub record Checked (A : Type 0) (number_of : A → ℕ) (questions : List Question) (refusing : ℕ → A) (accepting result : A) : Type 0 where
  -- "the answer is that number and the tables as given, all else 0, and all buffers keep their contents"
  pub refused : (k : ℕ) → first_no questions ≡ suc k → result ≡ refusing (suc k)
  -- "A call is accepted exactly if none of its questions gets a no, and refused otherwise"
  pub accepted : first_no questions ≡ 0 → result ≡ accepting
  -- "returns that check's number", 0 where every check is passed
  pub number : number_of result ≡ first_no questions

-- of a station's
abbrev pub Demand1 : Input → Type 0
Demand1 i = Checked Output (λ (o : Output). o.answer.number) (call_questions i) (refusal i) (acceptance i) (tick i)

-- 02, 2.6: of an observer's
abbrev pub Demand1Observer : Listening → Type 0
Demand1Observer i = Checked Listened (λ (o : Listened). o.number) (listen_questions i) (not_listened i) (listened i) (listen i)

-- 01, of reader and writer: a refused one "answers the number alone and writes nothing"
abbrev pub not_read : ℕ → ReadAnswer
not_read number = record { number = number; station = 0; stamp = no_timestamp; payload = [] }

abbrev pub not_written : List ℕ → ℕ → WriteAnswer
not_written buffer number = record { number = number; size = 0; buffer = buffer }

-- of a reader, by its questions, what the bytes hold, and what it answers
abbrev pub CheckedRead : List Question → Frame → ReadAnswer → Type 0
CheckedRead questions f answer = Checked ReadAnswer (λ (a : ReadAnswer). a.number) questions not_read (read_by 0 f) answer

-- of a writer, by its questions, the bytes of the frame, its buffer, and what it answers and leaves there
abbrev pub CheckedWrite : List Question → List ℕ → List ℕ → WriteAnswer → Type 0
CheckedWrite questions bytes buffer answer =
    Checked WriteAnswer (λ (a : WriteAnswer). a.number) questions (not_written buffer) (written_by 0 bytes buffer) answer

-- of a station's
abbrev pub Demand1Read : Type 0
Demand1Read =
    (s : Setup) (own : ℕ) (bytes : List ℕ) → CheckedRead (read_questions s own bytes) (decode s.epsilon bytes) (read s own bytes)

abbrev pub Demand1Write : Type 0
Demand1Write =
    (s : Setup) (own station : ℕ) (t : Timestamp) (payload buffer : List ℕ)
    → CheckedWrite (write_questions s own station t payload buffer) (encode (frame_of s.epsilon station t payload)) buffer
    (write s own station t payload buffer)
