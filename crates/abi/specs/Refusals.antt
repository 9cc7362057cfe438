-- 01: a no ends the call: "the answer is that number and the tables as given, all else 0, and all buffers keep their contents". Said of what the
-- contracts of the exported calls equate their answer and buffers with, of every byte of the tables, those past the 2ε counts too.
use Rattle.std.specs.Prelude.{ℕ, suc, ◌<◌, ◌≡◌, Bool, List, ◌∷◌, length, get_or}
use Rattle.model.specs.Setup.{Setup}
use Rattle.model.specs.Timestamp.{Timestamp}
use Rattle.model.specs.Question.{Question, first_no}
use Rattle.model.specs.Codec.{read_questions, read, frame_of, WriteAnswer, write_questions, write}
use Rattle.model.specs.Tick.{Input, call_questions, tick}
use Rattle.model.specs.Observer.{listen_questions, listen}
use Rattle.model.specs.Long.{ask_long_setup, long_frame_questions, long_read, long_write_questions, long_write, long_call_questions, long_tick}
use Rattle.abi.specs.Packing.{tables_length, long_tables_length, tables_in, long_tables_in, input_with, Returned, returned, packed, long_packed, listening_by, returned_listening, packed_listening, packed_read, long_packed_read, read_tables, long_read_tables, packed_write}

-- so many bytes
abbrev pub BytesOf : ℕ → List ℕ → Type 0
BytesOf size s = (length s ≡ size) × ((i : ℕ) → get_or s i 0 < 256)

-- of a tick: by the length of its tables, what stands in their bytes, what it is asked, and what it gives back
abbrev pub RefusedTickOf : ℕ → (List ℕ → Timestamp) → (Input → List Question) → (Input → Returned) → Type 0
RefusedTickOf size tables_of questions call =
    (s : Setup) (own clock : ℕ) (tables holdback batch : List ℕ) (send : Bool) (payload outgoing verdicts delivery : List ℕ) → BytesOf size tables
    → (k : ℕ) → first_no (questions (input_with s own clock (tables_of tables) holdback batch send payload outgoing verdicts delivery)) ≡ suc k
    → call (input_with s own clock (tables_of tables) holdback batch send payload outgoing verdicts delivery)
    ≡ returned (suc k) tables holdback outgoing verdicts delivery

abbrev pub RefusedTick : Type 0
RefusedTick = RefusedTickOf tables_length tables_in call_questions (λ i. packed (tick i))

-- 02, 2.9: an engine's
abbrev pub RefusedLongTick : Type 0
RefusedLongTick = RefusedTickOf long_tables_length long_tables_in long_call_questions (λ i. long_packed (long_tick i))

-- 02, 2.6: of an observer's call, with its last clock for the tables
abbrev pub RefusedListening : Type 0
RefusedListening =
    (s : Setup) (clock : ℕ) (last holdback batch verdicts delivery : List ℕ) → BytesOf 2 last
    → (k : ℕ) → first_no (listen_questions (listening_by s clock last holdback batch verdicts delivery)) ≡ suc k
    → packed_listening (listen (listening_by s clock last holdback batch verdicts delivery)) ≡ returned_listening (suc k) last holdback verdicts delivery

-- 01: "A refused reader or writer answers the number alone and writes nothing": of a reader, by its questions, its answer in one number, and what it
-- leaves in the tables
abbrev pub RefusedReadOf : (Setup → ℕ → List ℕ → List Question) → (Setup → ℕ → List ℕ → ℕ) → (Setup → ℕ → List ℕ → List ℕ → List ℕ) → Type 0
RefusedReadOf questions word left =
    (s : Setup) (own : ℕ) (bytes tables : List ℕ) (k : ℕ) → first_no (questions s own bytes) ≡ suc k
    → (word s own bytes ≡ suc k) × (left s own bytes tables ≡ tables)

abbrev pub RefusedRead : Type 0
RefusedRead = RefusedReadOf read_questions (λ s own bytes. packed_read s.epsilon (read s own bytes)) (λ s own bytes tables. read_tables (read s own bytes) tables)

abbrev pub RefusedLongRead : Type 0
RefusedLongRead =
    RefusedReadOf (λ s own bytes. ask_long_setup s own ∷ long_frame_questions s bytes) (λ s own bytes. long_packed_read s.epsilon (long_read s own bytes))
    (λ s own bytes tables. long_read_tables (long_read s own bytes) tables)

-- of a writer, by its questions, and what it answers and leaves in its buffer
abbrev pub RefusedWriteOf :
    (Setup → ℕ → ℕ → Timestamp → List ℕ → List ℕ → List Question) → (Setup → ℕ → ℕ → Timestamp → List ℕ → List ℕ → WriteAnswer) → Type 0
RefusedWriteOf questions answer =
    (s : Setup) (own station : ℕ) (t : Timestamp) (payload buffer : List ℕ) (k : ℕ) → first_no (questions s own station t payload buffer) ≡ suc k
    → (packed_write (answer s own station t payload buffer) ≡ suc k) × ((answer s own station t payload buffer).buffer ≡ buffer)

abbrev pub RefusedWrite : Type 0
RefusedWrite =
    RefusedWriteOf (λ s own station t payload buffer. write_questions s own station t payload buffer)
    (λ s own station t payload buffer. write s own station t payload buffer)

abbrev pub RefusedLongWrite : Type 0
RefusedLongWrite =
    RefusedWriteOf (λ s own station t payload buffer. long_write_questions s own (frame_of s.epsilon station t payload) buffer)
    (λ s own station t payload buffer. long_write s own station t payload buffer)
