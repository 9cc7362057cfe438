-- A refused call gives back the number alone, and its tables and buffers as they were, byte for byte. Assumes nothing.
use Prim.Native.Nat.{ℕ, suc}
use native.Mathlib.Omega.{arith}
use mathlib.Core.Path.{◌≡◌, ap, ap₂, ◌∙◌}
use mathlib.Core.Bool.{Bool, false, cond}
use mathlib.Core.List.{List, ◌∷◌}
use lib.Dec.{eqb}
use lib.ListN.{length}
use borrow.Author.Tests.{ne_eqb}
use Rattle.model.specs.Timestamp.{Timestamp}
use Rattle.model.specs.Frame.{Frame, encode, decode}
use Rattle.model.specs.Question.{Question, first_no}
use Rattle.model.specs.Codec.{read_questions, read_by, read, frame_of, write_questions, written_by, write_frame}
use Rattle.model.specs.Tick.{Input, Output, call_questions, refusal, tick}
use Rattle.model.specs.Observer.{not_listened}
use Rattle.model.specs.Long.{long_encode, long_decode, ask_long_setup, long_frame_questions, long_read, long_write_questions, long_write_frame, long_call_questions, long_tick}
use Rattle.lemmas.proofs.OneTick.{tick-by}
use Rattle.lemmas.proofs.OneListening.{listen-by}
use Rattle.holdback.proofs.RoundTrip.{Bytes}
use Rattle.abi.specs.Packing.{tables_length, long_tables_length, tables_in, long_tables_in, tables_bytes, long_tables_bytes, input_with, packed_answer, returned, packed_with, packed, long_packed, listening_by, packed_listened, returned_listening, packed_listening, place_with, packed_read_with, packed_read, long_packed_read, read_tables_with, read_tables, long_read_tables, packed_write}
use Rattle.abi.specs.Refusals.{RefusedTickOf, RefusedTick, RefusedLongTick, RefusedListening, RefusedRead, RefusedLongRead, RefusedWrite, RefusedLongWrite}
use Rattle.abi.proofs.Words.{tables-same, long-tables-same, last-same}
use Rattle.abi.proofs.LongWords.{tick-refused}

-- a tick, whose tables stand in bytes and are read from them in whatever way
refused-by :
    (size : ℕ) (tables_of : List ℕ → Timestamp) (bytes : Timestamp → List ℕ) (questions : Input → List Question) (call : Input → Output)
    → ((s : List ℕ) → length s ≡ size → Bytes s → bytes (tables_of s) ≡ s) → ((i : Input) (k : ℕ) → first_no (questions i) ≡ suc k → call i ≡ refusal i (suc k))
    → RefusedTickOf size tables_of questions (λ i. packed_with bytes (call i))
unfolding refusal packed_answer
refused-by size tables_of bytes questions call back refused s own clock tables holdback batch send payload outgoing verdicts delivery (long, below) k e =
    let i = input_with s own clock (tables_of tables) holdback batch send payload outgoing verdicts delivery in
    let word : packed_answer (refusal i (suc k)).answer ≡ suc k = omega arith in
    ap (packed_with bytes) (refused i k e)
    ∙ ap₂ (λ (w : ℕ) (l : List ℕ). returned w l holdback outgoing verdicts delivery) word (back tables long below)

pub refused-tick-bytes : RefusedTick
unfolding packed
refused-tick-bytes = refused-by tables_length tables_in tables_bytes call_questions tick tables-same (λ i k e. tick-by i (suc k) e)

pub refused-long-tick-bytes : RefusedLongTick
unfolding long_packed
refused-long-tick-bytes = refused-by long_tables_length long_tables_in long_tables_bytes long_call_questions long_tick long-tables-same tick-refused

pub refused-listening-bytes : RefusedListening
unfolding packed_listening not_listened packed_listened
refused-listening-bytes s clock last holdback batch verdicts delivery (long, below) k e =
    let i = listening_by s clock last holdback batch verdicts delivery in
    let word : packed_listened (not_listened i (suc k)) ≡ suc k = omega arith in
    ap packed_listening (listen-by i (suc k) e)
    ∙ ap₂ (λ (w : ℕ) (l : List ℕ). returned_listening w l holdback verdicts delivery) word (last-same last long below)

-- a reader and a writer, whose frame is told and laid down in whatever way
refused-read-by :
    (at : ℕ) (bytes : Timestamp → List ℕ) (questions : List Question) (f : Frame) (tables : List ℕ) (k : ℕ) → first_no questions ≡ suc k
    → (packed_read_with at (read_by (first_no questions) f) ≡ suc k) × (read_tables_with bytes (read_by (first_no questions) f) tables ≡ tables)
refused-read-by at bytes questions f tables k e =
    let no_zero : eqb (suc k) 0 ≡ false = ne_eqb (suc k) 0 (λ (z : suc k ≡ 0). omega (arith, z)) in
    let nowhere : place_with at (read_by (suc k) f) ≡ 0 = ap (λ (b : Bool). cond b at 0) no_zero in
    let word : packed_read_with at (read_by (suc k) f) ≡ suc k = omega (arith, nowhere) in (
      ap (λ (n : ℕ). packed_read_with at (read_by n f)) e ∙ word,
      ap (λ (n : ℕ). read_tables_with bytes (read_by n f) tables) e ∙ ap (λ (b : Bool). cond b (bytes (read_by (suc k) f).stamp) tables) no_zero,
    )

pub refused-read-bytes : RefusedRead
unfolding read packed_read read_tables
refused-read-bytes s own bytes tables k e = refused-read-by _ tables_bytes (read_questions s own bytes) (decode s.epsilon bytes) tables k e

pub refused-long-read-bytes : RefusedLongRead
unfolding long_read long_packed_read long_read_tables
refused-long-read-bytes s own bytes tables k e =
    refused-read-by _ long_tables_bytes (ask_long_setup s own ∷ long_frame_questions s bytes) (long_decode s.epsilon bytes) tables k e

refused-write-by :
    (questions : List Question) (bytes buffer : List ℕ) (k : ℕ) → first_no questions ≡ suc k
    → (packed_write (written_by (first_no questions) bytes buffer) ≡ suc k) × ((written_by (first_no questions) bytes buffer).buffer ≡ buffer)
unfolding packed_write
refused-write-by questions bytes buffer k e =
    let word : packed_write (written_by (suc k) bytes buffer) ≡ suc k = omega arith in
    (ap (λ (n : ℕ). packed_write (written_by n bytes buffer)) e ∙ word, ap (λ (n : ℕ). (written_by n bytes buffer).buffer) e)

pub refused-write-bytes : RefusedWrite
unfolding write_frame
refused-write-bytes s own station t payload buffer k e =
    refused-write-by (write_questions s own station t payload buffer) (encode (frame_of s.epsilon station t payload)) buffer k e

pub refused-long-write-bytes : RefusedLongWrite
unfolding long_write_frame
refused-long-write-bytes s own station t payload buffer k e =
    let f = frame_of s.epsilon station t payload in
    refused-write-by (long_write_questions s own f buffer) (long_encode f) buffer k e
