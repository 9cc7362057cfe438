-- The boundary to C: the tables are 35 bytes (r low byte first, c, 32 counts), an engine's 41 (r in eight bytes), an observer's last clock two
-- (low byte first), and an answer is one number of 64 bits.
-- Assumes nothing.
use Rattle.std.specs.Prelude.{ℕ, ◌+◌, ◌*◌, Bool, cond, List, ◌∷◌, ◌++◌, eqb, length, take, drop, get_or}
use Rattle.std.proofs.Math.Option.{Option, none, some}
use Rattle.model.specs.Setup.{Setup, widest}
use Rattle.model.specs.Timestamp.{Timestamp}
use Rattle.model.specs.Frame.{two_bytes, two_at, payload_count_at}
use Rattle.model.specs.Codec.{ReadAnswer, WriteAnswer}
use Rattle.model.specs.Comparison.{CompareAnswer}
use Rattle.model.specs.Tick.{Input, Answer, Output}
use Rattle.model.specs.Poll.{PollAnswer}
use Rattle.model.specs.Observer.{Listening, Listened}
use Rattle.model.specs.Long.{low_first, number_at}
use Rattle.words.specs.Words.{WordsAnswer}

-- how many bytes the tables have
abbrev pub tables_length : ℕ
tables_length = 35

-- 02, 2.9: and how many those of an engine
abbrev pub long_tables_length : ℕ
long_tables_length = 41

-- tables with that r, whose c stands at a place of the bytes, and the counts behind it
abbrev pub tables_at : ℕ → ℕ → List ℕ → Timestamp
tables_at at r s = record { r = r; c = get_or s at 0; kn = take widest (drop (at + 1) s) }

-- the tables that stand in those bytes
unfoldable pub tables_in : List ℕ → Timestamp
tables_in s = tables_at 2 (two_at s 0) s

unfoldable pub long_tables_in : List ℕ → Timestamp
long_tables_in s = tables_at 8 (number_at 8 s 0) s

-- the bytes of tables, from those of r
abbrev pub tables_behind : List ℕ → Timestamp → List ℕ
tables_behind r t = r ++ (t.c ∷ t.kn)

unfoldable pub tables_bytes : Timestamp → List ℕ
tables_bytes t = tables_behind (two_bytes t.r) t

unfoldable pub long_tables_bytes : Timestamp → List ℕ
long_tables_bytes t = tables_behind (low_first 8 t.r) t

-- a setup of the numbers of a call
abbrev pub setup_by : ℕ → ℕ → ℕ → ℕ → Setup
setup_by n epsilon delta modulus = record { n = n; epsilon = epsilon; delta = delta; modulus = modulus }

-- 02, 2.9: an engine's "setup has no B"; 0 stands in its place
abbrev pub long_setup_by : ℕ → ℕ → ℕ → Setup
long_setup_by n epsilon delta = setup_by n epsilon delta 0

-- the arguments of a tick, by its tables
abbrev pub input_with : Setup → ℕ → ℕ → Timestamp → List ℕ → List ℕ → Bool → List ℕ → List ℕ → List ℕ → List ℕ → Input
input_with setup own clock tables holdback batch send payload outgoing verdicts delivery =
    record {
      setup = setup;
      own = own;
      clock = clock;
      tables = tables;
      holdback = holdback;
      batch = batch;
      send = send;
      payload = payload;
      outgoing = outgoing;
      verdicts = verdicts;
      delivery = delivery;
    }

-- and by their bytes
abbrev pub input_by : Setup → ℕ → ℕ → List ℕ → List ℕ → List ℕ → Bool → List ℕ → List ℕ → List ℕ → List ℕ → Input
input_by setup own clock tables holdback batch send payload outgoing verdicts delivery =
    input_with setup own clock (tables_in tables) holdback batch send payload outgoing verdicts delivery

abbrev pub long_input_by : Setup → ℕ → ℕ → List ℕ → List ℕ → List ℕ → Bool → List ℕ → List ℕ → List ℕ → List ℕ → Input
long_input_by setup own clock tables holdback batch send payload outgoing verdicts delivery =
    input_with setup own clock (long_tables_in tables) holdback batch send payload outgoing verdicts delivery

-- the number in bits 0 to 7, 01's mend in 8 to 15, frames taken in 16 to 23, the outgoing length in 24 to 31, frames handed out from 32 on
abbrev pub packed_numbers : ℕ → ℕ → ℕ → ℕ → ℕ → ℕ
packed_numbers number repair taken sent delivered = number + 256 * (repair + 256 * (taken + 256 * (sent + 256 * delivered)))

unfoldable pub packed_answer : Answer → ℕ
packed_answer a = packed_numbers a.number a.repair a.taken a.sent a.delivered

-- what a tick gives back: one number, and the tables and buffers as it left them
pub record Returned : Type 0 where
  pub word : ℕ
  pub tables : List ℕ
  pub holdback : List ℕ
  pub outgoing : List ℕ
  pub verdicts : List ℕ
  pub delivery : List ℕ

abbrev pub returned : ℕ → List ℕ → List ℕ → List ℕ → List ℕ → List ℕ → Returned
returned word tables holdback outgoing verdicts delivery =
    record { word = word; tables = tables; holdback = holdback; outgoing = outgoing; verdicts = verdicts; delivery = delivery }

-- the packing of a tick's output, by how its tables stand in bytes
abbrev pub packed_with : (Timestamp → List ℕ) → Output → Returned
packed_with bytes o = returned (packed_answer o.answer) (bytes o.answer.tables) o.holdback o.outgoing o.verdicts o.delivery

unfoldable pub packed : Output → Returned
packed o = packed_with tables_bytes o

unfoldable pub long_packed : Output → Returned
long_packed o = packed_with long_tables_bytes o

-- the arguments of an observer's call; its last clock stands in two bytes
abbrev pub listening_by : Setup → ℕ → List ℕ → List ℕ → List ℕ → List ℕ → List ℕ → Listening
listening_by setup clock last holdback batch verdicts delivery =
    record {
      setup = setup;
      clock = clock;
      last = two_at last 0;
      holdback = holdback;
      batch = batch;
      verdicts = verdicts;
      delivery = delivery;
    }

-- the figures of an observer, which sends nothing
unfoldable pub packed_listened : Listened → ℕ
packed_listened o = packed_numbers o.number o.repair o.taken 0 o.delivered

-- what its call gives back: one number, and its last clock and the buffers as it left them
pub record ReturnedListening : Type 0 where
  pub word : ℕ
  pub last : List ℕ
  pub holdback : List ℕ
  pub verdicts : List ℕ
  pub delivery : List ℕ

abbrev pub returned_listening : ℕ → List ℕ → List ℕ → List ℕ → List ℕ → ReturnedListening
returned_listening word last holdback verdicts delivery =
    record { word = word; last = last; holdback = holdback; verdicts = verdicts; delivery = delivery }

unfoldable pub packed_listening : Listened → ReturnedListening
packed_listening o = returned_listening (packed_listened o) (two_bytes o.last) o.holdback o.verdicts o.delivery

-- where the payload of a frame that was read starts, by where it does in an accepted one; 0 of a refused one
abbrev pub place_with : ℕ → ReadAnswer → ℕ
place_with at a = cond (eqb a.number 0) at 0

-- the number in bits 0 to 7, the station in 8 to 15, the place of the payload in 16 to 31, its length in 32 to 47
abbrev pub packed_read_with : ℕ → ReadAnswer → ℕ
packed_read_with at a = a.number + 256 * (a.station + 256 * (place_with at a + 65536 * length a.payload))

unfoldable pub packed_read : ℕ → ReadAnswer → ℕ
packed_read epsilon a = packed_read_with (payload_count_at epsilon + 1) a

-- 02, 2.9: an engine's frame has a first section longer by six
unfoldable pub long_packed_read : ℕ → ReadAnswer → ℕ
long_packed_read epsilon a = packed_read_with (6 + (payload_count_at epsilon + 1)) a

-- what the reader leaves in the tables; a refused one "writes nothing"
abbrev pub read_tables_with : (Timestamp → List ℕ) → ReadAnswer → List ℕ → List ℕ
read_tables_with bytes a tables = cond (eqb a.number 0) (bytes a.stamp) tables

unfoldable pub read_tables : ReadAnswer → List ℕ → List ℕ
read_tables a tables = read_tables_with tables_bytes a tables

unfoldable pub long_read_tables : ReadAnswer → List ℕ → List ℕ
long_read_tables a tables = read_tables_with long_tables_bytes a tables

-- the number in bits 0 to 7, the frame's length in 8 to 23
unfoldable pub packed_write : WriteAnswer → ℕ
packed_write a = a.number + 256 * a.size

-- the number in bits 0 to 7, the text's length from bit 8 on
unfoldable pub packed_words : WordsAnswer → ℕ
packed_words a = a.number + 256 * a.size

-- the number in bits 0 to 7, which frame is first in 8 to 15, what decided in 16 to 23, the count's clock in 32 to 47
unfoldable pub packed_comparison : CompareAnswer → ℕ
packed_comparison a = a.number + 256 * (a.order + 256 * (a.reason + 65536 * a.clock))

-- the next due clock: bit 0 set if there is one, the clock in bits 8 to 23
abbrev pub next_bits : Option ℕ → ℕ
next_bits none = 0
next_bits (some clock) = 1 + 256 * clock

-- the number in bits 0 to 7, bit 8 set if something is next, its due clock in 16 to 31, how many are due within in 32 to 47
unfoldable pub packed_poll : PollAnswer → ℕ
packed_poll a = a.number + 256 * (next_bits a.next + 16777216 * a.within)
