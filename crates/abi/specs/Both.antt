-- 02, 2.10: a setup with both pairs of limits at the boundary to C, as nine numbers: n, ε, δ, B and the own number, then ε', δ', V modulo B and the mark.
-- Assumes nothing.
use Rattle.std.specs.Prelude.{ℕ, ◌+◌, cond, List, get_or}
use Rattle.model.specs.Setup.{Setup}
use Rattle.model.specs.Frame.{payload_count_at}
use Rattle.model.specs.Codec.{ReadAnswer}
use Rattle.model.specs.Schedule.{Wider}
use Rattle.model.specs.WiderCalls.{ReadInAnswer}
use Rattle.abi.specs.Packing.{setup_by, packed_read_with, read_tables}

-- the old pair, with n and B
abbrev pub setup_in : List ℕ → Setup
setup_in numbers = setup_by (get_or numbers 0 0) (get_or numbers 1 0) (get_or numbers 2 0) (get_or numbers 3 0)

-- the own number
abbrev pub own_in : List ℕ → ℕ
own_in numbers = get_or numbers 4 0

-- what stands beside the old setup
abbrev pub wider_in : List ℕ → Wider
wider_in numbers = record { epsilon = get_or numbers 5 0; delta = get_or numbers 6 0; change = get_or numbers 7 0; marked = get_or numbers 8 0 }

-- what the reader answers but for the width
abbrev pub contents_of : ReadInAnswer → ReadAnswer
contents_of a = record { number = a.number; station = a.station; stamp = a.stamp; payload = a.payload }

-- half the width of the frame that was read
abbrev pub half_read : Setup → Wider → ReadInAnswer → ℕ
half_read s w a = cond a.wide w.epsilon s.epsilon

-- as the plain reader's, and bit 48 set where the frame has more than 2ε counts
unfoldable pub packed_read_in : Setup → Wider → ReadInAnswer → ℕ
packed_read_in s w a = packed_read_with (payload_count_at (half_read s w a) + 1) (contents_of a) + cond a.wide 281474976710656 0

-- what it leaves in the tables: the frame's counts from place 3 on, zeros behind
unfoldable pub read_tables_in : ReadInAnswer → List ℕ → List ℕ
read_tables_in a tables = read_tables (contents_of a) tables
