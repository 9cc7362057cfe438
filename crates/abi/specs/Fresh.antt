-- With what a station, an observer and an engine start, each made by a call of its own. Assumes nothing.
use Rattle.std.specs.Prelude.{ℕ, cond, List, [], ◌∷◌, ltb, eqb}
use Rattle.model.specs.Setup.{Setup, in_limits}
use Rattle.model.specs.Timestamp.{fresh, widened}
use Rattle.model.specs.Frame.{two_bytes}
use Rattle.model.specs.Question.{Question, ask, first_no, ask_setup}
use Rattle.model.specs.Long.{long_bound, ask_long_setup}
use Rattle.model.specs.Schedule.{Wider}
use Rattle.model.specs.WiderCalls.{fresh_in_questions, fresh_in}
use Rattle.abi.specs.Packing.{tables_bytes, long_tables_bytes}

-- 01: 1 and 2, "in order; a no ends it"; `bound` is what the clock must be below
abbrev pub start_number : Question → ℕ → ℕ → ℕ
start_number setup bound clock = first_no (setup ∷ ask (ltb clock bound) 2 ∷ [])

-- what a start leaves; a refused one changes nothing
abbrev pub start_bytes : ℕ → List ℕ → List ℕ → List ℕ
start_bytes number made kept = cond (eqb number 0) made kept

-- 01: 1 and 2, as of a tick for that clock
unfoldable pub fresh_number : Setup → ℕ → ℕ → ℕ
fresh_number s own clock = start_number (ask_setup s own) s.modulus clock

-- 01: "Fresh tables at a clock have that r, c 0, count 1 at offset 0, otherwise 0"
unfoldable pub fresh_bytes : Setup → ℕ → ℕ → List ℕ → List ℕ
fresh_bytes s own clock tables = start_bytes (fresh_number s own clock) (tables_bytes (widened (fresh s.epsilon clock))) tables

-- 02, 2.6: an observer "asks 1 without the own number, 2"
unfoldable pub fresh_last_number : Setup → ℕ → ℕ
fresh_last_number s clock = start_number (ask (in_limits s) 1) s.modulus clock

-- 02, 2.6: it "keeps its last clock … but no counts": that clock in two bytes, low first
unfoldable pub fresh_last_bytes : Setup → ℕ → List ℕ → List ℕ
fresh_last_bytes s clock last = start_bytes (fresh_last_number s clock) (two_bytes clock) last

-- 02, 2.9: an engine asks 1 without B, and "A clock from 2^63 up gets 2"
unfoldable pub long_fresh_number : Setup → ℕ → ℕ → ℕ
long_fresh_number s own clock = start_number (ask_long_setup s own) long_bound clock

-- 02, 2.9: its fresh tables are as a station's, with r in eight bytes
unfoldable pub long_fresh_bytes : Setup → ℕ → ℕ → List ℕ → List ℕ
long_fresh_bytes s own clock tables =
    start_bytes (long_fresh_number s own clock) (long_tables_bytes (widened (fresh s.epsilon clock))) tables

-- 02, 2.10: with both pairs of limits 1, 19 and 2
unfoldable pub fresh_in_number : Setup → Wider → ℕ → ℕ → ℕ
fresh_in_number s w own clock = first_no (fresh_in_questions s w own clock)

-- fresh tables, "of the width of that clock"
unfoldable pub fresh_in_bytes : Setup → Wider → ℕ → ℕ → List ℕ → List ℕ
fresh_in_bytes s w own clock tables = start_bytes (fresh_in_number s w own clock) (tables_bytes (widened (fresh_in s w clock))) tables

-- the version 2.13.1: major, minor and patch in a byte each, the patch lowest
abbrev pub version : ℕ
version = 134401
