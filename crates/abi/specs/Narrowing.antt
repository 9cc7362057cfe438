-- 02, 2.9: an engine's tables are the station's "with r modulo B in two bytes". `SameLong` (theory) says that of their numbers; here it is said of the
-- bytes that both have at the boundary to C.
use Rattle.std.specs.Prelude.{ℕ, ◌%◌, ◌<◌, ◌≡◌, List, ◌++◌, drop}
use Rattle.model.specs.Timestamp.{Timestamp}
use Rattle.model.specs.Frame.{two_bytes}
use Rattle.model.specs.Long.{long_bound, number_at}
use Rattle.abi.specs.Packing.{tables_bytes, long_tables_bytes}

-- the eight bytes of r as r modulo B in two; all else as it is, byte for byte
unfoldable pub narrowed_tables : ℕ → List ℕ → List ℕ
narrowed_tables modulus s = two_bytes (number_at 8 s 0 % modulus) ++ drop 8 s

abbrev pub NarrowedTables : Type 0
NarrowedTables =
    (modulus : ℕ) (t : Timestamp) → t.r < long_bound
    → tables_bytes (record { r = t.r % modulus; c = t.c; kn = t.kn }) ≡ narrowed_tables modulus (long_tables_bytes t)
