-- 02, 2.9: the bytes of an engine's tables, with r modulo B in two. Assumes nothing.
use Prim.Native.Nat.{ℕ, ◌%◌}
use mathlib.Core.Path.{sym, ap}
use mathlib.Core.List.{[], ◌∷◌, ◌++◌}
use Rattle.model.specs.Frame.{two_bytes}
use Rattle.model.specs.Long.{low_first}
use Rattle.lemmas.proofs.LongFrames.{number-low, clock-fits}
use Rattle.abi.specs.Packing.{tables_bytes, long_tables_bytes}
use Rattle.abi.specs.Narrowing.{narrowed_tables, NarrowedTables}

pub narrowed-tables : NarrowedTables
unfolding tables_bytes long_tables_bytes narrowed_tables low_first
narrowed-tables modulus t below =
    ap (λ (r : ℕ). two_bytes (r % modulus) ++ (t.c ∷ t.kn)) (sym (number-low 8 t.r [] (t.c ∷ t.kn) (clock-fits t.r below)))
