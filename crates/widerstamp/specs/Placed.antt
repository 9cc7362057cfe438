-- Counts of one half width among those of another.
-- Assumes nothing.
use Rattle.std.specs.Prelude.{ℕ, ◌+◌, max, List, get_or}
use Rattle.model.specs.Timestamp.{count_at}

-- the count at a place of 2ε, the larger of own and other's, where v stands at `modulus` and the others' r at a reading; all clocks are taken ε further
abbrev pub larger_beside : ℕ → ℕ → List ℕ → ℕ → ℕ → List ℕ → ℕ → ℕ
larger_beside epsilon modulus own half reading other i = max (get_or own i 0) (count_at half (reading + epsilon) other (modulus + i))
