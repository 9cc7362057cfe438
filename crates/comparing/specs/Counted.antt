-- What naming a count by its clock asks. Assumes nothing.
use Rattle.std.specs.Prelude.{ℕ, ◌≤◌}
use Rattle.model.specs.Comparison.{Reason, by_sum, by_count, by_station, by_r, by_nothing}

-- a count is not further back than clock 0
abbrev pub Counted : ℕ → Reason → Type 0
Counted total by_sum = Unit {0}
Counted total (by_count k) = k ≤ total
Counted total by_station = Unit {0}
Counted total by_r = Unit {0}
Counted total by_nothing = Unit {0}
