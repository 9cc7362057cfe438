-- What the code's values say in the model's terms.
-- Assumes nothing.
use Rattle.std.specs.Prelude.{ℕ, ◌+◌, max, Bool, ◌&&◌, List, drop, get_or}
use Rattle.laws.specs.Lists.{placed_at}
use Rattle.model.specs.Timestamp.{at_most}
use Rattle.model.specs.Timestamp as stamps
use Rattle.timestamp.specs.declared.stamp.Timestamp.{Timestamp}

-- 01: the stamp, with all its places
abbrev pub stamp_of : Timestamp → stamps.Timestamp
stamp_of t = record { r = t.r; c = t.c; kn = t.kn }

-- a timestamp of these parts
abbrev pub stamp_by : ℕ → ℕ → List ℕ → stamps.Timestamp
stamp_by r c kn = record { r = r; c = c; kn = kn }

-- a timestamp with that c and those counts, where r is not looked at
abbrev pub of_counts : ℕ → List ℕ → stamps.Timestamp
of_counts c kn = stamp_by 0 c kn

-- 01: "each count ≤ n" and "all counts above" the place `top` "are 0"
abbrev pub within_ceilings : ℕ → ℕ → List ℕ → Bool
within_ceilings n top kn = at_most n kn && at_most 0 (drop (top + 1) kn)

-- 01, tick 3: "each count" becomes "the larger of own and frame's, both placed relative to v": the count at a place
abbrev pub larger_at : ℕ → ℕ → List ℕ → List ℕ → ℕ → ℕ
larger_at modulus reading own other i = max (get_or own i 0) (placed_at reading other (modulus + i))

-- the count at a place, the larger of own and other's, where the first of `other` stands at the place `to`
abbrev pub raised_at : ℕ → List ℕ → List ℕ → ℕ → ℕ
raised_at to own other i = max (get_or own i 0) (placed_at to other i)
