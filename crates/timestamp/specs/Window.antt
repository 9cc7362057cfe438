-- What the counts in a window are held to.
-- Assumes nothing.
use Rattle.std.specs.Prelude.{ℕ, ◌+◌, ◌*◌, cond, List, ltb}
use Rattle.laws.specs.Lists.{tab}

-- the limit at a place: n in the first 32; 0 in the next 32, and in as many more as there are counts; then 255, the most that a byte can be
abbrev pub ceiling_at : ℕ → ℕ → ℕ → ℕ
ceiling_at n epsilon i = cond (ltb i 32) n (cond (ltb i (64 + 2 * epsilon)) 0 255)

-- three parts of 32. From the place 31 − top on the first two are the limits of counts of which those above the place `top` are 0; the third
-- has 0 at the place of a count, and 255 past the 2ε counts
unfoldable pub ceilings_of : ℕ → ℕ → List ℕ
ceilings_of n epsilon = tab 96 (ceiling_at n epsilon)
