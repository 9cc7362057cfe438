-- 02, 2.7: "no tick, sound or just mended, ever meets a shelf that is full when a frame has passed 10 to 16".
use Rattle.std.specs.Prelude.{ℕ, ◌+◌, ◌-◌, ◌*◌, ◌≤◌, ◌<◌, length}
use Rattle.model.specs.Setup.{Setup, depth_of}
use Rattle.model.specs.Judge.{Heard}

-- Of what a call has heard before its entry k, and after its last one, where k is their number or more. Whether the entry passes is not asked
pub record NeverFull (s : Setup) (before : ℕ → Heard) : Type 0 where
  -- 01: "fewer than n(δ + 3ε) frames shelved"
  pub spare : (k : ℕ) → length (before k).queue < depth_of s
  -- n(δ + 3ε − 1) at most: no due clock lies before v, no sum more than ε − 1 past it, and no c is above ε − 1, so that r is one of
  -- δ + 3ε − 1 clocks, and no station has a frame twice with the same
  pub most : (k : ℕ) → length (before k).queue ≤ s.n * (s.delta + 3 * s.epsilon - 1)
