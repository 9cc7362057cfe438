-- The key of a frame by a number of counts and a half width.
-- Assumes nothing.
use Rattle.std.specs.Prelude.{ℕ, ◌≤◌, ◌^◌, List, [], ◌∷◌, ◌++◌}
use Rattle.model.specs.Timestamp.{sum}
use Rattle.model.specs.Frame.{Frame}
use Rattle.model.specs.Wider.{counts_down_by}
use Rattle.timestamp.specs.declared.ordering.Rank.{Rank}

-- 01: "sum; count at offset c; … ; station number; r", with so many counts of a stamp of a half width. Model's wider_key has the number of counts of
-- the sum and the frame's half width
abbrev pub key_with : ℕ → ℕ → ℕ → Frame → List ℕ
key_with most half reading f = sum reading f.stamp.c ∷ (counts_down_by most half f.stamp ++ (f.station ∷ reading ∷ []))

-- what a comparison asks of a frame's numbers
pub record Small (half : ℕ) (f : Rank) : Type 0 where
  pub narrow : half ≤ 16
  pub reading : f.reading ≤ 2 ^ 62
  pub lead : f.c ≤ 2 ^ 16
