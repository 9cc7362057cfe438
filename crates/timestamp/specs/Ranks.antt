-- The order of two timestamps in the code's terms.
-- Assumes nothing.
use Prim.Native.Nat.{ℕ, suc, ◌+◌, ◌*◌, ◌≤◌, ◌<◌, ◌^◌, compare, Ordering}
use Rattle.std.specs.Prelude.{◌≡◌, List, [], ◌∷◌, length}
use Rattle.model.specs.Timestamp.{Timestamp}
use Rattle.model.specs.Frame.{Frame}
use Rattle.model.specs.Comparison as model
use Rattle.timestamp.specs.declared.ordering.Reason.{Reason}
use Rattle.timestamp.specs.declared.ordering.Reason.TheVariants.{Sum, Count, Station, R}
use Rattle.timestamp.specs.declared.ordering.Comparison.{Comparison}
use Rattle.timestamp.specs.declared.ordering.Comparison.TheVariants.{First, Second, Alike}
use Rattle.timestamp.specs.declared.ordering.Rank.{Rank}
use Rattle.timestamp.specs.Views.{of_counts}

-- 02, 2.4: what decided, in the model's terms
abbrev pub reason_of : Reason → model.Reason
reason_of Sum = model.by_sum
reason_of (Count k) = model.by_count k
reason_of Station = model.by_station
reason_of R = model.by_r

-- which is first, and what decided
abbrev pub comparison_of : Comparison → model.Comparison
comparison_of (First reason) = record { order = Ordering.lt; reason = reason_of reason }
comparison_of (Second reason) = record { order = Ordering.gt; reason = reason_of reason }
comparison_of Alike = record { order = Ordering.eq; reason = model.by_nothing }

-- what two numbers decide, for that reason: nothing where they are the same
abbrev pub decide_by : model.Reason → Ordering → model.Comparison
decide_by reason Ordering.lt = record { order = Ordering.lt; reason = reason }
decide_by reason Ordering.eq = record { order = Ordering.eq; reason = model.by_nothing }
decide_by reason Ordering.gt = record { order = Ordering.gt; reason = reason }

-- the first answer unless it says alike
abbrev pub unless_alike : Ordering → model.Comparison → model.Comparison → model.Comparison
unless_alike Ordering.lt c d = c
unless_alike Ordering.eq c d = d
unless_alike Ordering.gt c d = c

abbrev pub or_decide : model.Comparison → model.Comparison → model.Comparison
or_decide c d = unless_alike c.order c d

-- the counts of two, the first of which lies k clocks before the sum: the first difference decides
unfoldable pub compare_counts : ℕ → List ℕ → List ℕ → model.Comparison
compare_counts k (x ∷ xs) (y ∷ ys) = or_decide (decide_by (model.by_count k) (compare x y)) (compare_counts (suc k) xs ys)
compare_counts k [] ys = record { order = Ordering.eq; reason = model.by_nothing }
compare_counts k (x ∷ xs) [] = record { order = Ordering.eq; reason = model.by_nothing }

-- a frame with that station and timestamp. The order does not look at the payload
abbrev pub stamped_frame : ℕ → Timestamp → Frame
stamped_frame station t = record { station = station; stamp = t; payload = [] }

-- a frame with that rank and those counts. The order looks at the reading in the place of r
abbrev pub ranked_frame : Rank → List ℕ → Frame
ranked_frame f kn = stamped_frame f.station (of_counts f.c kn)

-- what is given for each of so many numbers of clocks is the count of a row there
abbrev pub Reads : ℕ → (ℕ → ℕ → Type 0) → (ℕ → ℕ) → Type 0
Reads most gives row = (k n : ℕ) → k < most → gives k n → n ≡ row k

-- "First difference decides": the sum, what the counts decide, the station number and r, in turn
abbrev pub in_turn : Rank → Rank → model.Comparison → model.Comparison
in_turn f g counts =
    or_decide (decide_by model.by_sum (compare (f.reading + f.c) (g.reading + g.c)))
    (or_decide counts (or_decide (decide_by model.by_station (compare f.station g.station)) (decide_by model.by_r (compare f.reading g.reading))))

-- what a comparison asks of a frame: its lead is sound, its reading small, and 2ε counts are there
pub record Ranked (epsilon : ℕ) (f : Rank) (kn : List ℕ) : Type 0 where
  pub lead : f.c < epsilon
  pub small : f.reading ≤ 2 ^ 63
  pub long : 2 * epsilon ≤ length kn
