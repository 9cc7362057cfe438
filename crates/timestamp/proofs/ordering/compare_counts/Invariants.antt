-- `timestamp::ordering::compare_counts` meets its contract: the loop's invariant: all the counts compare as those from place k on.
-- Assumes nothing.
use Prim.Native.Nat.{ℕ, ◌-◌, ◌≤◌}
use mathlib.Core.Path.{◌≡◌}
use Rattle.timestamp.specs.Ranks.{Reads}
use Rattle.timestamp.proofs.Ordered.{rows_from}
use Rattle.timestamp.proofs.ordering.compare_counts.Given as goal

abbrev pub invariant-loop-k : goal.invariant-loop-k
invariant-loop-k g l =
    (l.k ≤ l.most)
    × ((a b : ℕ → ℕ) → Reads l.most (goal.F-post g l.count_f) a → Reads l.most (goal.G-post g l.count_g) b → rows_from l.most a b 0 ≡ rows_from l.most a b l.k)

abbrev pub decreases-loop-k : goal.decreases-loop-k
decreases-loop-k g l = l.most - l.k
