-- `holdback::starts::spread` meets its contract. The invariant of the loop: the places so far have the largest entry up to them, the others are as they were, and `end` is the largest so far. Assumes nothing.
use Rattle.std.proofs.Common.{◌≡◌, ◌-◌, ◌≤◌}
use Rattle.holdback.specs.Starts.{highest, spread_starts}
use Rattle.holdback.proofs.starts.spread.Given as goal

abbrev pub invariant-loop-k : goal.invariant-loop-k
invariant-loop-k l = (l.starts ≡ spread_starts l.k l.initial.starts) × ((l.end ≡ highest l.initial.starts l.k) × (l.k ≤ l.to))

abbrev pub decreases-loop-k : goal.decreases-loop-k
decreases-loop-k l = l.to - l.k
