-- `holdback::starts::fill` meets its contract. The invariant of the loop: the places so far have the entry, and the others as they were. Assumes nothing.
use Rattle.std.proofs.Common.{◌≡◌, ◌+◌, ◌-◌, ◌≤◌}
use Rattle.holdback.specs.Starts.{filled}
use Rattle.holdback.proofs.starts.fill.Given as goal

abbrev pub invariant-loop-k : goal.invariant-loop-k
invariant-loop-k l = (l.starts ≡ filled l.start l.from l.k l.initial.starts) × ((l.from ≤ l.k) × (l.k ≤ l.from + (l.to - l.from)))

abbrev pub decreases-loop-k : goal.decreases-loop-k
decreases-loop-k l = l.to - l.k
