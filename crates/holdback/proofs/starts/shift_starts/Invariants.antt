-- `holdback::starts::shift_starts` meets its contract. The invariant of the loop: the entries so far are moved, and the others as they were. Assumes nothing.
use Rattle.std.proofs.Common.{◌≡◌, ◌+◌, ◌-◌, ◌≤◌}
use Rattle.holdback.specs.Starts.{changed}
use Rattle.holdback.proofs.starts.shift_starts.Given as goal

abbrev pub invariant-loop-k : goal.invariant-loop-k
invariant-loop-k l = (l.starts ≡ changed (λ m. m + l.amount) l.from l.k l.initial.starts) × ((l.from ≤ l.k) × (l.k ≤ l.from + (l.to - l.from)))

abbrev pub decreases-loop-k : goal.decreases-loop-k
decreases-loop-k l = l.to - l.k
