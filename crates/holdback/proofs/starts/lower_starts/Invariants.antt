-- `holdback::starts::lower_starts` meets its contract. The invariant of the loop: the entries so far are lowered, and the others as they were. Assumes nothing.
use Rattle.std.proofs.Common.{◌≡◌, ◌-◌, ◌≤◌}
use Rattle.holdback.specs.Starts.{changed}
use Rattle.holdback.proofs.starts.lower_starts.Given as goal

abbrev pub invariant-loop-k : goal.invariant-loop-k
invariant-loop-k l = (l.starts ≡ changed (λ m. m - l.amount) 0 l.k l.initial.starts) × (l.k ≤ l.to)

abbrev pub decreases-loop-k : goal.decreases-loop-k
decreases-loop-k l = l.to - l.k
