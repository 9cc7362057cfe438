-- `figures::totals::fresh_total` meets its contract. The invariant of its loop: the first k rows are counted. Assumes nothing.
use Prim.Native.Nat.{◌-◌}
use Rattle.figures.proofs.Renewing.{Summing}
use Rattle.figures.proofs.totals.fresh_total.Given as goal

abbrev pub invariant-loop-k : goal.invariant-loop-k
invariant-loop-k l = Summing l.figures l.column l.k l.total

abbrev pub decreases-loop-k : goal.decreases-loop-k
decreases-loop-k l = 256 - l.k
