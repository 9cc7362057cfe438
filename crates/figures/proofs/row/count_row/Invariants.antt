-- `figures::row::count_row` meets its contract. The invariant of its loop: the entries before `position` are counted, and the walk goes on at the
-- others. Assumes nothing.
use Prim.Native.Nat.{◌-◌}
use Rattle.figures.proofs.Columns.{Rowing}
use Rattle.figures.proofs.row.count_row.Given as goal

abbrev pub invariant-loop-position : goal.invariant-loop-position
invariant-loop-position l = Rowing l.n l.batch l.verdicts l.position l.at l.row

abbrev pub decreases-loop-position : goal.decreases-loop-position
decreases-loop-position l = l.count - l.position
