-- `figures::totals::count_afresh` meets its contract. The invariant of its loop: the totals of the columns before `column` are counted. Assumes nothing.
use Prim.Native.Nat.{◌-◌}
use lib.ListN.{drop}
use Rattle.model.specs.Figures.{last_ticks, rows_at, rows_in, fresh_total}
use Rattle.figures.proofs.Renewing.{Renewing}
use Rattle.figures.proofs.totals.count_afresh.Given as goal

abbrev pub invariant-loop-column : goal.invariant-loop-column
invariant-loop-column l = Renewing (fresh_total (rows_in last_ticks (drop rows_at l.initial.figures))) l.initial.figures l.column l.figures

abbrev pub decreases-loop-column : goal.decreases-loop-column
decreases-loop-column l = 113 - l.column
