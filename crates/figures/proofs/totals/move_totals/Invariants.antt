-- `figures::totals::move_totals` meets its contract. The invariant of its loop: the totals of the columns before `column` are moved. Assumes nothing.
use Prim.Native.Nat.{ℕ, ◌+◌, ◌-◌}
use mathlib.Core.List.{List}
use lib.ListN.{get_or}
use Rattle.model.specs.Figures.{moved_total, total_at}
use Rattle.figures.proofs.Renewing.{Renewing}
use Rattle.figures.proofs.totals.move_totals.Given as goal

-- the total of a column after it
abbrev pub new : List ℕ → ℕ → List ℕ → ℕ → ℕ
new figures at row column = moved_total (total_at figures column) (get_or figures (at + column) 0) (get_or row column 0)

abbrev pub invariant-loop-column : goal.invariant-loop-column
invariant-loop-column l = Renewing (new l.initial.figures l.at l.row) l.initial.figures l.column l.figures

abbrev pub decreases-loop-column : goal.decreases-loop-column
decreases-loop-column l = 113 - l.column
