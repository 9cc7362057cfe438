-- `figures::totals::moved_total` meets its contract. Assumes nothing.
use Prim.Native.Nat.{ℕ, ◌+◌, ◌*◌, ◌<◌}
use mathlib.Core.List.{List}
use native.Mathlib.Omega.{arith}
use lib.ListN.{get_or}
use Rattle.model.specs.Frame.{two_at}
use Rattle.model.specs.Figures.{total_at, moved_total}
use Rattle.figures.proofs.totals.moved_total.Lts.View as view
use Rattle.figures.proofs.totals.moved_total.Goals.{After-shared_slice_known-3-1, After-shared_slice_known-4-1}
use Rattle.figures.proofs.totals.moved_total.Goals as goal

pub two_at-total-requires : goal.two_at-total-requires
two_at-total-requires c = omega (arith, c.requires.1.1)

pub overflow_add-result : goal.overflow_add-result
overflow_add-result c = omega (arith, c.requires.0, c.requires.1.1)

pub bounds-figures-at : goal.bounds-figures-at
bounds-figures-at c = omega (arith, c.requires.0, c.requires.1.1)

-- what goes is a byte, and a total two
module _ (c : After-shared_slice_known-3-1) where
  abbrev bytes : List ℕ
  bytes = c.args.figures.now

  abbrev column : ℕ
  column = c.args.column

  goes : get_or bytes (c.args.at + column) 0 < 256
  goes = omega (arith, c.shared_slice_known-3-1.given (c.args.at + column))

  total : c.two_at-total.result < 65536
  unfolding two_at
  total =
      omega (
        arith,
        c.two_at-total.ensures,
        c.shared_slice_known-3-1.given (1 + 2 * column),
        c.shared_slice_known-3-1.given (1 + 2 * column + 1),
      )

pub overflow_cast-result : goal.overflow_cast-result
overflow_cast-result c = omega (arith, goes (goal.at.overflow_cast-result c).After-shared_slice_known-3-1)

pub overflow_sub-result : goal.overflow_sub-result
overflow_sub-result c = omega (arith, goes (goal.at.overflow_sub-result c).After-shared_slice_known-3-1)

pub overflow_add-result-2 : goal.overflow_add-result-2
overflow_add-result-2 c = omega (arith, goes (goal.at.overflow_add-result-2 c).After-shared_slice_known-3-1, total (goal.at.overflow_add-result-2 c).After-shared_slice_known-3-1)

pub bounds-row-column : goal.bounds-row-column
bounds-row-column c = omega (arith, c.requires.1.0, c.requires.1.1)

-- and so is what comes
comes : (c : After-shared_slice_known-4-1) → get_or c.args.row.now (column (view.up-After-shared_slice_known-3-1 _ _ _ c.before.before)) 0 < 256
comes c = omega (arith, c.shared_slice_known-4-1.given (column (view.up-After-shared_slice_known-3-1 _ _ _ c.before.before)))

pub overflow_cast-result-2 : goal.overflow_cast-result-2
overflow_cast-result-2 c = omega (arith, comes (goal.at.overflow_cast-result-2 c).After-shared_slice_known-4-1)

pub overflow_add-result-3 : goal.overflow_add-result-3
overflow_add-result-3 c = omega (arith, goes (goal.at.overflow_add-result-3 c).After-shared_slice_known-3-1, total (goal.at.overflow_add-result-3 c).After-shared_slice_known-3-1, comes (goal.at.overflow_add-result-3 c).After-shared_slice_known-4-1)

pub returns : goal.returns
unfolding total_at moved_total
returns c = (rw (← c.two_at-total.ensures), omega arith)
