-- `figures::totals::fresh_total` meets its contract. The invariant of its loop: the first k rows are counted. Assumes nothing.
use Prim.Native.Nat.{◌+◌, ◌*◌, ◌<◌}
use mathlib.Core.Path.{refl}
use native.Mathlib.Omega.{arith}
use lib.ListN.{get_or}
use Rattle.model.specs.Figures.{figure_columns, rows_at}
use Rattle.figures.proofs.Renewing.{summing_start, summing-turn, summing-end}
use Rattle.figures.proofs.totals.fresh_total.Goals.{After-shared_slice_known-1}
use Rattle.figures.proofs.totals.fresh_total.Goals as goal

pub loop-k-init : goal.loop-k-init
loop-k-init c = summing_start c.args.figures.now c.args.column

pub overflow_add-total-in-loop-k : goal.overflow_add-total-in-loop-k
overflow_add-total-in-loop-k c = omega (arith, c.requires.1)

pub bounds-figures-k : goal.bounds-figures-k
bounds-figures-k c = omega (arith, c.requires.0, c.requires.1, c.loop-k-test.true)

-- a row has bytes
byte : (c : After-shared_slice_known-1) → get_or c.args.figures.now (rows_at + figure_columns * c.loop-k.k + c.args.column) 0 < 256
byte c = omega (arith, c.shared_slice_known-1.given (rows_at + figure_columns * c.loop-k.k + c.args.column))

pub overflow_cast-total : goal.overflow_cast-total
overflow_cast-total c = omega (arith, byte (goal.at.overflow_cast-total c).After-shared_slice_known-1)

pub overflow_add-total-in-loop-k-2 : goal.overflow_add-total-in-loop-k-2
overflow_add-total-in-loop-k-2 c = omega (arith, c.loop-k.invariant.most, c.loop-k-test.true, byte (goal.at.overflow_add-total-in-loop-k-2 c).After-shared_slice_known-1)

pub loop-k-preserved : goal.loop-k-preserved
loop-k-preserved c = summing-turn c.loop-k.invariant c.requires.1 c.loop-k-test.true refl (byte (goal.at.loop-k-preserved c).After-shared_slice_known-1)

pub returns : goal.returns
returns c = summing-end c.loop-k.invariant c.loop-k-test.false
