-- `figures::row::count_row` meets its contract. The invariant of its loop: the entries before `position` are counted, and the walk goes on at the
-- others. Assumes nothing.
use Prim.Native.Nat.{ℕ, ◌-◌, ◌≤◌, ◌<◌}
use mathlib.Core.Path.{◌≡◌}
use mathlib.Core.List.{List}
use native.Mathlib.Omega.{arith}
use lib.ListN.{length, take, drop}
use Rattle.batch.specs.Walk.{count_of, entry_at, next_at}
use Rattle.batch.specs.declared.EntrySpan.{EntrySpan}
use Rattle.batch.proofs.Walk.{batch-count, step-ordered, step-within, step-next, step-entry}
use Rattle.verdicts.proofs.Walking.{verdict-given}
use Rattle.figures.proofs.Columns.{rowing_start, rowing-few, rowing-turn, rowing-end}
use Rattle.figures.proofs.row.count_row.Goals.{After-walk_entry-span, In-loop-position}
use Rattle.figures.proofs.row.count_row.Goals as goal

pub loop-position-init : goal.loop-position-init
loop-position-init c = rowing_start c.args.n c.args.batch.now c.args.verdicts.now c.requires.1.exact

-- there is one more entry, and fewer than 256 in all
more : (c : In-loop-position) → c.loop-position.position < count_of c.args.batch.now
more c = omega (arith, c.count_of-count.ensures)

few : (c : In-loop-position) → count_of c.args.batch.now ≤ 255
unfolding count_of
few c = omega (arith, c.shared_slice_known-1.given 0)

-- the step is of the entry at the loop's position, and ends where the next one stands
module _ (c : After-walk_entry-span) where
  abbrev batch : List ℕ
  batch = c.args.batch.now

  abbrev here : ℕ
  here = c.loop-position.at

  abbrev step : EntrySpan
  step = c.walk_entry-span.result

  ordered : step.start ≤ step.end
  ordered = step-ordered batch here step c.walk_entry-span.ensures

  within : step.end ≤ length batch
  within = step-within batch here step c.walk_entry-span.ensures

  next : step.end ≡ next_at batch here
  next = step-next batch here step c.walk_entry-span.ensures

  entry : take (step.end - step.start) (drop step.start batch) ≡ entry_at batch here
  entry = step-entry batch here step c.walk_entry-span.ensures

pub bounds-verdicts-position : goal.bounds-verdicts-position
bounds-verdicts-position c = omega (arith, more (goal.at.bounds-verdicts-position c).In-loop-position, c.requires.1.enough, batch-count c.args.batch.now c.requires.1.exact)

pub slice_bounds-column_of-count : goal.slice_bounds-column_of-count
slice_bounds-column_of-count c = omega (arith, ordered (goal.at.slice_bounds-column_of-count c).After-walk_entry-span)

pub slice_bounds-column_of-start : goal.slice_bounds-column_of-start
slice_bounds-column_of-start c = omega (arith, ordered (goal.at.slice_bounds-column_of-start c).After-walk_entry-span, within (goal.at.slice_bounds-column_of-start c).After-walk_entry-span)

pub slice_bounds-column_of-end : goal.slice_bounds-column_of-end
slice_bounds-column_of-end c = omega (arith, ordered (goal.at.slice_bounds-column_of-end c).After-walk_entry-span, within (goal.at.slice_bounds-column_of-end c).After-walk_entry-span)

pub column_of-column-requires : goal.column_of-column-requires
column_of-column-requires c = (c.requires.0, verdict-given c.requires.1 c.loop-position.position (more (goal.at.column_of-column-requires c).In-loop-position))

pub bounds-row-column : goal.bounds-row-column
bounds-row-column c = omega (arith, c.column_of-column.ensures.1)

pub overflow_add-row : goal.overflow_add-row
overflow_add-row c =
    omega (
      arith,
      rowing-few c.args.n c.args.batch.now c.args.verdicts.now c.loop-position.invariant c.column_of-column.result c.column_of-column.ensures.1,
      more (goal.at.overflow_add-row c).In-loop-position,
      few (goal.at.overflow_add-row c).In-loop-position,
    )

pub bounds-row-column-in-loop-position : goal.bounds-row-column-in-loop-position
bounds-row-column-in-loop-position c = omega (arith, c.column_of-column.ensures.1)

pub overflow_add-position : goal.overflow_add-position
overflow_add-position c = omega (arith, more (goal.at.overflow_add-position c).In-loop-position, few (goal.at.overflow_add-position c).In-loop-position)

pub loop-position-smaller : goal.loop-position-smaller
loop-position-smaller c = omega arith

pub loop-position-preserved : goal.loop-position-preserved
loop-position-preserved c =
    rowing-turn c.args.n c.args.batch.now c.args.verdicts.now c.loop-position.invariant (more (goal.at.loop-position-preserved c).In-loop-position) _ (entry (goal.at.loop-position-preserved c).After-walk_entry-span) c.column_of-column.ensures.0
    c.column_of-column.ensures.1 (next (goal.at.loop-position-preserved c).After-walk_entry-span)

pub returns : goal.returns
returns c = rowing-end c.args.n c.args.batch.now c.args.verdicts.now c.loop-position.invariant c.requires.1 (omega (arith, c.count_of-count.ensures))
