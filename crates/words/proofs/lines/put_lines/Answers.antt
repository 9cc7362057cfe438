-- `words::lines::put_lines` meets its contract. The invariant of its loop: the lines of the entries before `position` are written, and the walk goes on at the others. Assumes nothing.
use Prim.Native.Nat.{ℕ, ◌-◌, ◌≤◌, ◌<◌}
use mathlib.Core.Path.{◌≡◌}
use mathlib.Core.List.{List}
use native.Mathlib.Omega.{arith}
use lib.ListN.{length, take, drop}
use Rattle.setup.specs.Views.{setup_of}
use Rattle.batch.specs.Walk.{count_of, entry_at, next_at}
use Rattle.batch.specs.declared.EntrySpan.{EntrySpan}
use Rattle.batch.proofs.Walk.{batch-count, step-ordered, step-within, step-next, step-entry}
use Rattle.words.proofs.Writing.{lining-start, lining-line, lining-given, lining-room, lining-turn, lining-end}
use Rattle.words.proofs.lines.put_lines.Goals.{After-walk_entry-span, In-loop-position}
use Rattle.words.proofs.lines.put_lines.Goals as goal

pub loop-position-init : goal.loop-position-init
loop-position-init c = lining-start (setup_of c.args.setup) c.args.batch.now c.args.verdicts.now c.args.text.now c.requires

-- there is one more entry, and fewer than 256 in all
more : (c : In-loop-position) → c.loop-position.position < count_of c.args.batch.now
more c = omega (arith, c.count_of-count.ensures)

few : (c : In-loop-position) → count_of c.args.batch.now ≤ 255
unfolding count_of
few c = omega (arith, c.shared_slice_known-1.given 0)

-- the step is of the entry at the loop's position, and ends where the next one stands
module _ (c : After-walk_entry-span) where
  abbrev batch : List ℕ
  batch = c.args.batch.now

  abbrev place : ℕ
  place = c.loop-position.at

  abbrev step : EntrySpan
  step = c.walk_entry-span.result

  ordered : step.start ≤ step.end
  ordered = step-ordered batch place step c.walk_entry-span.ensures

  within : step.end ≤ length batch
  within = step-within batch place step c.walk_entry-span.ensures

  next : step.end ≡ next_at batch place
  next = step-next batch place step c.walk_entry-span.ensures

  entry : take (step.end - step.start) (drop step.start batch) ≡ entry_at batch place
  entry = step-entry batch place step c.walk_entry-span.ensures

pub slice_bounds-entry-count : goal.slice_bounds-entry-count
slice_bounds-entry-count c = omega (arith, ordered (goal.at.slice_bounds-entry-count c).After-walk_entry-span)

pub slice_bounds-entry-start : goal.slice_bounds-entry-start
slice_bounds-entry-start c = omega (arith, ordered (goal.at.slice_bounds-entry-start c).After-walk_entry-span, within (goal.at.slice_bounds-entry-start c).After-walk_entry-span)

pub slice_bounds-entry-end : goal.slice_bounds-entry-end
slice_bounds-entry-end c = omega (arith, ordered (goal.at.slice_bounds-entry-end c).After-walk_entry-span, within (goal.at.slice_bounds-entry-end c).After-walk_entry-span)

pub bounds-verdicts-position : goal.bounds-verdicts-position
bounds-verdicts-position c = omega (arith, more (goal.at.bounds-verdicts-position c).In-loop-position, c.requires.fit.enough, batch-count c.args.batch.now c.requires.fit.exact)

pub put_line-end-requires : goal.put_line-end-requires
put_line-end-requires c = record { setup_value = (c.requires.limits, lining-given (setup_of c.args.setup) c.args.batch.now c.args.verdicts.now c.args.text.now c.requires c.loop-position.invariant (more (goal.at.put_line-end-requires c).In-loop-position)); position_bound = (omega (arith, more (goal.at.put_line-end-requires c).In-loop-position, few (goal.at.put_line-end-requires c).In-loop-position), lining-room (setup_of c.args.setup) c.args.batch.now c.args.verdicts.now c.args.text.now c.requires c.loop-position.invariant (more (goal.at.put_line-end-requires c).In-loop-position)) }

pub overflow_add-position : goal.overflow_add-position
overflow_add-position c = omega (arith, more (goal.at.overflow_add-position c).In-loop-position, few (goal.at.overflow_add-position c).In-loop-position)

pub loop-position-smaller : goal.loop-position-smaller
loop-position-smaller c = omega arith

pub loop-position-preserved : goal.loop-position-preserved
loop-position-preserved c = lining-turn (setup_of c.args.setup) c.args.batch.now c.args.verdicts.now c.args.text.now c.requires c.loop-position.invariant (more (goal.at.loop-position-preserved c).In-loop-position) _ (lining-line (setup_of c.args.setup) c.args.batch.now c.args.verdicts.now c.args.text.now c.requires c.loop-position.invariant (more (goal.at.loop-position-preserved c).In-loop-position) _ (entry (goal.at.loop-position-preserved c).After-walk_entry-span)) (next (goal.at.loop-position-preserved c).After-walk_entry-span) c.put_line-end.ensures.put c.put_line-end.ensures.upper_bound

pub returns : goal.returns
unfolding count_of
returns c = record { put = lining-end (setup_of c.args.setup) c.args.batch.now c.args.verdicts.now c.args.text.now c.requires c.loop-position.invariant (omega (arith, c.count_of-count.ensures)); upper_bound = omega (arith, c.loop-position.invariant.near, c.loop-position.invariant.walk.counted, c.shared_slice_known-1.given 0) }
