-- `long::hearing::hear` meets its contract. Assumes nothing.
use Prim.Native.Nat.{ℕ, ◌+◌, ◌-◌, ◌≤◌, ◌<◌}
use native.Mathlib.Omega.{arith}
use mathlib.Core.Path.{◌≡◌, sym, ◌∙◌, ap}
use mathlib.Core.List.{List, ◌∷◌}
use lib.ListN.{length, take, drop}
use Rattle.model.specs.Setup.{verdict_length}
use Rattle.model.specs.Question.{first_no}
use Rattle.model.specs.Long.{long_held, long_questions}
use Rattle.lemmas.proofs.Bounds.{LongLimits}
use Rattle.lemmas.proofs.Questions.{long-limits-from}
use Rattle.lemmas.proofs.LongFrames.{long-passes-formed}
use Rattle.lemmas.proofs.FrameWalk.{stand-weaker}
use Rattle.longqueue.proofs.Extents.{extent-stands}
use Rattle.batch.specs.Walk.{count_of, entry_at, next_at}
use Rattle.batch.specs.declared.EntrySpan.{EntrySpan}
use Rattle.batch.proofs.Walk.{step-ordered, step-within, step-next, step-entry}
use Rattle.setup.specs.Views.{setup_of}
use Rattle.node.proofs.StampTurns.{stamp-start, stamp-refused, stamp-taken}
use Rattle.long.specs.States.{Readable, heard_with}
use Rattle.long.proofs.Judging.{taken-readable, taken-passes, taken-few, stop-small}
use Rattle.long.proofs.Turns.{queue-start, queue-refused, queue-taken, queue-written, queue-end, share-refused, share-wide, share-end}
use Rattle.long.proofs.hearing.hear.Lts.View as view
use Rattle.long.proofs.hearing.hear.Goals.{After-count_of-entries, After-judge-number, After-walk_entry-span, Else-number-ne0, In-loop-i, Start}
use Rattle.long.proofs.hearing.hear.Goals as goal

-- the verdicts of all entries
abbrev numbers : Start → List ℕ
numbers c = (heard_with (setup_of c.args.setup) c.args.clock (long_held c.args.setup.epsilon c.args.holdback.now) c.args.batch.now).verdicts

limits : (c : Start) → LongLimits (setup_of c.args.setup)
limits c = long-limits-from (setup_of c.args.setup) c.requires.timed.limits

pub loop-i-init : goal.loop-i-init
loop-i-init c = (queue-start c.requires.hearing.exact c.requires.holding, stamp-start c.requires.hearing.narrow c.requires.hearing.exact)

-- so many entries have a place for their verdict
few : (c : After-count_of-entries) → (count_of c.args.batch.now ≤ verdict_length) × (count_of c.args.batch.now ≤ length c.args.verdicts.now)
unfolding count_of
few c = omega (arith, c.shared_slice_known-1.given 0, c.requires.hearing.room)

more : (c : In-loop-i) → c.loop-i.i < count_of c.args.batch.now
more c = omega (arith, c.count_of-entries.ensures)

inside : (c : In-loop-i) → c.loop-i.i < length c.loop-i.verdicts
inside c = omega (arith, few (view.up-After-count_of-entries _ _ _ _ _ _ c.before.before.before), more c, c.loop-i.invariant.0.turn.heard.long)

-- the step is of the entry at the loop's position, and ends where the next one stands
module _ (c : After-walk_entry-span) where
  abbrev batch : List ℕ
  batch = c.args.batch.now

  abbrev place : ℕ
  place = c.loop-i.at

  abbrev step : EntrySpan
  step = c.walk_entry-span.result

  ordered : step.start ≤ step.end
  ordered = step-ordered batch place step c.walk_entry-span.ensures

  within : step.end ≤ length batch
  within = step-within batch place step c.walk_entry-span.ensures

  next : step.end ≡ next_at batch place
  next = step-next batch place step c.walk_entry-span.ensures

  abbrev bytes : List ℕ
  bytes = take (step.end - step.start) (drop step.start batch)

  entry : bytes ≡ entry_at batch place
  entry = step-entry batch place step c.walk_entry-span.ensures

pub slice_bounds-s-count : goal.slice_bounds-s-count
slice_bounds-s-count c = omega (arith, ordered (goal.at.slice_bounds-s-count c).After-walk_entry-span)

pub slice_bounds-s-start : goal.slice_bounds-s-start
slice_bounds-s-start c = omega (arith, ordered (goal.at.slice_bounds-s-start c).After-walk_entry-span, within (goal.at.slice_bounds-s-start c).After-walk_entry-span)

pub slice_bounds-s-end : goal.slice_bounds-s-end
slice_bounds-s-end c = omega (arith, ordered (goal.at.slice_bounds-s-end c).After-walk_entry-span, within (goal.at.slice_bounds-s-end c).After-walk_entry-span)

pub judge-number-requires : goal.judge-number-requires
judge-number-requires c = record { timed = c.requires.timed; count_value = (c.loop-i.invariant.0.holding.extent.count-is, stand-weaker (λ l h. long-passes-formed (setup_of c.args.setup) l h) (extent-stands c.loop-i.invariant.0.holding.extent)) }

-- the entry judged
judged : (c : After-judge-number) → c.judge-number.result ≡ first_no (long_questions (setup_of c.args.setup) c.args.clock (long_held c.args.setup.epsilon c.loop-i.holdback) (bytes (view.up-After-walk_entry-span _ _ _ _ _ _ c.before.before.before)))
judged c = c.judge-number.ensures

pub bounds-verdicts-i : goal.bounds-verdicts-i
bounds-verdicts-i c = inside (goal.at.bounds-verdicts-i c).In-loop-i

pub overflow_add-i : goal.overflow_add-i
overflow_add-i c = omega (arith, few (goal.at.overflow_add-i c).After-count_of-entries, more (goal.at.overflow_add-i c).In-loop-i)

pub loop-i-smaller-then-number-ne0 : goal.loop-i-smaller-then-number-ne0
loop-i-smaller-then-number-ne0 c = omega (arith, c.loop-i-test.true)

-- a refused frame
pub loop-i-preserved-then-number-ne0 : goal.loop-i-preserved-then-number-ne0
loop-i-preserved-then-number-ne0 c =
    let queue = queue-refused c.loop-i.invariant.0 (more (goal.at.loop-i-preserved-then-number-ne0 c).In-loop-i) (few (goal.at.loop-i-preserved-then-number-ne0 c).After-count_of-entries).1 (entry (goal.at.loop-i-preserved-then-number-ne0 c).After-walk_entry-span) (next (goal.at.loop-i-preserved-then-number-ne0 c).After-walk_entry-span) (judged (goal.at.loop-i-preserved-then-number-ne0 c).After-judge-number) c.if-number-ne0.true in (
      queue,
      stamp-refused c.loop-i.invariant.1 (more (goal.at.loop-i-preserved-then-number-ne0 c).In-loop-i) (entry (goal.at.loop-i-preserved-then-number-ne0 c).After-walk_entry-span) (next (goal.at.loop-i-preserved-then-number-ne0 c).After-walk_entry-span) (queue-written c.loop-i.verdicts c.loop-i.i c.judge-number.result queue (inside (goal.at.loop-i-preserved-then-number-ne0 c).In-loop-i))
          (share-refused (setup_of c.args.setup) c.args.clock c.judge-number.result (bytes (goal.at.loop-i-preserved-then-number-ne0 c).After-walk_entry-span) _ c.if-number-ne0.true),
    )

-- a taken one
module _ (c : Else-number-ne0) where
  taken : 0 ≡ first_no (long_questions (setup_of c.args.setup) c.args.clock (long_held c.args.setup.epsilon c.loop-i.holdback) (bytes (view.up-After-walk_entry-span _ _ _ _ _ _ c.before.before.before.before)))
  taken = sym c.if-number-ne0.false ∙ judged (view.up-After-judge-number _ _ _ _ _ _ c.before.before)

  readable : Readable (setup_of c.args.setup) c.args.clock (bytes (view.up-After-walk_entry-span _ _ _ _ _ _ c.before.before.before.before))
  readable = taken-readable (long_held c.args.setup.epsilon c.loop-i.holdback) (bytes (view.up-After-walk_entry-span _ _ _ _ _ _ c.before.before.before.before)) c.requires.timed taken

pub append-requires : goal.append-requires
append-requires c = record { setup_value = (c.requires.timed.limits, c.loop-i.invariant.0.holding.extent); frame_value = (taken-passes (readable (goal.at.append-requires c).Else-number-ne0), taken-few (bytes (goal.at.append-requires c).After-walk_entry-span) c.requires.timed c.loop-i.invariant.0.holding.extent (taken (goal.at.append-requires c).Else-number-ne0)) }

pub absorb_frame-absorbed-requires : goal.absorb_frame-absorbed-requires
absorb_frame-absorbed-requires c = record { readable = readable (goal.at.absorb_frame-absorbed-requires c).Else-number-ne0; stamp_value = c.loop-i.invariant.1.narrow }

pub overflow_add-held : goal.overflow_add-held
overflow_add-held c = omega (arith, taken-few (bytes (goal.at.overflow_add-held c).After-walk_entry-span) c.requires.timed c.loop-i.invariant.0.holding.extent (taken (goal.at.overflow_add-held c).Else-number-ne0))

pub overflow_add-stop : goal.overflow_add-stop
overflow_add-stop c = omega (arith, stop-small c.requires.timed c.append.ensures.known)

pub overflow_add-taken : goal.overflow_add-taken
overflow_add-taken c = omega (arith, few (goal.at.overflow_add-taken c).After-count_of-entries, more (goal.at.overflow_add-taken c).In-loop-i, c.loop-i.invariant.0.turn.heard.few)

pub loop-i-smaller : goal.loop-i-smaller
loop-i-smaller c = omega (arith, c.loop-i-test.true)

pub loop-i-preserved : goal.loop-i-preserved
loop-i-preserved c =
    let queue = queue-taken c.loop-i.invariant.0 (more (goal.at.loop-i-preserved c).In-loop-i) (few (goal.at.loop-i-preserved c).After-count_of-entries).1 (entry (goal.at.loop-i-preserved c).After-walk_entry-span) (next (goal.at.loop-i-preserved c).After-walk_entry-span) c.if-number-ne0.false (limits (goal.at.loop-i-preserved c).Start).epsilon-pos (taken (goal.at.loop-i-preserved c).Else-number-ne0) c.append.ensures.buffer c.append.ensures.held c.append.ensures.known in (
      queue,
      stamp-taken c.loop-i.invariant.1 (more (goal.at.loop-i-preserved c).In-loop-i) (entry (goal.at.loop-i-preserved c).After-walk_entry-span) (next (goal.at.loop-i-preserved c).After-walk_entry-span) (queue-written c.loop-i.verdicts c.loop-i.i c.judge-number.result queue (inside (goal.at.loop-i-preserved c).In-loop-i) ∙ ap (λ (k : ℕ). k ∷ drop (c.loop-i.i + 1) (numbers (goal.at.loop-i-preserved c).Start)) c.if-number-ne0.false) (limits (goal.at.loop-i-preserved c).Start).epsilon-most
          (share-wide (setup_of c.args.setup) c.args.clock (bytes (goal.at.loop-i-preserved c).After-walk_entry-span) _) c.absorb_frame-absorbed.ensures,
    )

pub shape_of-holdback : goal.shape_of-holdback
shape_of-holdback c = c.loop-i.invariant.0.holding.extent.sized ∙ sym c.requires.holding.extent.sized

pub shape_of-verdicts : goal.shape_of-verdicts
shape_of-verdicts c = c.loop-i.invariant.0.turn.heard.long

pub returns : goal.returns
returns c =
    let done : count_of c.args.batch.now ≤ c.loop-i.i = omega (arith, c.count_of-entries.ensures) in
    record { heard_queue = queue-end c.loop-i.invariant.0 done (few (goal.at.returns c).After-count_of-entries).1; heard_stamp = record { stamp = share-end (setup_of c.args.setup) c.args.clock c.loop-i.invariant.1 done } }
