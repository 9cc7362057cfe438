-- `widernode::hearing::hear` meets its contract. Assumes nothing.
use Prim.Native.Nat.{ℕ, ◌-◌, ◌≤◌, ◌<◌}
use native.Mathlib.Omega.{arith}
use mathlib.Core.Path.{◌≡◌, refl, sym, ◌∙◌, ap}
use mathlib.Core.List.{List}
use denote.Enum.Declared
use lib.ListN.{length, take, drop}
use Rattle.model.specs.Setup.{verdict_length}
use Rattle.model.specs.Judge.{taken, refused, verdict_number}
use Rattle.model.specs.Schedule.{modulus_of, widest_of, own_limits}
use Rattle.model.specs.Wider.{wider_decode, wider_reading, wider_held, wider_judge}
use Rattle.lemmas.proofs.Schedules.{limits-good, widest-good}
use Rattle.holdback.proofs.RoundTrip.{Bytes}
use Rattle.holdback.proofs.Frames.{bytes_take, bytes_drop}
use Rattle.holdback.proofs.Seen.{length_seen}
use Rattle.batch.specs.Walk.{count_of, entry_at, next_at}
use Rattle.batch.specs.declared.EntrySpan.{EntrySpan}
use Rattle.batch.proofs.Walk.{step-ordered, step-within, step-next, step-entry}
use Rattle.timestamp.specs.Views.{stamp_of}
use Rattle.pairs.specs.Views.{schedule_of}
use Rattle.node.specs.Views.{verdict_of}
use Rattle.node.proofs.Verdicts.{Tags, is-refused}
use Rattle.node.proofs.Places.{size_small}
use Rattle.node.proofs.StampTurns.{stamp-start, stamp-refused, stamp-taken}
use Rattle.widernode.specs.Views.{questions_for}
use Rattle.widernode.specs.States.{Taking}
use Rattle.widernode.proofs.Verdicts.{refused-number, taken-readable}
use Rattle.widernode.proofs.Places.{known, fits}
use Rattle.widernode.proofs.Turns.{queue-start, queue-refused, queue-taken, queue-written, queue-end, share-refused, share-wide, share-taken, share-end}
use Rattle.widernode.proofs.hearing.hear.Lts.View as view
use Rattle.widernode.proofs.hearing.hear.Goals.{After-count_of-entries, After-number_of, After-walk_entry-span, In-Taken, In-loop-i}
use Rattle.widernode.proofs.hearing.hear.Goals as goal

abbrev tags : Tags
tags = record { tag = Declared.tag_of Rattle.node.specs.contracts.verdict.Verdict.the_type; at-taken = λ placed. refl; at-refused = λ number. refl }

pub loop-i-init : goal.loop-i-init
loop-i-init c = (queue-start (λ i. omega (arith, c.slice_known-1.given i)) c.requires.hearing.exact c.requires.queued.0 c.requires.queued.1, stamp-start c.requires.hearing.narrow c.requires.hearing.exact)

-- so many entries have a place for their verdict
few : (c : After-count_of-entries) → (count_of c.args.batch.now ≤ verdict_length) × (count_of c.args.batch.now ≤ length c.args.verdicts.now)
unfolding count_of
few c = omega (arith, c.shared_slice_known-1.given 0, c.requires.hearing.room)

more : (c : In-loop-i) → c.loop-i.i < count_of c.args.batch.now
more c = omega (arith, c.count_of-entries.ensures)

inside : (c : In-loop-i) → c.loop-i.i < length c.loop-i.verdicts
inside c = omega (arith, few (view.up-After-count_of-entries _ _ _ _ _ _ c.before.before.before), more c, c.loop-i.invariant.0.turn.heard.long)

-- the step is of the entry at the loop's position, and ends where the next one stands
module _ (c : After-walk_entry-span) where
  abbrev batch : List ℕ
  batch = c.args.batch.now

  abbrev place : ℕ
  place = c.loop-i.at

  abbrev step : EntrySpan
  step = c.walk_entry-span.result

  ordered : step.start ≤ step.end
  ordered = step-ordered batch place step c.walk_entry-span.ensures

  within : step.end ≤ length batch
  within = step-within batch place step c.walk_entry-span.ensures

  next : step.end ≡ next_at batch place
  next = step-next batch place step c.walk_entry-span.ensures

  abbrev bytes : List ℕ
  bytes = take (step.end - step.start) (drop step.start batch)

  entry : bytes ≡ entry_at batch place
  entry = step-entry batch place step c.walk_entry-span.ensures

  clean : Bytes bytes
  clean = bytes_take (step.end - step.start) (drop step.start batch) (bytes_drop step.start batch (λ i. omega (arith, c.shared_slice_known-1.given i)))

pub slice_bounds-s-count : goal.slice_bounds-s-count
slice_bounds-s-count c = omega (arith, ordered (goal.at.slice_bounds-s-count c).After-walk_entry-span)

pub slice_bounds-s-start : goal.slice_bounds-s-start
slice_bounds-s-start c = omega (arith, ordered (goal.at.slice_bounds-s-start c).After-walk_entry-span, within (goal.at.slice_bounds-s-start c).After-walk_entry-span)

pub slice_bounds-s-end : goal.slice_bounds-s-end
slice_bounds-s-end c = omega (arith, ordered (goal.at.slice_bounds-s-end c).After-walk_entry-span, within (goal.at.slice_bounds-s-end c).After-walk_entry-span)

pub judge-verdict-requires : goal.judge-verdict-requires
judge-verdict-requires c = record { timed = c.requires.timed; queued = (c.loop-i.invariant.0.queued, c.loop-i.invariant.0.extent.count-is) }

pub bounds-verdicts-i : goal.bounds-verdicts-i
bounds-verdicts-i c = inside (goal.at.bounds-verdicts-i c).In-loop-i

pub overflow_add-i : goal.overflow_add-i
overflow_add-i c = omega (arith, few (goal.at.overflow_add-i c).After-count_of-entries, more (goal.at.overflow_add-i c).In-loop-i)

pub loop-i-smaller-in_default : goal.loop-i-smaller-in_default
loop-i-smaller-in_default c = omega (arith, c.loop-i-test.true)

-- a refused frame
module _ (c : After-number_of) where
  abbrev number : ℕ
  number = verdict_number (verdict_of c.judge-verdict.result)

  no : wider_judge (schedule_of c.args.p) c.args.clock (questions_for c.args.listens (schedule_of c.args.p) c.args.clock) (wider_held (schedule_of c.args.p) c.loop-i.holdback) (bytes (view.up-After-walk_entry-span _ _ _ _ _ _ c.before.before.before.before.before)) ≡ refused number
  no = sym c.judge-verdict.ensures.result_value ∙ is-refused tags c.judge-verdict.result c.in_default.in_default-own.keys2

  no_zero : c.number_of.result ≡ 0 → ⊥
  no_zero z = refused-number (schedule_of c.args.p) c.args.clock (questions_for c.args.listens (schedule_of c.args.p) c.args.clock) (wider_held (schedule_of c.args.p) c.loop-i.holdback) (bytes (view.up-After-walk_entry-span _ _ _ _ _ _ c.before.before.before.before.before)) number no (sym c.number_of.ensures ∙ z)

pub loop-i-preserved-in_default : goal.loop-i-preserved-in_default
loop-i-preserved-in_default c =
    let queue = queue-refused c.loop-i.invariant.0 (more (goal.at.loop-i-preserved-in_default c).In-loop-i) (few (goal.at.loop-i-preserved-in_default c).After-count_of-entries).1 (entry (goal.at.loop-i-preserved-in_default c).After-walk_entry-span) (next (goal.at.loop-i-preserved-in_default c).After-walk_entry-span) (no (goal.at.loop-i-preserved-in_default c).After-number_of) c.number_of.ensures in (
      queue,
      stamp-refused c.loop-i.invariant.1 (more (goal.at.loop-i-preserved-in_default c).In-loop-i) (entry (goal.at.loop-i-preserved-in_default c).After-walk_entry-span) (next (goal.at.loop-i-preserved-in_default c).After-walk_entry-span) (queue-written c.loop-i.verdicts c.loop-i.i c.number_of.result queue (inside (goal.at.loop-i-preserved-in_default c).In-loop-i))
          (share-refused c.args.listens (schedule_of c.args.p) c.args.clock c.number_of.result (bytes (goal.at.loop-i-preserved-in_default c).After-walk_entry-span) _ (no_zero (goal.at.loop-i-preserved-in_default c).After-number_of)),
    )

-- what taking it asks
module _ (c : In-Taken) where
  judged : wider_judge (schedule_of c.args.p) c.args.clock (questions_for c.args.listens (schedule_of c.args.p) c.args.clock) (wider_held (schedule_of c.args.p) c.loop-i.holdback) (bytes (view.up-After-walk_entry-span _ _ _ _ _ _ c.before.before.before.before)) ≡ taken c.in-Taken.placed.place.index
  judged = sym c.judge-verdict.ensures.result_value ∙ ap verdict_of c.in-Taken.is

  taking : Taking (schedule_of c.args.p) c.args.clock c.loop-i.holdback c.in-Taken.placed.place.index c.in-Taken.placed.place.at (bytes (view.up-After-walk_entry-span _ _ _ _ _ _ c.before.before.before.before))
  taking =
      record {
        timed = c.requires.timed;
        listens = c.args.listens;
        judged = judged;
        starts = c.judge-verdict.ensures.located.stands c.in-Taken.placed c.in-Taken.is;
      }

  -- its reading is handed on
  read : c.in-Taken.placed.reading ≡ wider_reading (schedule_of c.args.p) c.args.clock (wider_decode (schedule_of c.args.p) (bytes (view.up-After-walk_entry-span _ _ _ _ _ _ c.before.before.before.before)))
  read = c.judge-verdict.ensures.located.reads c.in-Taken.placed c.in-Taken.is

pub enqueue-requires : goal.enqueue-requires
enqueue-requires c = record { taking = (taking (goal.at.enqueue-requires c).In-Taken, c.loop-i.invariant.0.queued); extent = (c.loop-i.invariant.0.extent, read (goal.at.enqueue-requires c).In-Taken) }

pub absorb_frame-absorbed-requires : goal.absorb_frame-absorbed-requires
absorb_frame-absorbed-requires c =
    let g = schedule_of c.args.p in
    record { readable = (taken-readable c.args.listens g c.args.clock (wider_held g c.loop-i.holdback) (bytes (goal.at.absorb_frame-absorbed-requires c).After-walk_entry-span) c.in-Taken.placed.place.index c.requires.timed (judged (goal.at.absorb_frame-absorbed-requires c).In-Taken), read (goal.at.absorb_frame-absorbed-requires c).In-Taken); stamp_value = c.loop-i.invariant.1.narrow }

pub overflow_add-held : goal.overflow_add-held
overflow_add-held c = omega (arith, (known (taking (goal.at.overflow_add-held c).In-Taken) c.loop-i.invariant.0.queued).few, c.loop-i.invariant.0.extent.count-is)

pub overflow_add-stop : goal.overflow_add-stop
overflow_add-stop c =
    let g = schedule_of c.args.p in
    omega (arith, fits (taking (goal.at.overflow_add-stop c).In-Taken) c.loop-i.invariant.0.queued (clean (goal.at.overflow_add-stop c).After-walk_entry-span) c.loop-i.invariant.0.extent, c.loop-i.invariant.0.queued.size, size_small (widest_of g) (widest-good g c.requires.timed.good))

pub bounds-verdicts-i-in-loop-i : goal.bounds-verdicts-i-in-loop-i
bounds-verdicts-i-in-loop-i c = inside (goal.at.bounds-verdicts-i-in-loop-i c).In-loop-i

pub overflow_add-taken : goal.overflow_add-taken
overflow_add-taken c = omega (arith, few (goal.at.overflow_add-taken c).After-count_of-entries, more (goal.at.overflow_add-taken c).In-loop-i, c.loop-i.invariant.0.turn.heard.few)

pub overflow_add-i-in-loop-i : goal.overflow_add-i-in-loop-i
overflow_add-i-in-loop-i c = omega (arith, few (goal.at.overflow_add-i-in-loop-i c).After-count_of-entries, more (goal.at.overflow_add-i-in-loop-i c).In-loop-i)

pub loop-i-smaller : goal.loop-i-smaller
loop-i-smaller c = omega (arith, c.loop-i-test.true)

pub loop-i-preserved : goal.loop-i-preserved
loop-i-preserved c =
    let g = schedule_of c.args.p in
    let queue = queue-taken c.loop-i.invariant.0 (more (goal.at.loop-i-preserved c).In-loop-i) (few (goal.at.loop-i-preserved c).After-count_of-entries).1 (entry (goal.at.loop-i-preserved c).After-walk_entry-span) (next (goal.at.loop-i-preserved c).After-walk_entry-span) (judged (goal.at.loop-i-preserved c).In-Taken) c.enqueue.ensures in (
      queue,
      stamp-taken c.loop-i.invariant.1 (more (goal.at.loop-i-preserved c).In-loop-i) (entry (goal.at.loop-i-preserved c).After-walk_entry-span) (next (goal.at.loop-i-preserved c).After-walk_entry-span) (queue-written c.loop-i.verdicts c.loop-i.i 0 queue (inside (goal.at.loop-i-preserved c).In-loop-i)) (limits-good g c.requires.timed.good (modulus_of g)).epsilon-most
          (share-wide c.args.listens g c.args.clock (bytes (goal.at.loop-i-preserved c).After-walk_entry-span) (stamp_of c.loop-i.absorbed))
          (share-taken c.args.listens g c.args.clock (bytes (goal.at.loop-i-preserved c).After-walk_entry-span) (stamp_of c.loop-i.absorbed) c.loop-i.invariant.1.narrow c.absorb_frame-absorbed.ensures),
    )

pub shape_of-holdback : goal.shape_of-holdback
shape_of-holdback c = c.loop-i.invariant.0.queued.size ∙ sym c.requires.queued.0.size

pub shape_of-seen : goal.shape_of-seen
shape_of-seen c =
    let g = schedule_of c.args.p in
    (ap length c.loop-i.invariant.0.queued.table_is ∙ length_seen (own_limits g) c.args.clock (wider_held g c.loop-i.holdback))
    ∙ sym (ap length c.requires.queued.0.table_is ∙ length_seen (own_limits g) c.args.clock (wider_held g c.args.holdback.now))

pub shape_of-verdicts : goal.shape_of-verdicts
shape_of-verdicts c = c.loop-i.invariant.0.turn.heard.long

pub returns : goal.returns
returns c =
    let done : count_of c.args.batch.now ≤ c.loop-i.i = omega (arith, c.count_of-entries.ensures) in
    record { heard_queue = queue-end c.loop-i.invariant.0 done (few (goal.at.returns c).After-count_of-entries).1; stamp_value = share-end c.args.listens (schedule_of c.args.p) c.args.clock c.loop-i.invariant.1 done }
