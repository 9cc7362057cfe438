-- `node::hearing::enqueue` meets its contract. Assumes nothing.
use Prim.Native.Nat.{◌+◌, ◌≤◌, ◌<◌}
use native.Mathlib.Omega.{arith}
use mathlib.Core.Path.{◌∙◌, ap}
use lib.ListN.{length}
use Rattle.model.specs.Holdback.{held}
use Rattle.holdback.specs.Starts.{start_entries, used_entries}
use Rattle.holdback.proofs.RoundTrip.{Bytes}
use Rattle.holdback.proofs.Seen.{length_seen}
use Rattle.holdback.proofs.Started.{used-most, place_inside, place_at_lem}
use Rattle.setup.specs.Views.{setup_of}
use Rattle.node.proofs.Places.{Known, known, fits, short, movable, unmarked, spans, more-held, more-extent, more-queued}
use Rattle.node.proofs.hearing.enqueue.Goals.{After-sum_wait-k, Start}
use Rattle.node.proofs.hearing.enqueue.Goals as goal

here : (c : Start) → Known (setup_of c.args.setup) c.args.clock c.args.holdback.now c.args.placed.place.index c.args.frame.now
here c = known c.requires.taking

pub put-requires : goal.put-requires
put-requires c = record { spans = spans c.requires.taking c.requires.extent.0; frame_value = ((here (goal.at.put-requires c).Start).form, (omega (arith, fits c.requires.taking, c.requires.extent.0.ends), omega (arith, c.requires.extent.0.count-is, (here (goal.at.put-requires c).Start).few))) }

pub sum_wait-k-requires : goal.sum_wait-k-requires
sum_wait-k-requires c = record { setup_value = (c.requires.taking.timed.limits, c.requires.taking.timed.below); frame_value = ((here (goal.at.sum_wait-k-requires c).Start).fit, c.requires.extent.1) }

-- the sum has a place
placed : (c : After-sum_wait-k) → c.sum_wait-k.result + 1 < used_entries (setup_of c.args.setup)
placed c =
    omega (
      arith,
      c.sum_wait-k.ensures,
      place_at_lem (setup_of c.args.setup) c.args.clock c.args.setup.modulus (omega arith) c.args.frame.now (here c.before.before.before.before.before.before.before.before.before.before.before.before).fit,
      place_inside (setup_of c.args.setup) c.args.clock c.args.setup.modulus (here c.before.before.before.before.before.before.before.before.before.before.before.before).limits c.args.frame.now (here c.before.before.before.before.before.before.before.before.before.before.before.before).fit,
    )

-- a place of the table
used : (c : Start) → used_entries (setup_of c.args.setup) ≤ start_entries
used c = used-most (setup_of c.args.setup) (here c).limits

pub used_entries-to-requires : goal.used_entries-to-requires
used_entries-to-requires c = c.requires.taking.timed.limits

pub overflow_add-k : goal.overflow_add-k
overflow_add-k c = omega (arith, placed (goal.at.overflow_add-k c).After-sum_wait-k, used (goal.at.overflow_add-k c).Start)

pub overflow_add-frame : goal.overflow_add-frame
overflow_add-frame c = omega (arith, short c.requires.taking)

pub overflow_cast-frame : goal.overflow_cast-frame
overflow_cast-frame c = omega (arith, short c.requires.taking)

pub shift_starts-requires : goal.shift_starts-requires
shift_starts-requires c = (movable c.requires.taking c.requires.queued.starts_is, omega (arith, c.used_entries-to.ensures, used (goal.at.shift_starts-requires c).Start))

pub mark-requires : goal.mark-requires
mark-requires c = record { setup_value = (c.requires.taking.timed.limits, c.requires.taking.timed.below); placeable = (here (goal.at.mark-requires c).Start).placeable; seen_len = (ap length c.requires.queued.table_is ∙ length_seen (setup_of c.args.setup) c.args.clock (held c.args.setup.epsilon c.args.holdback.now), c.requires.extent.1); seen_value = unmarked c.requires.taking c.requires.queued }

pub returns : goal.returns
returns c =
    let clean : Bytes c.args.holdback.now = λ i. omega (arith, c.slice_known-1.given i) in
    let bytes-clean : Bytes c.args.frame.now = λ i. omega (arith, c.shared_slice_known-1.given i) in
    record {
      queued = more-queued c.requires.taking c.put.ensures clean bytes-clean c.requires.queued c.mark.ensures c.sum_wait-k.ensures c.used_entries-to.ensures c.shift_starts.ensures;
      extent = more-extent c.requires.taking c.put.ensures clean bytes-clean c.requires.extent.0;
      buffer-is = c.put.ensures;
      queue = more-held c.requires.taking c.put.ensures;
    }
