-- `widernode::hearing::enqueue` meets its contract. Assumes nothing.
use native.Mathlib.Omega.{arith}
use mathlib.Core.Path.{◌∙◌, sym, ap}
use lib.ListN.{length}
use Rattle.model.specs.Schedule.{own_limits}
use Rattle.model.specs.Wider.{wider_held}
use Rattle.holdback.proofs.RoundTrip.{Bytes}
use Rattle.holdback.proofs.Seen.{length_seen}
use Rattle.setup.specs.Views.{setup_of}
use Rattle.pairs.specs.Views.{schedule_of}
use Rattle.widerqueue.proofs.Shared.{own-in-limits, own_below, reading-same, marked-same, mark-same, placeable-same}
use Rattle.widernode.proofs.Places.{Known, known, fits, unmarked, spans, more-held, more-extent, more-queued}
use Rattle.widernode.proofs.hearing.enqueue.Goals.{Start}
use Rattle.widernode.proofs.hearing.enqueue.Goals as goal

here : (c : Start) → Known (schedule_of c.args.p) c.args.clock c.args.holdback.now c.args.placed.place.index c.args.frame.now
here c = known c.requires.taking.0 c.requires.taking.1

pub put-requires : goal.put-requires
put-requires c =
    let clean : Bytes c.args.frame.now = λ i. omega (arith, c.shared_slice_known-1.given i) in
    record { spans = spans c.requires.taking.0 c.requires.taking.1 c.requires.extent.0; frame_value = ((here (goal.at.put-requires c).Start).facts.formed, (fits c.requires.taking.0 c.requires.taking.1 clean c.requires.extent.0, omega (arith, c.requires.extent.0.count-is, (here (goal.at.put-requires c).Start).few))) }

pub mark-requires : goal.mark-requires
mark-requires c =
    let g = schedule_of c.args.p in
    let own = setup_of c.own_limits-own.result in
    record {
      setup_value = (own-in-limits g own c.own_limits-own.ensures c.requires.taking.0.timed.good, own_below g own c.own_limits-own.ensures c.requires.taking.0.timed.good c.requires.taking.0.timed.below);
      placeable = placeable-same g own c.own_limits-own.ensures c.args.clock c.args.frame.now (here (goal.at.mark-requires c).Start).placeable;
      seen_len = (
        ap length c.requires.taking.1.table_is ∙ length_seen (own_limits g) c.args.clock (wider_held g c.args.holdback.now),
        c.requires.extent.1 ∙ sym (reading-same g own c.own_limits-own.ensures c.args.clock c.args.frame.now),
      );
      seen_value = marked-same g own c.own_limits-own.ensures c.args.clock c.args.frame.now c.args.seen.now ∙ unmarked c.requires.taking.0 c.requires.taking.1;
    }

pub returns : goal.returns
returns c =
    let g = schedule_of c.args.p in
    let own = setup_of c.own_limits-own.result in
    let clean : Bytes c.args.frame.now = λ i. omega (arith, c.shared_slice_known-1.given i) in
    record {
      queued =
          more-queued c.requires.taking.0 c.requires.taking.1 clean c.put.ensures
          (c.mark.ensures ∙ mark-same g own c.own_limits-own.ensures c.args.clock c.args.frame.now c.args.seen.now);
      extent = more-extent c.requires.taking.0 c.requires.taking.1 clean c.put.ensures c.requires.extent.0;
      buffer-is = c.put.ensures;
      queue = more-held c.requires.taking.0 c.requires.taking.1 clean c.put.ensures;
    }
