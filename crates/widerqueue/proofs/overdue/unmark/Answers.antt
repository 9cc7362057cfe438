-- `widerqueue::overdue::unmark` meets its contract. The invariant of the loop: the table of origins has those of the frames from the next one on, which starts at `at`. The measure is what is left of them. Assumes nothing.
use Prim.Native.Nat.{◌<◌}
use native.Mathlib.Omega.{arith}
use mathlib.Core.Path.{sym, ap, ◌∙◌}
use lib.ListN.{length}
use Rattle.model.specs.Frame.{two_at}
use Rattle.model.specs.Schedule.{own_limits}
use Rattle.model.specs.Wider.{wider_held}
use Rattle.setup.specs.Views.{setup_of}
use Rattle.pairs.specs.Views.{schedule_of}
use Rattle.lemmas.proofs.FrameWalk.{seek-inside, seek-next, seek-passes}
use Rattle.holdback.proofs.Seen.{length_seen}
use Rattle.widerqueue.proofs.Shared.{own-in-limits}
use Rattle.widerqueue.proofs.Orders.{read-asks}
use Rattle.widerqueue.proofs.Releasing.{unmarking-starts, unmarking-within, unmarking-there, unmarking-turns, unmarking-long, unmarking-ends}
use Rattle.widerqueue.proofs.overdue.unmark.Goals.{In-loop-i}
use Rattle.widerqueue.proofs.overdue.unmark.Goals as goal

pub loop-i-init : goal.loop-i-init
loop-i-init c = (c.requires.sound_by.0, unmarking-starts c.requires.sound_by.0.sound c.requires.sound_by.1.0 c.requires.seen_value)

-- there is a frame more
more : (c : In-loop-i) → c.loop-i.i < two_at c.args.buf.now 0
more c = omega (arith, c.loop-i-test.true, c.requires.sound_by.1.1)

pub slice_bounds-frame_end-count : goal.slice_bounds-frame_end-count
slice_bounds-frame_end-count c = seek-inside c.loop-i.invariant.1.seek (more (goal.at.slice_bounds-frame_end-count c).In-loop-i)

pub slice_bounds-frame_end-start : goal.slice_bounds-frame_end-start
slice_bounds-frame_end-start c = omega (arith, seek-inside c.loop-i.invariant.1.seek (more (goal.at.slice_bounds-frame_end-start c).In-loop-i))

pub frame_end-requires : goal.frame_end-requires
frame_end-requires c = c.requires.paired.0

pub overflow_add-next : goal.overflow_add-next
overflow_add-next c = omega (arith, seek-next c.loop-i.invariant.1.seek (more (goal.at.overflow_add-next c).In-loop-i) c.frame_end.ensures)

pub slice_bounds-rank_of-count : goal.slice_bounds-rank_of-count
slice_bounds-rank_of-count c = omega arith

pub slice_bounds-rank_of-start : goal.slice_bounds-rank_of-start
slice_bounds-rank_of-start c = omega arith

pub slice_bounds-rank_of-end : goal.slice_bounds-rank_of-end
slice_bounds-rank_of-end c = omega (arith, seek-next c.loop-i.invariant.1.seek (more (goal.at.slice_bounds-rank_of-end c).In-loop-i) c.frame_end.ensures)

pub rank_of-requires : goal.rank_of-requires
rank_of-requires c =
    let t = read-asks (schedule_of c.args.p) c.requires.paired.0 (setup_of c.own_limits-own.result) c.own_limits-own.ensures c.args.clock _ c.requires.paired.1
    (seek-passes c.loop-i.invariant.1.seek (more (goal.at.rank_of-requires c).In-loop-i) c.frame_end.ensures) in record { setup_value = t.0; frame_bound = t.1 }

pub clear_mark-requires : goal.clear_mark-requires
clear_mark-requires c =
    let g = schedule_of c.args.p in
    let more-here = more (goal.at.clear_mark-requires c).In-loop-i in
    record {
      setup_value = (
        own-in-limits g (setup_of c.own_limits-own.result) c.own_limits-own.ensures c.requires.paired.0,
        unmarking-within c.loop-i.invariant.1 more-here c.requires.paired.0 c.requires.paired.1 c.loop-i.invariant.0.recent c.frame_end.ensures (setup_of c.own_limits-own.result) c.own_limits-own.ensures c.rank_of.result c.rank_of.ensures,
      );
      seen_len = (
        unmarking-long c.loop-i.invariant.1,
        unmarking-there c.loop-i.invariant.1 more-here c.requires.paired.0 c.requires.paired.1 c.loop-i.invariant.0.recent c.frame_end.ensures (setup_of c.own_limits-own.result) c.own_limits-own.ensures c.rank_of.result c.rank_of.ensures,
      );
    }

pub overflow_add-i : goal.overflow_add-i
overflow_add-i c = omega arith

pub loop-i-smaller : goal.loop-i-smaller
loop-i-smaller c = omega (arith, c.loop-i-test.true)

pub loop-i-preserved : goal.loop-i-preserved
loop-i-preserved c = (
  c.loop-i.invariant.0,
  unmarking-turns c.loop-i.invariant.1 (more (goal.at.loop-i-preserved c).In-loop-i) c.requires.paired.0 c.requires.paired.1 c.loop-i.invariant.0.recent c.frame_end.ensures
      (setup_of c.own_limits-own.result) c.own_limits-own.ensures c.rank_of.result c.rank_of.ensures _ c.loop-i-test.true c.clear_mark.ensures,
)

pub shape_of-seen : goal.shape_of-seen
shape_of-seen c =
    unmarking-long c.loop-i.invariant.1
    ∙ sym (ap length c.requires.seen_value ∙ length_seen (own_limits (schedule_of c.args.p)) c.args.clock (wider_held (schedule_of c.args.p) c.args.buf.now))

pub returns : goal.returns
returns c = unmarking-ends c.loop-i.invariant.1 c.loop-i-test.false
