-- `holdback::overdue::unmark` meets its contract. The invariant of the loop: the table of origins has those of the frames from the next one on, which starts at `at`. The measure is what is left of them. Assumes nothing.
use Rattle.std.proofs.Common.{◌<◌, length, sym, ap, ◌∙◌, arith}
use Rattle.model.specs.Frame.{two_at}
use Rattle.model.specs.Holdback.{held}
use Rattle.setup.specs.Views.{setup_of}
use Rattle.lemmas.proofs.Bounds.{Limits}
use Rattle.lemmas.proofs.Questions.{limits-from}
use Rattle.holdback.proofs.RoundTrip.{passing}
use Rattle.holdback.proofs.Seen.{length_seen}
use Rattle.lemmas.proofs.FrameWalk.{seek-inside, seek-next, seek-passes}
use Rattle.holdback.proofs.Releasing.{unmarking-starts, unmarking-within, unmarking-there, unmarking-turns, unmarking-long, unmarking-ends}
use Rattle.holdback.proofs.overdue.unmark.Goals.{In-loop-i, Start}
use Rattle.holdback.proofs.overdue.unmark.Goals as goal

pub loop-i-init : goal.loop-i-init
loop-i-init c = (c.requires.sound_by.0, unmarking-starts c.requires.sound_by.0.sound c.requires.sound_by.1.0 c.requires.seen_value)

-- there is a frame more
more : (c : In-loop-i) → c.loop-i.i < two_at c.args.buf.now 0
more c = omega (arith, c.loop-i-test.true, c.requires.sound_by.1.1)

pub slice_bounds-frame_end-count : goal.slice_bounds-frame_end-count
slice_bounds-frame_end-count c = seek-inside c.loop-i.invariant.1.seek (more (goal.at.slice_bounds-frame_end-count c).In-loop-i)

pub slice_bounds-frame_end-start : goal.slice_bounds-frame_end-start
slice_bounds-frame_end-start c = omega (arith, seek-inside c.loop-i.invariant.1.seek (more (goal.at.slice_bounds-frame_end-start c).In-loop-i))

limits : (c : Start) → Limits (setup_of c.args.setup)
limits c = limits-from (setup_of c.args.setup) c.requires.setup_value.0

pub frame_end-requires : goal.frame_end-requires
frame_end-requires c = (limits (goal.at.frame_end-requires c).Start).epsilon-most

pub overflow_add-next : goal.overflow_add-next
overflow_add-next c = omega (arith, seek-next c.loop-i.invariant.1.seek (more (goal.at.overflow_add-next c).In-loop-i) c.frame_end.ensures)

pub slice_bounds-rank_of-count : goal.slice_bounds-rank_of-count
slice_bounds-rank_of-count c = omega arith

pub slice_bounds-rank_of-start : goal.slice_bounds-rank_of-start
slice_bounds-rank_of-start c = omega arith

pub slice_bounds-rank_of-end : goal.slice_bounds-rank_of-end
slice_bounds-rank_of-end c = omega (arith, seek-next c.loop-i.invariant.1.seek (more (goal.at.slice_bounds-rank_of-end c).In-loop-i) c.frame_end.ensures)

pub rank_of-requires : goal.rank_of-requires
rank_of-requires c =
    let passed = seek-passes c.loop-i.invariant.1.seek (more (goal.at.rank_of-requires c).In-loop-i) c.frame_end.ensures in
    record { setup_value = c.requires.setup_value; frame_bound = (passing (setup_of c.args.setup) _ passed).r-below }

pub clear_mark-requires : goal.clear_mark-requires
clear_mark-requires c =
    let walk = c.loop-i.invariant in
    let more-here = more (goal.at.clear_mark-requires c).In-loop-i in
    let ends = c.frame_end.ensures in
    let read = c.rank_of in record { setup_value = (c.requires.setup_value.0, unmarking-within walk.1 more-here (limits (goal.at.clear_mark-requires c).Start) c.requires.setup_value.1 walk.0.recent ends read.result read.ensures); seen_len = (unmarking-long walk.1, unmarking-there walk.1 more-here (limits (goal.at.clear_mark-requires c).Start) c.requires.setup_value.1 walk.0.recent ends read.result read.ensures) }

pub overflow_add-i : goal.overflow_add-i
overflow_add-i c = omega arith

pub loop-i-smaller : goal.loop-i-smaller
loop-i-smaller c = omega (arith, c.loop-i-test.true)

pub loop-i-preserved : goal.loop-i-preserved
loop-i-preserved c =
    let walk = c.loop-i.invariant in (
      walk.0,
      unmarking-turns walk.1 (more (goal.at.loop-i-preserved c).In-loop-i) (limits (goal.at.loop-i-preserved c).Start) c.requires.setup_value.1 walk.0.recent c.frame_end.ensures c.rank_of.result c.rank_of.ensures _ c.loop-i-test.true c.clear_mark.ensures,
    )

pub shape_of-seen : goal.shape_of-seen
shape_of-seen c =
    unmarking-long c.loop-i.invariant.1
    ∙ sym (ap length c.requires.seen_value ∙ length_seen (setup_of c.args.setup) c.args.clock (held c.args.setup.epsilon c.args.buf.now))

pub returns : goal.returns
returns c = unmarking-ends c.loop-i.invariant.1 c.loop-i-test.false
