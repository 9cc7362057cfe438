-- `widerqueue::due::front_before` meets its contract. The invariant of the loop: every frame passed is due before the limit, and the next one starts at `at`. The measure is what is left of the count. Assumes nothing.
use native.Mathlib.Omega.{arith}
use mathlib.Core.Path.{refl}
use Rattle.pairs.specs.Views.{schedule_of}
use Rattle.lemmas.proofs.FrameWalk.{seek-starts, seek-inside, seek-next, seek-passes, seek-stops, seek-turns, seek-ends}
use Rattle.holdback.proofs.RoundTrip.{Bytes}
use Rattle.widerqueue.proofs.Queues.{sound-stand, seek-place}
use Rattle.widerqueue.proofs.Fronts.{under-no, under-yes}
use Rattle.widerqueue.proofs.due.front_before.Goals.{After-shared_slice_known-1}
use Rattle.widerqueue.proofs.due.front_before.Goals as goal

pub loop-i-init : goal.loop-i-init
loop-i-init c = seek-starts (sound-stand (schedule_of c.args.p) c.args.clock c.requires.sound_by.0.least c.args.buf.now c.requires.sound_by.0.sound c.requires.sound_by.1.0 c.requires.sound_by.1.1)

pub slice_bounds-frame_end-count : goal.slice_bounds-frame_end-count
slice_bounds-frame_end-count c = seek-inside c.loop-i.invariant c.loop-i-test.true

pub slice_bounds-frame_end-start : goal.slice_bounds-frame_end-start
slice_bounds-frame_end-start c = omega (arith, seek-inside c.loop-i.invariant c.loop-i-test.true)

pub frame_end-requires : goal.frame_end-requires
frame_end-requires c = c.requires.paired.0

pub overflow_add-next : goal.overflow_add-next
overflow_add-next c = omega (arith, seek-next c.loop-i.invariant c.loop-i-test.true c.frame_end.ensures)

pub slice_bounds-due_of-count : goal.slice_bounds-due_of-count
slice_bounds-due_of-count c = omega arith

pub slice_bounds-due_of-start : goal.slice_bounds-due_of-start
slice_bounds-due_of-start c = omega arith

pub slice_bounds-due_of-end : goal.slice_bounds-due_of-end
slice_bounds-due_of-end c = omega (arith, seek-next c.loop-i.invariant c.loop-i-test.true c.frame_end.ensures)

pub due_of-requires : goal.due_of-requires
due_of-requires c = record { paired = c.requires.paired; frame_value = seek-passes c.loop-i.invariant c.loop-i-test.true c.frame_end.ensures }

-- the buffer's bytes
clean : (c : After-shared_slice_known-1) → Bytes c.args.buf.now
clean c i = omega (arith, c.shared_slice_known-1.given i)

pub returns-then-limit-due_of : goal.returns-then-limit-due_of
returns-then-limit-due_of c =
    seek-place (schedule_of c.args.p) c.args.clock c.requires.sound_by.0.least c.args.buf.now c.requires.sound_by.0.sound (clean (goal.at.returns-then-limit-due_of c).After-shared_slice_known-1) c.requires.sound_by.1.0 c.requires.sound_by.1.1 c.loop-i.invariant
    (seek-stops c.loop-i.invariant c.loop-i-test.true c.frame_end.ensures (under-no (schedule_of c.args.p) c.args.clock _ c.args.limit c.due_of.ensures.0 c.if-limit-due_of.true) refl)

pub overflow_add-i : goal.overflow_add-i
overflow_add-i c = omega arith

pub loop-i-smaller : goal.loop-i-smaller
loop-i-smaller c = omega arith

pub loop-i-preserved : goal.loop-i-preserved
loop-i-preserved c = seek-turns c.loop-i.invariant c.loop-i-test.true c.frame_end.ensures (under-yes (schedule_of c.args.p) c.args.clock _ c.args.limit c.due_of.ensures.0 c.if-limit-due_of.false) refl

pub returns : goal.returns
returns c =
    seek-place (schedule_of c.args.p) c.args.clock c.requires.sound_by.0.least c.args.buf.now c.requires.sound_by.0.sound (clean (goal.at.returns c).After-shared_slice_known-1) c.requires.sound_by.1.0 c.requires.sound_by.1.1 c.loop-i.invariant
    (seek-ends c.loop-i.invariant c.loop-i-test.false)
