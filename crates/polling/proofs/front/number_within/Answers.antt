-- `polling::front::number_within` meets its contract. The invariant of the loop: every frame passed is due at most d ticks after v, and the next one starts at `at`. The measure is what is left of the count. Assumes nothing.
use native.Mathlib.Omega.{arith}
use borrow.Author.Rules.{rules}
use Rattle.setup.specs.Views.{setup_of}
use Rattle.lemmas.proofs.Questions.{limits-from}
use Rattle.lemmas.proofs.FrameWalk.{seek-starts, seek-inside, seek-next, seek-passes, seek-stops, seek-turns, seek-ends}
use Rattle.holdback.proofs.Searching.{sound-stand}
use Rattle.polling.proofs.Fronts.{within-number}
use Rattle.polling.proofs.front.number_within.Goals as goal

pub loop-number-init : goal.loop-number-init
loop-number-init c = seek-starts (sound-stand (setup_of c.args.setup) c.args.clock c.args.setup.modulus c.args.buf.now c.requires.buf_value.0 c.requires.buf_value.1.0 c.requires.buf_value.1.1)

pub slice_bounds-frame_end-count : goal.slice_bounds-frame_end-count
slice_bounds-frame_end-count c = seek-inside c.loop-number.invariant c.loop-number-test.true

pub slice_bounds-frame_end-start : goal.slice_bounds-frame_end-start
slice_bounds-frame_end-start c = omega (arith, seek-inside c.loop-number.invariant c.loop-number-test.true)

pub frame_end-requires : goal.frame_end-requires
frame_end-requires c = (limits-from (setup_of c.args.setup) c.requires.setup_value.0).epsilon-most

pub overflow_add-next : goal.overflow_add-next
overflow_add-next c = omega (arith, seek-next c.loop-number.invariant c.loop-number-test.true c.frame_end.ensures)

pub slice_bounds-due_within-count : goal.slice_bounds-due_within-count
slice_bounds-due_within-count c = omega arith

pub slice_bounds-due_within-start : goal.slice_bounds-due_within-start
slice_bounds-due_within-start c = omega arith

pub slice_bounds-due_within-end : goal.slice_bounds-due_within-end
slice_bounds-due_within-end c = omega (arith, seek-next c.loop-number.invariant c.loop-number-test.true c.frame_end.ensures)

pub due_within-requires : goal.due_within-requires
due_within-requires c = record { setup_value = (c.requires.setup_value.0, (c.requires.setup_value.1.0, search rules)); frame_value = seek-passes c.loop-number.invariant c.loop-number-test.true c.frame_end.ensures }

-- the first one past the bound
pub returns-then-not-due_within : goal.returns-then-not-due_within
returns-then-not-due_within c =
    let led = c.loop-number.invariant in
    let more = c.loop-number-test.true in
    within-number (setup_of c.args.setup) c.args.clock c.args.setup.modulus c.args.d c.args.buf.now c.requires.buf_value.0 c.requires.buf_value.1.1
    (seek-stops led more c.frame_end.ensures c.due_within.ensures c.if-not-due_within.true-raw)

pub overflow_add-number : goal.overflow_add-number
overflow_add-number c = omega arith

pub loop-number-smaller : goal.loop-number-smaller
loop-number-smaller c = omega arith

pub loop-number-preserved : goal.loop-number-preserved
loop-number-preserved c =
    let led = c.loop-number.invariant in
    let more = c.loop-number-test.true in
    seek-turns led more c.frame_end.ensures c.due_within.ensures c.if-not-due_within.false-raw

-- no frame is past it
pub returns : goal.returns
returns c =
    within-number (setup_of c.args.setup) c.args.clock c.args.setup.modulus c.args.d c.args.buf.now c.requires.buf_value.0 c.requires.buf_value.1.1
    (seek-ends c.loop-number.invariant c.loop-number-test.false)
