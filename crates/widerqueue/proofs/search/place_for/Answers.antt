-- `widerqueue::search::place_for` meets its contract. The invariant of the loop: every frame passed comes before it, and the next one starts at `at`. The measure is what is left of the count. Assumes nothing.
use Prim.Native.Nat.{◌+◌, ◌-◌}
use lib.ListN.{take, drop}
use native.Mathlib.Omega.{arith}
use mathlib.Core.Path.{◌≡◌, ◌∙◌}
use Rattle.model.specs.Wider.{wider_decode, wider_before, wider_place}
use Rattle.setup.specs.Views.{setup_of}
use Rattle.pairs.specs.Views.{schedule_of}
use Rattle.lemmas.proofs.FrameWalk.{seek-starts, seek-inside, seek-next, seek-passes, seek-stops, seek-turns, seek-ends}
use Rattle.holdback.proofs.RoundTrip.{Bytes}
use Rattle.widerqueue.proofs.Shared.{reading-same}
use Rattle.widerqueue.proofs.Orders.{read-asks, read_low, before-near}
use Rattle.widerqueue.proofs.Queues.{sound-stand, seek-place}
use Rattle.widerqueue.proofs.search.place_for.Goals.{After-comes_before, After-shared_slice_known-1}
use Rattle.widerqueue.proofs.search.place_for.Goals as goal

pub loop-i-init : goal.loop-i-init
loop-i-init c = seek-starts (sound-stand (schedule_of c.args.p) c.args.clock c.args.p.before.modulus c.args.buf.now c.requires.buf_value.0 c.requires.buf_value.1.0 c.requires.buf_value.1.1)

pub slice_bounds-frame_end-count : goal.slice_bounds-frame_end-count
slice_bounds-frame_end-count c = seek-inside c.loop-i.invariant c.loop-i-test.true

pub slice_bounds-frame_end-start : goal.slice_bounds-frame_end-start
slice_bounds-frame_end-start c = omega (arith, seek-inside c.loop-i.invariant c.loop-i-test.true)

pub frame_end-requires : goal.frame_end-requires
frame_end-requires c = c.requires.paired.0

pub overflow_add-next : goal.overflow_add-next
overflow_add-next c = omega (arith, seek-next c.loop-i.invariant c.loop-i-test.true c.frame_end.ensures)

pub slice_bounds-reading_of-count : goal.slice_bounds-reading_of-count
slice_bounds-reading_of-count c = omega arith

pub slice_bounds-reading_of-start : goal.slice_bounds-reading_of-start
slice_bounds-reading_of-start c = omega arith

pub slice_bounds-reading_of-end : goal.slice_bounds-reading_of-end
slice_bounds-reading_of-end c = omega (arith, seek-next c.loop-i.invariant c.loop-i-test.true c.frame_end.ensures)

pub reading_of-other-requires : goal.reading_of-other-requires
reading_of-other-requires c =
    let t = read-asks (schedule_of c.args.p) c.requires.paired.0 (setup_of c.own_limits-own.result) c.own_limits-own.ensures c.args.clock _ c.requires.paired.1
    (seek-passes c.loop-i.invariant c.loop-i-test.true c.frame_end.ensures) in record { setup_value = t.0; frame_bound = t.1 }

pub slice_bounds-comes_before-count : goal.slice_bounds-comes_before-count
slice_bounds-comes_before-count c = omega arith

pub slice_bounds-comes_before-start : goal.slice_bounds-comes_before-start
slice_bounds-comes_before-start c = omega arith

pub slice_bounds-comes_before-end : goal.slice_bounds-comes_before-end
slice_bounds-comes_before-end c = omega (arith, seek-next c.loop-i.invariant c.loop-i-test.true c.frame_end.ensures)

pub comes_before-requires : goal.comes_before-requires
comes_before-requires c =
    let g = schedule_of c.args.p in
    let read = c.reading_of-other.ensures ∙ reading-same g (setup_of c.own_limits-own.result) c.own_limits-own.ensures c.args.clock _ in record { paired = (c.requires.paired.0, (read_low g c.requires.paired.0 c.args.clock _ read, read_low g c.requires.paired.0 c.args.clock _ c.requires.frame_value.1)); f_value = (seek-passes c.loop-i.invariant c.loop-i-test.true c.frame_end.ensures, c.requires.frame_value.0) }

-- the buffer's bytes
clean : (c : After-shared_slice_known-1) → Bytes c.args.buf.now
clean c i = omega (arith, c.shared_slice_known-1.given i)

-- the test of one frame
tested : (c : After-comes_before)
    → c.comes_before.result
    ≡ wider_before (schedule_of c.args.p) c.args.clock
    (wider_decode (schedule_of c.args.p)
    (take (c.loop-i.at + c.frame_end.result - c.loop-i.at) (drop c.loop-i.at c.args.buf.now)))
    (wider_decode (schedule_of c.args.p) c.args.frame.now)
tested c =
    let g = schedule_of c.args.p in
    c.comes_before.ensures
    ∙ before-near g c.args.clock c.reading_of-other.result c.args.reading _ (wider_decode g c.args.frame.now)
    (c.reading_of-other.ensures ∙ reading-same g (setup_of c.own_limits-own.result) c.own_limits-own.ensures c.args.clock _) c.requires.frame_value.1

pub returns-then-not-comes_before : goal.returns-then-not-comes_before
unfolding wider_place
returns-then-not-comes_before c =
    seek-place (schedule_of c.args.p) c.args.clock c.args.p.before.modulus c.args.buf.now c.requires.buf_value.0 (clean (goal.at.returns-then-not-comes_before c).After-shared_slice_known-1) c.requires.buf_value.1.0 c.requires.buf_value.1.1 c.loop-i.invariant
    (seek-stops c.loop-i.invariant c.loop-i-test.true c.frame_end.ensures (tested (goal.at.returns-then-not-comes_before c).After-comes_before) c.if-not-comes_before.true-raw)

pub overflow_add-i : goal.overflow_add-i
overflow_add-i c = omega arith

pub loop-i-smaller : goal.loop-i-smaller
loop-i-smaller c = omega arith

pub loop-i-preserved : goal.loop-i-preserved
loop-i-preserved c = seek-turns c.loop-i.invariant c.loop-i-test.true c.frame_end.ensures (tested (goal.at.loop-i-preserved c).After-comes_before) c.if-not-comes_before.false-raw

pub returns : goal.returns
unfolding wider_place
returns c =
    seek-place (schedule_of c.args.p) c.args.clock c.args.p.before.modulus c.args.buf.now c.requires.buf_value.0 (clean (goal.at.returns c).After-shared_slice_known-1) c.requires.buf_value.1.0 c.requires.buf_value.1.1 c.loop-i.invariant
    (seek-ends c.loop-i.invariant c.loop-i-test.false)
