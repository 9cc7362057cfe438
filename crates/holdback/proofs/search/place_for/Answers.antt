-- `holdback::search::place_for` meets its contract. The search starts at the entry for the frame's sum. The invariant of the loop: every frame passed comes before it, and the next one starts at `at`. The measure is what is left of the count. Assumes nothing.
use Rattle.std.proofs.Common.{◌≡◌, ◌+◌, ◌<◌, true, refl, ◌∙◌, arith}
use Rattle.model.specs.Frame.{decode}
use Rattle.model.specs.Order.{due_near}
use Rattle.model.specs.Judge.{place_for}
use Rattle.setup.specs.Views.{setup_of}
use Rattle.lemmas.proofs.Questions.{limits-from}
use Rattle.holdback.specs.Starts.{used_entries, sum_wait}
use Rattle.model.specs.Holdback.{passes}
use Rattle.lemmas.proofs.Bounds.{Limits}
use Rattle.holdback.proofs.Frames.{counts-decoded}
use Rattle.holdback.specs.Queue.{rank_of}
use Rattle.holdback.proofs.Testing.{rank-read, fits-passes, ranked, rank-fits, rank-placed, before-rank}
use Rattle.holdback.proofs.Started.{used-most, place_inside, place_at_lem, starts-long, starts-at, start-leads}
use Rattle.lemmas.proofs.FrameWalk.{seek-inside, seek-next, seek-passes, seek-stops, seek-turns, seek-ends}
use Rattle.holdback.proofs.Searching.{seek-place}
use Rattle.holdback.proofs.search.place_for.Lts.View as view
use Rattle.holdback.proofs.search.place_for.Goals.{After-rank_at-rank, After-rank_wait, Start}
use Rattle.holdback.proofs.search.place_for.Goals as goal

-- the frame passes 10 to 12
passed : (c : Start) → passes (setup_of c.args.setup) c.args.frame.now ≡ true
passed c = fits-passes (setup_of c.args.setup) c.args.clock c.args.setup.modulus c.args.frame.now c.requires.frame_value.0

limits : (c : Start) → Limits (setup_of c.args.setup)
limits c = limits-from (setup_of c.args.setup) c.requires.setup_value.0

-- the rank with the reading that is handed on
own-rank : (c : After-rank_at-rank) → c.rank_at-rank.result ≡ rank_of (setup_of c.args.setup) c.args.clock (decode c.args.setup.epsilon c.args.frame.now)
own-rank c = rank-read (setup_of c.args.setup) c.args.clock (decode c.args.setup.epsilon c.args.frame.now) c.args.reading (c.rank_at-rank.ensures c.args.setup.epsilon) c.requires.frame_value.1

pub rank_wait-requires : goal.rank_wait-requires
rank_wait-requires c = record { setup_value = c.requires.setup_value.0; reading_bound = rank-fits (setup_of c.args.setup) c.args.clock c.args.setup.modulus c.args.frame.now c.rank_at-rank.result (limits (goal.at.rank_wait-requires c).Start) c.requires.frame_value.0 (own-rank (goal.at.rank_wait-requires c).After-rank_at-rank) }

-- the frame's sum has a place
place : (c : After-rank_wait) → c.rank_wait.result ≡ sum_wait (setup_of c.args.setup) c.args.clock (decode c.args.setup.epsilon c.args.frame.now)
place c =
    c.rank_wait.ensures
    ∙ rank-placed (setup_of c.args.setup) c.args.clock (decode c.args.setup.epsilon c.args.frame.now) c.rank_at-rank.result (own-rank (view.up-After-rank_at-rank _ _ _ _ _ _ c.before.before))

-- which tells its due clock
due-is : (c : Start) → c.args.setup.modulus + sum_wait (setup_of c.args.setup) c.args.clock (decode c.args.setup.epsilon c.args.frame.now) ≡ due_near (setup_of c.args.setup) c.args.clock (decode c.args.setup.epsilon c.args.frame.now)
due-is c = place_at_lem (setup_of c.args.setup) c.args.clock c.args.setup.modulus (omega arith) c.args.frame.now c.requires.frame_value.0

inside : (c : After-rank_wait) → c.rank_wait.result < used_entries (setup_of c.args.setup)
inside c = omega (arith, place c, due-is c.before.before.before.before.before.before.before, place_inside (setup_of c.args.setup) c.args.clock c.args.setup.modulus (limits c.before.before.before.before.before.before.before) c.args.frame.now c.requires.frame_value.0)

pub offset_bounds-starts-rank_wait : goal.offset_bounds-starts-rank_wait
offset_bounds-starts-rank_wait c = omega (arith, inside (goal.at.offset_bounds-starts-rank_wait c).After-rank_wait, used-most (setup_of c.args.setup) (limits (goal.at.offset_bounds-starts-rank_wait c).Start))

pub bounds-starts-rank_wait : goal.bounds-starts-rank_wait
bounds-starts-rank_wait c = omega (arith, inside (goal.at.bounds-starts-rank_wait c).After-rank_wait, used-most (setup_of c.args.setup) (limits (goal.at.bounds-starts-rank_wait c).Start), starts-long (setup_of c.args.setup) c.args.clock c.args.buf.now c.requires.starts_value)

pub overflow_cast-start : goal.overflow_cast-start
overflow_cast-start c = omega (arith, c.shared_slice_known-4-1.given c.rank_wait.result)

pub loop-i-init : goal.loop-i-init
loop-i-init c =
    let s = setup_of c.args.setup in
    start-leads s c.args.clock c.args.setup.modulus c.args.buf.now (limits (goal.at.loop-i-init c).Start) c.requires.buf_value.0 c.rank_wait.result (decode c.args.setup.epsilon c.args.frame.now) c.requires.buf_value.1.0 c.requires.buf_value.1.1 (starts-at s c.args.clock c.args.buf.now (limits (goal.at.loop-i-init c).Start) c.requires.starts_value c.rank_wait.result (inside (goal.at.loop-i-init c).After-rank_wait)) (omega (arith, place (goal.at.loop-i-init c).After-rank_wait, due-is (goal.at.loop-i-init c).Start))

pub slice_bounds-frame_end-count : goal.slice_bounds-frame_end-count
slice_bounds-frame_end-count c = seek-inside c.loop-i.invariant c.loop-i-test.true

pub slice_bounds-frame_end-start : goal.slice_bounds-frame_end-start
slice_bounds-frame_end-start c = omega (arith, seek-inside c.loop-i.invariant c.loop-i-test.true)

pub frame_end-requires : goal.frame_end-requires
frame_end-requires c = (limits (goal.at.frame_end-requires c).Start).epsilon-most

pub overflow_add-next : goal.overflow_add-next
overflow_add-next c = omega (arith, seek-next c.loop-i.invariant c.loop-i-test.true c.frame_end.ensures)

pub slice_bounds-frame_before-count : goal.slice_bounds-frame_before-count
slice_bounds-frame_before-count c = omega arith

pub slice_bounds-frame_before-start : goal.slice_bounds-frame_before-start
slice_bounds-frame_before-start c = omega arith

pub slice_bounds-frame_before-end : goal.slice_bounds-frame_before-end
slice_bounds-frame_before-end c = omega (arith, seek-next c.loop-i.invariant c.loop-i-test.true c.frame_end.ensures)

pub frame_before-requires : goal.frame_before-requires
frame_before-requires c =
    let read = c.rank_at-rank in
    let counts = counts-decoded c.args.setup.epsilon c.args.frame.now refl in
    let ok = seek-passes c.loop-i.invariant c.loop-i-test.true c.frame_end.ensures in
    record { setup_value = c.requires.setup_value; f_value = (ok, ranked (setup_of c.args.setup) c.args.clock c.args.frame.now _ read.result (limits (goal.at.frame_before-requires c).Start) (passed (goal.at.frame_before-requires c).Start) counts (own-rank (goal.at.frame_before-requires c).After-rank_at-rank)) }

pub returns-then-not-frame_before : goal.returns-then-not-frame_before
unfolding place_for
returns-then-not-frame_before c =
    let read = c.rank_at-rank in
    let counts = counts-decoded c.args.setup.epsilon c.args.frame.now refl in
    let tested = before-rank (setup_of c.args.setup) c.args.clock _ (decode c.args.setup.epsilon c.args.frame.now) read.result _ (own-rank (goal.at.returns-then-not-frame_before c).After-rank_at-rank) counts c.frame_before.ensures in
    seek-place (setup_of c.args.setup) c.loop-i.invariant c.requires.buf_value.1.1
    (seek-stops c.loop-i.invariant c.loop-i-test.true c.frame_end.ensures tested c.if-not-frame_before.true-raw)

pub overflow_add-i : goal.overflow_add-i
overflow_add-i c = omega arith

pub loop-i-smaller : goal.loop-i-smaller
loop-i-smaller c = omega arith

pub loop-i-preserved : goal.loop-i-preserved
loop-i-preserved c =
    let read = c.rank_at-rank in
    let counts = counts-decoded c.args.setup.epsilon c.args.frame.now refl in
    let tested = before-rank (setup_of c.args.setup) c.args.clock _ (decode c.args.setup.epsilon c.args.frame.now) read.result _ (own-rank (goal.at.loop-i-preserved c).After-rank_at-rank) counts c.frame_before.ensures in
    seek-turns c.loop-i.invariant c.loop-i-test.true c.frame_end.ensures tested c.if-not-frame_before.false-raw

pub returns : goal.returns
unfolding place_for
returns c = seek-place (setup_of c.args.setup) c.loop-i.invariant c.requires.buf_value.1.1 (seek-ends c.loop-i.invariant c.loop-i-test.false)
