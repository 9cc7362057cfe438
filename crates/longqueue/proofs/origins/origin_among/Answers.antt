-- `longqueue::origins::origin_among` meets its contract. The invariant of the loop: one of all frames has the origin if one of those left has. The measure is how many are left. Assumes nothing.
use native.Mathlib.Omega.{arith}
use Rattle.laws.specs.Lists.{any}
use Rattle.model.specs.Holdback.{same_origin}
use Rattle.model.specs.Long.{long_decode}
use Rattle.lemmas.proofs.FrameWalk.{walk_inside, walk-next, walk-passes}
use Rattle.longqueue.proofs.Searching.{asked-starts, asked-found, asked-turns, asked-ends, any_found, any-passed, origin-there}
use Rattle.longqueue.proofs.origins.origin_among.Goals as goal

pub loop-rest-init : goal.loop-rest-init
loop-rest-init c = asked-starts (any (same_origin (long_decode c.args.epsilon c.args.frame.now))) c.requires.standing

pub slice_bounds-frame_end-count : goal.slice_bounds-frame_end-count
slice_bounds-frame_end-count c = walk_inside c.loop-rest.invariant.walk c.loop-rest-test.true

pub slice_bounds-frame_end-start : goal.slice_bounds-frame_end-start
slice_bounds-frame_end-start c = omega (arith, walk_inside c.loop-rest.invariant.walk c.loop-rest-test.true)

pub overflow_add-next : goal.overflow_add-next
overflow_add-next c = omega (arith, walk-next c.loop-rest.invariant.walk c.loop-rest-test.true c.frame_end.ensures)

pub slice_bounds-same_origin-end : goal.slice_bounds-same_origin-end
slice_bounds-same_origin-end c = omega (arith, walk-next c.loop-rest.invariant.walk c.loop-rest-test.true c.frame_end.ensures)

pub same_origin-requires : goal.same_origin-requires
same_origin-requires c =
    let formed = walk-passes c.loop-rest.invariant.walk c.loop-rest-test.true c.frame_end.ensures in
    (c.requires.epsilon_bound.1, origin-there c.args.epsilon _ formed)

pub returns-then-same_origin : goal.returns-then-same_origin
returns-then-same_origin c =
    asked-found c.loop-rest.invariant c.loop-rest-test.true c.frame_end.ensures
    (any_found (same_origin (long_decode c.args.epsilon c.args.frame.now)) _ _ (c.same_origin.ensures c.args.epsilon) c.if-same_origin.true)

pub loop-rest-preserved : goal.loop-rest-preserved
loop-rest-preserved c =
    asked-turns c.loop-rest.invariant c.loop-rest-test.true c.frame_end.ensures
    (any-passed (same_origin (long_decode c.args.epsilon c.args.frame.now)) _ _ (c.same_origin.ensures c.args.epsilon) c.if-same_origin.false)

pub returns : goal.returns
unfolding any
returns c = asked-ends c.loop-rest.invariant (omega arith)
