-- `longqueue::origins::all_apart` meets its contract. The invariant of the loop: all frames are apart if those left are. The measure is how many are left. Assumes nothing.
use native.Mathlib.Omega.{arith}
use Rattle.laws.specs.Lists.{apart}
use Rattle.model.specs.Holdback.{same_origin}
use Rattle.lemmas.proofs.FrameWalk.{walk_inside, walk-next, walk-passes, walk-rest}
use Rattle.longqueue.proofs.Searching.{asked-starts, asked-found, asked-turns, asked-ends, apart-found, apart-passed, origin-there}
use Rattle.longqueue.proofs.origins.all_apart.Goals as goal

pub loop-left-init : goal.loop-left-init
loop-left-init c = asked-starts (apart same_origin) c.requires.standing

pub slice_bounds-frame_end-count : goal.slice_bounds-frame_end-count
slice_bounds-frame_end-count c = walk_inside c.loop-left.invariant.walk c.loop-left-test.true

pub slice_bounds-frame_end-start : goal.slice_bounds-frame_end-start
slice_bounds-frame_end-start c = omega (arith, walk_inside c.loop-left.invariant.walk c.loop-left-test.true)

pub overflow_add-next : goal.overflow_add-next
overflow_add-next c = omega (arith, walk-next c.loop-left.invariant.walk c.loop-left-test.true c.frame_end.ensures)

pub slice_bounds-origin_among-end : goal.slice_bounds-origin_among-end
slice_bounds-origin_among-end c = omega (arith, walk-next c.loop-left.invariant.walk c.loop-left-test.true c.frame_end.ensures)

pub origin_among-requires : goal.origin_among-requires
origin_among-requires c = record { epsilon_bound = (c.requires.epsilon_bound, origin-there c.args.epsilon _ (walk-passes c.loop-left.invariant.walk c.loop-left-test.true c.frame_end.ensures)); standing = walk-rest c.loop-left.invariant.walk c.loop-left-test.true c.frame_end.ensures }

pub returns-then-origin_among : goal.returns-then-origin_among
returns-then-origin_among c = asked-found c.loop-left.invariant c.loop-left-test.true c.frame_end.ensures (apart-found _ _ c.origin_among.ensures c.if-origin_among.true)

pub loop-left-preserved : goal.loop-left-preserved
loop-left-preserved c = asked-turns c.loop-left.invariant c.loop-left-test.true c.frame_end.ensures (apart-passed _ _ c.origin_among.ensures c.if-origin_among.false)

pub returns : goal.returns
unfolding apart
returns c = asked-ends c.loop-left.invariant (omega arith)
