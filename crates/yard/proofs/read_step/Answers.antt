-- `yard::read_step` meets its contract. The invariant of its loop: the bytes so far are of one step, which ends no earlier than they say. Assumes nothing.
use Prim.Native.Nat.{◌+◌, ◌-◌, ◌≤◌}
use mathlib.Core.Path.{sym}
use native.Mathlib.Omega.{arith}
use lib.ListN.{length}
use lib.Seq.{length-take-le}
use borrow.Rule.Slice.PartMut.{put_mid}
use Rattle.rehearsal.specs.Step.{step_end, longest_step}
use Rattle.rehearsal.proofs.Whole.{never-past}
use Rattle.input.proofs.Coming.{coming-none, coming-all, coming-past, came-few, next-long, came-cut, cut-past, came-more}
use Rattle.yard.proofs.read_step.Given.{Over}
use Rattle.yard.proofs.read_step.Goals.{After-read_next-used}
use Rattle.yard.proofs.read_step.Goals as goal

-- what came has room, and the buffer is as long as it was
few : (g : Over) (c : After-read_next-used g) → c.loop-used.used + c.read_next-used.result ≤ c.loop-used.end
few g c = came-few c.loop-used.invariant c.loop-used-test.true c.read_next-used.new.bytes c.read_next-used.auto.bytes c.read_next-used.result c.read_next-used.ensures.0

pub loop-used-init : goal.loop-used-init
loop-used-init g c = coming-none step_end longest_step c.args.bytes.now c.requires c.step_end-end.ensures

pub slice_bounds-read_next-end : goal.slice_bounds-read_next-end
slice_bounds-read_next-end g c = omega (arith, c.loop-used.invariant.most, c.loop-used.invariant.room, c.loop-used.invariant.long)

pub overflow_add-used : goal.overflow_add-used
overflow_add-used g c = omega (arith, few g (goal.at.overflow_add-used g c).After-read_next-used, c.loop-used.invariant.most)

pub shape_of-bytes-then-used-end : goal.shape_of-bytes-then-used-end
shape_of-bytes-then-used-end g c = next-long c.loop-used.invariant c.loop-used-test.true c.read_next-used.new.bytes c.read_next-used.auto.bytes

pub returns-then-used-end : goal.returns-then-used-end
returns-then-used-end g c = record { came = came-cut c.loop-used.invariant c.loop-used-test.true c.read_next-used.new.bytes c.read_next-used.auto.bytes never-past c.read_next-used.result c.if-used-end.true; rest_unchanged = cut-past c.loop-used.invariant c.loop-used-test.true c.read_next-used.new.bytes c.read_next-used.auto.bytes }

within : (g : Over) (c : After-read_next-used g) → c.loop-used.used + c.read_next-used.result ≤ length (put_mid c.loop-used.used (c.loop-used.end - c.loop-used.used) c.loop-used.bytes c.read_next-used.new.bytes)
within g c = omega (arith, few g c, c.loop-used.invariant.most, c.loop-used.invariant.room, next-long c.loop-used.invariant c.loop-used-test.true c.read_next-used.new.bytes c.read_next-used.auto.bytes)

pub slice_bounds-step_end-end-in-loop-used : goal.slice_bounds-step_end-end-in-loop-used
slice_bounds-step_end-end-in-loop-used g c = within g (goal.at.slice_bounds-step_end-end-in-loop-used g c).After-read_next-used

pub slice_bounds-step_end-end-in-loop-used-2 : goal.slice_bounds-step_end-end-in-loop-used-2
slice_bounds-step_end-end-in-loop-used-2 g c = sym (length-take-le _ _ (within g (goal.at.slice_bounds-step_end-end-in-loop-used-2 g c).After-read_next-used))

pub loop-used-smaller : goal.loop-used-smaller
loop-used-smaller g c = omega (arith, c.loop-used.invariant.room, c.loop-used.invariant.most, few g (goal.at.loop-used-smaller g c).After-read_next-used)

pub loop-used-preserved : goal.loop-used-preserved
loop-used-preserved g c = came-more c.loop-used.invariant c.loop-used-test.true c.read_next-used.new.bytes c.read_next-used.auto.bytes never-past c.read_next-used.result (omega arith) c.if-used-end.false c.step_end-end-in-loop-used.ensures

pub shape_of-bytes : goal.shape_of-bytes
shape_of-bytes g c = c.loop-used.invariant.long

pub returns : goal.returns
returns g c = record { came = coming-all c.loop-used.invariant c.loop-used-test.false; rest_unchanged = coming-past c.loop-used.invariant }
