-- `widerqueue::soundness::walk_frames` meets its contract. The invariant of the loop: the frames so far are sound, and the table of origins has theirs. The measure is what is left of the count. Assumes nothing.
use Prim.Native.Nat.{◌-◌, ◌≤◌}
use Rattle.pairs.specs.Views.{schedule_of}
use Rattle.widerqueue.specs.Sound.{Walking}
use Rattle.widerqueue.proofs.soundness.walk_frames.Given as goal

abbrev pub invariant-loop-i : goal.invariant-loop-i
invariant-loop-i l = Walking (schedule_of l.p) l.clock l.least l.buf l.seen l.i l.last l.at × (l.i ≤ l.count)

abbrev pub decreases-loop-i : goal.decreases-loop-i
decreases-loop-i l = l.count - l.i
