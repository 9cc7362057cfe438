-- `holdback::soundness::walk_frames` meets its contract. The invariant of the loop: the frames so far are sound, the table of origins has theirs, and the largest entry up to a place of the table of starts is that of the frames so far. The measure is what is left of the count. Assumes nothing.
use Rattle.std.proofs.Common.{◌-◌, ◌≤◌}
use Rattle.setup.specs.Views.{setup_of}
use Rattle.holdback.specs.Sound.{Walking}
use Rattle.holdback.proofs.Walks.{Ending}
use Rattle.holdback.proofs.soundness.walk_frames.Given as goal

abbrev pub invariant-loop-i : goal.invariant-loop-i
invariant-loop-i l = Walking (setup_of l.setup) l.clock l.least l.buf l.seen l.i l.last l.at × (Ending (setup_of l.setup) l.clock l.buf l.i l.starts × (l.i ≤ l.count))

abbrev pub decreases-loop-i : goal.decreases-loop-i
decreases-loop-i l = l.count - l.i
