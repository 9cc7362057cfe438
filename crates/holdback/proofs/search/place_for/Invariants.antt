-- `holdback::search::place_for` meets its contract. The search starts at the entry for the frame's sum. The invariant of the loop: every frame passed comes before it, and the next one starts at `at`. The measure is what is left of the count. Assumes nothing.
use Rattle.std.proofs.Common.{◌-◌}
use Rattle.model.specs.Frame.{decode, frame_end}
use Rattle.model.specs.Order.{before}
use Rattle.setup.specs.Views.{setup_of}
use Rattle.model.specs.Holdback.{passes}
use Rattle.lemmas.proofs.FrameWalk.{Seeking}
use Rattle.holdback.proofs.search.place_for.Given as goal

abbrev pub invariant-loop-i : goal.invariant-loop-i
invariant-loop-i l = Seeking (frame_end l.setup.epsilon) (decode l.setup.epsilon) (passes (setup_of l.setup)) (λ g. before (setup_of l.setup) l.clock g (decode l.setup.epsilon l.frame)) l.buf 2 l.count l.i l.at

abbrev pub decreases-loop-i : goal.decreases-loop-i
decreases-loop-i l = l.count - l.i
