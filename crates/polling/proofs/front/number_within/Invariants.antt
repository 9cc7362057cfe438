-- `polling::front::number_within` meets its contract. The invariant of the loop: every frame passed is due at most d ticks after v, and the next one starts at `at`. The measure is what is left of the count. Assumes nothing.
use Prim.Native.Nat.{◌-◌}
use Rattle.model.specs.Frame.{decode, frame_end}
use Rattle.model.specs.Holdback.{passes}
use Rattle.model.specs.Poll.{due_within}
use Rattle.setup.specs.Views.{setup_of}
use Rattle.lemmas.proofs.FrameWalk.{Seeking}
use Rattle.polling.proofs.front.number_within.Given as goal

abbrev pub invariant-loop-number : goal.invariant-loop-number
invariant-loop-number l = Seeking (frame_end l.setup.epsilon) (decode l.setup.epsilon) (passes (setup_of l.setup)) (due_within (setup_of l.setup) l.clock l.d) l.buf 2 l.count l.number l.at

abbrev pub decreases-loop-number : goal.decreases-loop-number
decreases-loop-number l = l.count - l.number
