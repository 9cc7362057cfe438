-- `widerqueue::due::front_before` meets its contract. The invariant of the loop: every frame passed is due before the limit, and the next one starts at `at`. The measure is what is left of the count. Assumes nothing.
use Prim.Native.Nat.{◌-◌}
use Rattle.model.specs.Wider.{wider_decode, wider_end, wider_passes}
use Rattle.pairs.specs.Views.{schedule_of}
use Rattle.lemmas.proofs.FrameWalk.{Seeking}
use Rattle.widerqueue.proofs.Fronts.{due_under}
use Rattle.widerqueue.proofs.due.front_before.Given as goal

abbrev pub invariant-loop-i : goal.invariant-loop-i
invariant-loop-i l = Seeking (wider_end (schedule_of l.p)) (wider_decode (schedule_of l.p)) (wider_passes (schedule_of l.p)) (due_under (schedule_of l.p) l.clock l.limit) l.buf 2 l.count l.i l.at

abbrev pub decreases-loop-i : goal.decreases-loop-i
decreases-loop-i l = l.count - l.i
