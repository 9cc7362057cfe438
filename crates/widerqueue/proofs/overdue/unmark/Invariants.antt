-- `widerqueue::overdue::unmark` meets its contract. The invariant of the loop: the table of origins has those of the frames from the next one on, which starts at `at`. The measure is what is left of them. Assumes nothing.
use Prim.Native.Nat.{◌-◌}
use Rattle.pairs.specs.Views.{schedule_of}
use Rattle.widerqueue.specs.Overdue.{SoundBy}
use Rattle.widerqueue.proofs.Releasing.{Unmarking}
use Rattle.widerqueue.proofs.overdue.unmark.Given as goal

abbrev pub invariant-loop-i : goal.invariant-loop-i
invariant-loop-i l = (sound : SoundBy (schedule_of l.p) l.clock l.buf) × Unmarking (schedule_of l.p) l.clock sound.least l.buf l.seen l.index l.i l.at

abbrev pub decreases-loop-i : goal.decreases-loop-i
decreases-loop-i l = l.index - l.i
