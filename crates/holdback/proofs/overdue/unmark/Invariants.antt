-- `holdback::overdue::unmark` meets its contract. The invariant of the loop: the table of origins has those of the frames from the next one on, which starts at `at`. The measure is what is left of them. Assumes nothing.
use Rattle.std.proofs.Common.{◌-◌}
use Rattle.setup.specs.Views.{setup_of}
use Rattle.holdback.specs.Overdue.{SoundBy}
use Rattle.holdback.proofs.Releasing.{Unmarking}
use Rattle.holdback.proofs.overdue.unmark.Given as goal

abbrev pub invariant-loop-i : goal.invariant-loop-i
invariant-loop-i l = (sound : SoundBy (setup_of l.setup) l.clock l.buf) × Unmarking (setup_of l.setup) l.clock sound.least l.buf l.seen l.index l.i l.at

abbrev pub decreases-loop-i : goal.decreases-loop-i
decreases-loop-i l = l.index - l.i
