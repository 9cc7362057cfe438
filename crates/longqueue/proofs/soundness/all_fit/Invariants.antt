-- `longqueue::soundness::all_fit` meets its contract. The invariant of the loop: all frames fit, and end where they do, if those left do. The measure is how many are left. Assumes nothing.
use Rattle.setup.specs.Views.{setup_of}
use Rattle.longqueue.proofs.Judging.{Fitting}
use Rattle.longqueue.proofs.soundness.all_fit.Given as goal

abbrev pub invariant-loop-left : goal.invariant-loop-left
invariant-loop-left l = Fitting (setup_of l.setup) l.clock l.least l.buf l.count l.at l.left

abbrev pub decreases-loop-left : goal.decreases-loop-left
decreases-loop-left l = l.left
