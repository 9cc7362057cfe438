-- `rehearsal::labels::put_labelled` meets its contract. The invariant of its loop: the text from the next byte on is still to be written. Assumes nothing.
use Prim.Native.Nat.{◌-◌, ◌≤◌}
use lib.ListN.{length, drop}
use Rattle.text.proofs.Putting.{Ahead}
use Rattle.rehearsal.specs.Group.{labelled_from, labelled}
use Rattle.rehearsal.specs.Views.{label_of}
use Rattle.rehearsal.proofs.labels.put_labelled.Given as goal

abbrev pub invariant-loop-i : goal.invariant-loop-i
invariant-loop-i l = Ahead l.initial.out 0 (labelled l.station l.text) l.out l.end (labelled_from l.starts (label_of l.station) (drop l.i l.text)) × (l.i ≤ length l.text)

abbrev pub decreases-loop-i : goal.decreases-loop-i
decreases-loop-i l = length l.text - l.i
