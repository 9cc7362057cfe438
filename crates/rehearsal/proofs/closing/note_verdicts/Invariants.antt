-- `rehearsal::closing::note_verdicts` meets its contract. The invariant of its loop: noting what is left gives what noting all does. Assumes nothing.
use Prim.Native.Nat.{◌-◌, ◌≤◌}
use mathlib.Core.Path.{◌≡◌}
use lib.ListN.{length, drop}
use Rattle.rehearsal.specs.Views.{noted_all}
use Rattle.rehearsal.proofs.closing.note_verdicts.Given as goal

abbrev pub invariant-loop-i : goal.invariant-loop-i
invariant-loop-i l = (noted_all l.step l.initial.after l.verdicts ≡ noted_all l.step l.after (drop l.i l.verdicts)) × (l.i ≤ length l.verdicts)

abbrev pub decreases-loop-i : goal.decreases-loop-i
decreases-loop-i l = length l.verdicts - l.i
