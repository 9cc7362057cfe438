-- `rehearsal::ticks::put_entries` meets its contract. The invariant of its loop: the entries from the next frame on are still to be written. Assumes nothing.
use Prim.Native.Nat.{◌-◌, ◌≤◌}
use Rattle.laws.specs.Lists.{joined}
use Rattle.text.proofs.Putting.{Ahead}
use Rattle.rehearsal.specs.Step.{heard_frames}
use Rattle.rehearsal.specs.Views.{sent_of, entry_of}
use Rattle.rehearsal.proofs.Entries.{entries_from}
use Rattle.rehearsal.proofs.ticks.put_entries.Given as goal

abbrev pub invariant-loop-i : goal.invariant-loop-i
invariant-loop-i l = Ahead l.initial.out l.at (joined entry_of (heard_frames (sent_of l.steps l.slots) l.s)) l.out l.end (entries_from (sent_of l.steps l.slots) l.s l.i) × (l.i ≤ l.count)

abbrev pub decreases-loop-i : goal.decreases-loop-i
decreases-loop-i l = l.count - l.i
