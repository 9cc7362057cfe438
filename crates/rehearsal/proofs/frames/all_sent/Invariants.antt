-- `rehearsal::frames::all_sent` meets its contract. Assumes nothing.
use Prim.Native.Nat.{◌-◌, ◌≤◌}
use mathlib.Core.Path.{◌≡◌}
use mathlib.Core.Bool.{true}
use Rattle.laws.specs.Lists.{tab, every}
use Rattle.rehearsal.specs.Step.{is_sent, heard_number}
use Rattle.rehearsal.specs.Views.{sent_of}
use Rattle.rehearsal.proofs.frames.all_sent.Given as goal

abbrev pub invariant-loop-i : goal.invariant-loop-i
invariant-loop-i l = (l.i ≤ l.count) × (every (is_sent (sent_of l.steps l.slots)) (tab l.i (heard_number l.s)) ≡ true)

abbrev pub decreases-loop-i : goal.decreases-loop-i
decreases-loop-i l = l.count - l.i
