-- `verdicts::all_given` meets its contract. The invariant of its loop: a judgement gives each verdict before `i`. Assumes nothing.
use Prim.Native.Nat.{◌-◌, ◌≤◌}
use mathlib.Core.Path.{◌≡◌}
use mathlib.Core.Bool.{true}
use lib.ListN.{take}
use Rattle.laws.specs.Lists.{every}
use Rattle.model.specs.Verdicts.{given}
use Rattle.verdicts.proofs.all_given.Given as goal

abbrev pub invariant-loop-i : goal.invariant-loop-i
invariant-loop-i l = (l.i ≤ l.count) × (every given (take l.i l.verdicts) ≡ true)

abbrev pub decreases-loop-i : goal.decreases-loop-i
decreases-loop-i l = l.count - l.i
