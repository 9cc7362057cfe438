-- `trace::parse::tick_end` meets its contract. The invariant of its loop: where the entries that are left end, the tick ends. Assumes nothing.
use Prim.Native.Nat.{◌+◌, ◌*◌, ◌≤◌}
use mathlib.Core.Path.{◌≡◌}
use lib.ListN.{drop}
use Rattle.trace.specs.Trace.{tick_end, entries_size}
use Rattle.trace.proofs.parse.tick_end.Given as goal

abbrev pub invariant-loop-left : goal.invariant-loop-left
invariant-loop-left l = (tick_end l.s ≡ l.end + entries_size l.left (drop l.end l.s)) × (l.end + 256 * l.left ≤ 65540)

abbrev pub decreases-loop-left : goal.decreases-loop-left
decreases-loop-left l = l.left
