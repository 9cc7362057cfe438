-- `rehearsal::closing::put_figures` meets its contract. The invariant of its loop: the first i lines are written. Assumes nothing.
use Prim.Native.Nat.{◌*◌, ◌-◌, ◌≤◌}
use mathlib.Core.Path.{◌≡◌}
use lib.ListN.{length}
use Rattle.text.specs.Text.{Put}
use Rattle.rehearsal.proofs.Figuring.{lines_to}
use Rattle.rehearsal.proofs.closing.put_figures.Given as goal

abbrev pub invariant-loop-i : goal.invariant-loop-i
invariant-loop-i l = Put l.initial.buf 0 (lines_to l.figures l.i) l.buf l.end × ((length l.buf ≡ length l.initial.buf) × ((l.end ≤ 24 * l.i) × (l.i ≤ 7)))

abbrev pub decreases-loop-i : goal.decreases-loop-i
decreases-loop-i l = 7 - l.i
