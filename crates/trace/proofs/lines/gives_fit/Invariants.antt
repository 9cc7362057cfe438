-- `trace::lines::gives_fit` meets its contract. The invariant of its loop: the lines that are left fit the room that is left exactly if all fit, and
-- the frames that are left pass 10 to 12. Assumes nothing.
use Prim.Native.Nat.{◌+◌, ◌*◌, ◌≤◌}
use mathlib.Core.Path.{◌≡◌}
use lib.Dec.{leb}
use lib.ListN.{length}
use Rattle.setup.specs.Views.{setup_of}
use Rattle.trace.specs.Text.{give_lines}
use Rattle.trace.proofs.Giving.{give_lines_from, Passing}
use Rattle.trace.proofs.lines.gives_fit.Given as goal

abbrev pub invariant-loop-left : goal.invariant-loop-left
invariant-loop-left l =
    (leb (length (give_lines (setup_of l.setup) l.clock l.delivery)) l.room ≡ leb (length (give_lines_from (setup_of l.setup) l.clock l.delivery l.left l.last l.at)) l.room_left)
    × (Passing (setup_of l.setup) l.clock l.delivery l.left l.last l.at × (l.at + 512 * l.left ≤ 2 + 512 * 65535))

abbrev pub decreases-loop-left : goal.decreases-loop-left
decreases-loop-left l = l.left
