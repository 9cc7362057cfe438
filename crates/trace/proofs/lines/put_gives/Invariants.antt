-- `trace::lines::put_gives` meets its contract. The invariant of its loop: the give lines from the next frame on are still to be written, and these frames
-- pass 10 to 12. Assumes nothing.
use Prim.Native.Nat.{◌+◌, ◌*◌, ◌≤◌}
use Rattle.setup.specs.Views.{setup_of}
use Rattle.trace.specs.Text.{give_lines}
use Rattle.text.proofs.Putting.{Ahead}
use Rattle.trace.proofs.Giving.{give_lines_from, Passing}
use Rattle.trace.proofs.lines.put_gives.Given as goal

abbrev pub invariant-loop-left : goal.invariant-loop-left
invariant-loop-left l =
    Ahead l.initial.buf l.from (give_lines (setup_of l.setup) l.clock l.delivery) l.buf l.end (give_lines_from (setup_of l.setup) l.clock l.delivery l.left l.last l.at)
    × (Passing (setup_of l.setup) l.clock l.delivery l.left l.last l.at × (l.at + 512 * l.left ≤ 2 + 512 * 65535))

abbrev pub decreases-loop-left : goal.decreases-loop-left
decreases-loop-left l = l.left
