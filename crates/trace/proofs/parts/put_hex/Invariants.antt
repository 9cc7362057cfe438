-- `trace::parts::put_hex` meets its contract. The invariant of its loop: the digits of the first bytes are written. Assumes nothing.
use Prim.Native.Nat.{◌-◌}
use lib.ListN.{length}
use Rattle.trace.proofs.Putting.{Hexing}
use Rattle.trace.proofs.parts.put_hex.Given as goal

abbrev pub invariant-loop-i : goal.invariant-loop-i
invariant-loop-i l = Hexing l.initial.buf l.at l.bytes l.i l.buf l.end

abbrev pub decreases-loop-i : goal.decreases-loop-i
decreases-loop-i l = length l.bytes - l.i
