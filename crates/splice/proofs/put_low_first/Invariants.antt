-- `splice::put_low_first` meets its contract. The invariant of its loop: with the bytes of what is left of the number, all are pasted.
-- The measure is how many are left. Assumes nothing.
use Prim.Native.Nat.{◌-◌}
use Rattle.splice.proofs.Laws.{Digits}
use Rattle.splice.proofs.put_low_first.Given as goal

abbrev pub invariant-loop-j : goal.invariant-loop-j
invariant-loop-j l = Digits l.initial.buf l.at l.size l.value l.buf l.rest l.j

abbrev pub decreases-loop-j : goal.decreases-loop-j
decreases-loop-j l = l.size - l.j
