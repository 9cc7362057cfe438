-- `splice::copy_bytes` meets its contract. The invariant of its loop: the first `i` bytes of `src` are pasted. The measure is what is left of `src`.
-- Assumes nothing.
use Prim.Native.Nat.{◌-◌}
use Rattle.splice.proofs.Laws.{Pasting}
use Rattle.splice.proofs.copy_bytes.Given as goal

abbrev pub invariant-loop-i : goal.invariant-loop-i
invariant-loop-i l = Pasting l.initial.dst l.at l.src 0 l.i l.dst

abbrev pub decreases-loop-i : goal.decreases-loop-i
decreases-loop-i l = l.n - l.i
