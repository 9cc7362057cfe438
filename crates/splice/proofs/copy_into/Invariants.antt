-- `splice::copy_into` meets its contract. The invariant of its loop: the first `done` bytes of `src` are pasted. The measure is what is left of `src`.
-- The last block begins in what is pasted. Assumes nothing.
use Prim.Native.Nat.{◌-◌}
use Rattle.splice.proofs.Laws.{Pasting}
use Rattle.splice.proofs.copy_into.Given as goal

abbrev pub invariant-loop-done : goal.invariant-loop-done
invariant-loop-done l = Pasting l.initial.dst l.at l.src 0 l.done l.dst

abbrev pub decreases-loop-done : goal.decreases-loop-done
decreases-loop-done l = l.n - l.done
