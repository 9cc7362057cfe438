-- `splice::move_rest` meets its contract. The invariant of its loop: the first `done` bytes of the part are pasted. The block that a turn reads is past
-- them, and as it was. The last block begins in what is pasted. The measure is how many are left. Assumes nothing.
use Prim.Native.Nat.{◌-◌}
use Rattle.splice.specs.Bytes.{part}
use Rattle.splice.proofs.Laws.{Pasting}
use Rattle.splice.proofs.move_rest.Given as goal

abbrev pub invariant-loop-done : goal.invariant-loop-done
invariant-loop-done l = Pasting l.initial.buf l.to (part l.initial.buf l.from l.len) 0 l.done l.buf

abbrev pub decreases-loop-done : goal.decreases-loop-done
decreases-loop-done l = l.len - l.done
