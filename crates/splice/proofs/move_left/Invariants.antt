-- `splice::move_left` meets its contract. A part that is pasted where it stands changes nothing. The invariant of its loop: the first `done` bytes of
-- the part are pasted. The chunk that a turn reads, and what `move_rest` is left with, is past them, and as it was. The measure is how many are left.
-- Assumes nothing.
use Prim.Native.Nat.{◌-◌, ◌≤◌}
use Rattle.splice.specs.Bytes.{part}
use Rattle.splice.proofs.Laws.{Pasting}
use Rattle.splice.proofs.move_left.Given as goal

abbrev pub invariant-loop-done : goal.invariant-loop-done
invariant-loop-done l = (l.done ≤ l.len) × Pasting l.initial.buf l.to (part l.initial.buf l.from l.len) 0 l.done l.buf

abbrev pub decreases-loop-done : goal.decreases-loop-done
decreases-loop-done l = l.len - l.done
