-- `splice::move_bytes_right` meets its contract. The invariant of its loop: the bytes of the part from index `rest` on are pasted. The byte that a turn reads is
-- before them, and as it was. The measure is `rest`. Assumes nothing.
use Rattle.splice.specs.Bytes.{part}
use Rattle.splice.proofs.Laws.{Pasting}
use Rattle.splice.proofs.move_bytes_right.Given as goal

abbrev pub invariant-loop-rest : goal.invariant-loop-rest
invariant-loop-rest l = Pasting l.initial.buf l.to (part l.initial.buf l.from l.len) l.rest l.len l.buf

abbrev pub decreases-loop-rest : goal.decreases-loop-rest
decreases-loop-rest l = l.rest
