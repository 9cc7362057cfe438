-- `splice::block_at` meets its contract. The invariant of its loop: the first `i` bytes are filled in. The measure is how many are left. Assumes nothing.
use Prim.Native.Nat.{◌-◌}
use Rattle.splice.specs.Bytes.{part, zeros}
use Rattle.splice.proofs.Laws.{Pasting}
use Rattle.splice.proofs.block_at.Given as goal

abbrev pub invariant-loop-i : goal.invariant-loop-i
invariant-loop-i l = Pasting (zeros 16) 0 (part l.s l.at 16) 0 l.i l.block

abbrev pub decreases-loop-i : goal.decreases-loop-i
decreases-loop-i l = 16 - l.i
