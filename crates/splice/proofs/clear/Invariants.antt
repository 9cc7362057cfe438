-- `splice::clear` meets its contract. The invariant of its loop: `k` zeros are pasted. The measure is how many are left. Assumes nothing.
use Prim.Native.Nat.{◌-◌}
use Rattle.splice.specs.Bytes.{zeros}
use Rattle.splice.proofs.Laws.{Pasting}
use Rattle.splice.proofs.clear.Given as goal

abbrev pub invariant-loop-k : goal.invariant-loop-k
invariant-loop-k l = Pasting l.initial.buf l.from (zeros l.len) 0 l.k l.buf

abbrev pub decreases-loop-k : goal.decreases-loop-k
decreases-loop-k l = l.len - l.k
