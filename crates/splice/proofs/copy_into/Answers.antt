-- `splice::copy_into` meets its contract. The invariant of its loop: the first `done` bytes of `src` are pasted. The measure is what is left of `src`.
-- The last block begins in what is pasted. Assumes nothing.
use Prim.Native.Nat.{◌-◌, zero-le}
use native.Mathlib.Omega.{arith}
use lib.ListN.{length}
use Rattle.splice.proofs.Laws.{starts, joins-right, ends}
use Rattle.splice.proofs.copy_into.Goals as goal

pub loop-done-init : goal.loop-done-init
loop-done-init c = starts c.args.dst.now c.args.at c.args.src.now 0 c.requires zero-le

pub loop-done-preserved : goal.loop-done-preserved
loop-done-preserved c =
    joins-right c.loop-done.invariant c.loop-done.done 16 c.block_at-block.ensures c.copy_bytes-in-loop-done.ensures zero-le (omega arith) (omega arith)
    (omega arith)

pub returns : goal.returns
returns c =
    let size = length c.args.src.now in
    ends
    (joins-right c.loop-done.invariant (size - 16) 16 c.block_at-last.ensures c.copy_bytes-2.ensures zero-le (omega arith) (omega arith) (omega arith))
    zero-le
    (omega arith)
