-- `splice::copy_bytes` meets its contract. The invariant of its loop: the first `i` bytes of `src` are pasted. The measure is what is left of `src`.
-- Assumes nothing.
use mathlib.Core.Path.{refl}
use Prim.Native.Nat.{zero-le}
use native.Mathlib.Omega.{arith}
use Rattle.splice.proofs.Laws.{starts, grows-right, ends}
use Rattle.splice.proofs.copy_bytes.Goals as goal

pub loop-i-init : goal.loop-i-init
loop-i-init c = starts c.args.dst.now c.args.at c.args.src.now 0 c.requires zero-le

pub loop-i-preserved : goal.loop-i-preserved
loop-i-preserved c = grows-right c.loop-i.invariant refl (omega arith)

pub returns : goal.returns
returns c = ends c.loop-i.invariant zero-le (omega arith)
