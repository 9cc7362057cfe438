-- `splice::clear` meets its contract. The invariant of its loop: `k` zeros are pasted. The measure is how many are left. Assumes nothing.
use mathlib.Core.Path.{sym}
use Prim.Native.Nat.{◌-◌, zero-le}
use native.Mathlib.Omega.{arith}
use lib.ListN.{get_or-replicate}
use Rattle.splice.specs.Bytes.{zeros}
use Rattle.splice.proofs.Laws.{starts, grows-right, ends, length-zeros}
use Rattle.splice.proofs.clear.Goals as goal

pub loop-k-init : goal.loop-k-init
loop-k-init c =
    starts c.args.buf.now c.args.from (zeros (c.args.to - c.args.from)) 0
    (omega (arith, length-zeros (c.args.to - c.args.from)))
    zero-le

pub loop-k-preserved : goal.loop-k-preserved
loop-k-preserved c =
    let args = c.args in
    grows-right c.loop-k.invariant (sym (get_or-replicate (args.to - args.from) c.loop-k.k 0 0 c.loop-k-test.true))
    (omega (arith, length-zeros (args.to - args.from)))

pub returns : goal.returns
returns c =
    let args = c.args in
    ends c.loop-k.invariant zero-le (omega (arith, length-zeros (args.to - args.from)))
