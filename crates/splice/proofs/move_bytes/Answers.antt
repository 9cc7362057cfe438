-- `splice::move_bytes` meets its contract. The invariant of its loop: the first `done` bytes of
-- the part are pasted. The byte that a turn reads is past them, and as it was. The measure is how many are left. Assumes nothing.
use mathlib.Core.Logic.{inr}
use Prim.Native.Nat.{zero-le}
use native.Mathlib.Omega.{arith}
use Rattle.splice.proofs.Laws.{grows-right, length_part, moving-starts, unmoved, moving-ends}
use Rattle.splice.proofs.move_bytes.Goals as goal

pub loop-done-init : goal.loop-done-init
loop-done-init c =
    let args = c.args in
    moving-starts args.buf.now args.from args.to args.len c.requires.1 0 (omega arith) zero-le

pub loop-done-preserved : goal.loop-done-preserved
loop-done-preserved c =
    let args = c.args in
    let size = length_part args.buf.now args.from args.len (omega arith) in
    grows-right c.loop-done.invariant
    (unmoved args.buf.now args.from args.to args.len (omega arith) c.loop-done.invariant c.loop-done.done (omega arith) (inr (omega arith)))
    (omega arith)

pub returns : goal.returns
returns c =
    let args = c.args in
    moving-ends args.buf.now args.from args.to args.len (omega arith) c.loop-done.invariant zero-le c.loop-done-test.false
