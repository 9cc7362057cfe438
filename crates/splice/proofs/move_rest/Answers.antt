-- `splice::move_rest` meets its contract. The invariant of its loop: the first `done` bytes of the part are pasted. The block that a turn reads is past
-- them, and as it was. The last block begins in what is pasted. The measure is how many are left. Assumes nothing.
use mathlib.Core.Path.{◌∙◌}
use mathlib.Core.Logic.{inr}
use Prim.Native.Nat.{◌+◌, ◌-◌, zero-le}
use native.Mathlib.Omega.{arith}
use Rattle.splice.proofs.Laws.{outside, moving-starts, moves-right, moving-ends-right}
use Rattle.splice.proofs.move_rest.Goals as goal

pub loop-done-init : goal.loop-done-init
loop-done-init c =
    let args = c.args in
    moving-starts args.buf.now args.from args.to args.len c.requires.1 0 (omega arith) zero-le

pub loop-done-preserved : goal.loop-done-preserved
loop-done-preserved c =
    let args = c.args in
    let done = c.loop-done.done in
    moves-right args.buf.now args.from args.to args.len (omega arith) c.loop-done.invariant done 16
    (c.block_at-block.ensures ∙ outside c.loop-done.invariant (args.from + done) 16 (omega arith) (inr (omega arith)))
    c.copy_bytes.ensures
    zero-le
    (omega arith)
    (omega arith)
    (omega arith)

pub returns : goal.returns
returns c =
    let args = c.args in
    moving-ends-right args.buf.now args.from args.to args.len (omega arith) c.loop-done.invariant (args.len - 16) 16
    c.block_at-last.ensures
    c.copy_bytes-2.ensures
    zero-le
    (omega arith)
    (omega arith)
