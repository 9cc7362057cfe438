-- `splice::move_right` meets its contract. The invariant of its loop: the bytes of the part from index `rest` on are pasted. The block that a turn reads
-- is before them, and as it was. The first block ends in what is pasted. The measure is `rest`. Assumes nothing.
use mathlib.Core.Path.{◌∙◌}
use mathlib.Core.Logic.{inl}
use Prim.Native.Nat.{◌+◌, ◌-◌}
use native.Mathlib.Omega.{arith}
use Rattle.splice.proofs.Laws.{outside, moving-starts, moves-left, moving-ends-left}
use Rattle.splice.proofs.move_right.Goals as goal

pub loop-rest-init : goal.loop-rest-init
loop-rest-init c =
    let args = c.args in
    moving-starts args.buf.now args.from args.to args.len (omega arith) args.len c.requires.1 (omega arith)

pub loop-rest-preserved : goal.loop-rest-preserved
loop-rest-preserved c =
    let args = c.args in
    let rest = c.loop-rest.rest - 16 in
    moves-left args.buf.now args.from args.to args.len (omega arith) c.loop-rest.invariant rest 16
    (c.block_at-block.ensures ∙ outside c.loop-rest.invariant (args.from + rest) 16 (omega arith) (inl (omega arith)))
    c.copy_bytes.ensures
    (omega arith)
    (omega arith)
    (omega arith)

pub returns : goal.returns
returns c =
    let args = c.args in
    moving-ends-left args.buf.now args.from args.to args.len (omega arith) c.loop-rest.invariant 16
    c.block_at-first.ensures
    c.copy_bytes-2.ensures
    (omega arith)
    (omega arith)
    (omega arith)
