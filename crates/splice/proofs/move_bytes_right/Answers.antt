-- `splice::move_bytes_right` meets its contract. The invariant of its loop: the bytes of the part from index `rest` on are pasted. The byte that a turn reads is
-- before them, and as it was. The measure is `rest`. Assumes nothing.
use mathlib.Core.Logic.{inl}
use Prim.Native.Nat.{◌-◌}
use native.Mathlib.Omega.{arith}
use Rattle.splice.proofs.Laws.{grows-left, moving-starts, unmoved, moving-ends}
use Rattle.splice.proofs.move_bytes_right.Goals as goal

pub loop-rest-init : goal.loop-rest-init
loop-rest-init c =
    let args = c.args in
    moving-starts args.buf.now args.from args.to args.len (omega arith) args.len c.requires.1 (omega arith)

pub loop-rest-preserved : goal.loop-rest-preserved
loop-rest-preserved c =
    let args = c.args in
    grows-left c.loop-rest.invariant
    (unmoved args.buf.now args.from args.to args.len (omega arith) c.loop-rest.invariant (c.loop-rest.rest - 1) (omega arith) (inl (omega arith)))
    (omega arith)

pub returns : goal.returns
returns c =
    let args = c.args in
    moving-ends args.buf.now args.from args.to args.len (omega arith) c.loop-rest.invariant c.loop-rest-test.false (omega arith)
