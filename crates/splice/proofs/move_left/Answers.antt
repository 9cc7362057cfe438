-- `splice::move_left` meets its contract. A part that is pasted where it stands changes nothing. The invariant of its loop: the first `done` bytes of
-- the part are pasted. The chunk that a turn reads, and what `move_rest` is left with, is past them, and as it was. The measure is how many are left.
-- Assumes nothing.
use mathlib.Core.Path.{◌∙◌}
use mathlib.Core.Logic.{inr}
use Prim.Native.Nat.{◌+◌, ◌-◌, zero-le}
use native.Mathlib.Omega.{arith}
use Rattle.splice.proofs.Laws.{outside, pasted-own, moving-starts, moves-right, moving-ends-right}
use Rattle.splice.proofs.move_left.Goals as goal

pub returns-then-to-from : goal.returns-then-to-from
returns-then-to-from c =
    let args = c.args in
    pasted-own args.buf.now args.from args.to args.len c.if-to-from.true (omega arith)

pub loop-done-init : goal.loop-done-init
loop-done-init c =
    let args = c.args in
    (zero-le, moving-starts args.buf.now args.from args.to args.len c.requires.1 0 (omega arith) zero-le)

pub loop-done-preserved : goal.loop-done-preserved
loop-done-preserved c =
    let args = c.args in
    let done = c.loop-done.done in
    let now = c.loop-done.invariant.1 in (
      omega arith,
      moves-right args.buf.now args.from args.to args.len (omega arith) now done 1024
          (c.chunk_at-chunk.ensures ∙ outside now (args.from + done) 1024 (omega arith) (inr (omega arith)))
          c.copy_bytes.ensures
          zero-le
          (omega arith)
          (omega arith)
          (omega arith),
    )

pub returns : goal.returns
returns c =
    let args = c.args in
    let done = c.loop-done.done in
    let now = c.loop-done.invariant.1 in
    moving-ends-right args.buf.now args.from args.to args.len (omega arith) now done (args.len - done)
    (outside now (args.from + done) (args.len - done) (omega arith) (inr (omega arith)))
    c.move_rest.ensures
    zero-le
    (omega arith)
    (omega arith)
