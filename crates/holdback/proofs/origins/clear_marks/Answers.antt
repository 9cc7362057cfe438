-- `holdback::origins::clear_marks` meets its contract. The invariant of its loop: `k` zeros are pasted. The measure is how many are left. Assumes nothing.
use Rattle.std.proofs.Common.{◌<◌, sym, ap, ◌∙◌, zero-le, zero-add, arith}
use lib.ListN.{get_or-replicate}
use Rattle.splice.specs.Bytes.{zeros, cleared}
use Rattle.splice.proofs.Laws.{starts, grows-right, ends, length-zeros}
use Rattle.holdback.specs.Seen.{table_length}
use Rattle.holdback.proofs.Changes.{all-cleared}
use Rattle.holdback.proofs.origins.clear_marks.Goals as goal

pub loop-k-init : goal.loop-k-init
loop-k-init c = starts c.args.seen.now 0 (zeros table_length) 0 (omega (arith, length-zeros table_length)) zero-le

pub loop-k-preserved : goal.loop-k-preserved
loop-k-preserved c =
    let loop = c.loop-k in
    let more : loop.k < table_length = omega (arith, c.loop-k-test.true, loop.invariant.as_long) in
    rw (zero-add loop.k) at (grows-right loop.invariant {x = 0} (sym (get_or-replicate table_length loop.k 0 0 more)) (omega (arith, length-zeros table_length)))

pub returns : goal.returns
returns c =
    ends c.loop-k.invariant zero-le (omega (arith, length-zeros table_length))
    ∙ ap (cleared c.args.seen.now 0) (sym c.requires) ∙ all-cleared c.args.seen.now ∙ ap zeros c.requires
