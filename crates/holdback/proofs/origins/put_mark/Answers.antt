-- `holdback::origins::put_mark` meets its contract: the place's bit is 0, and one store adds it. Assumes nothing.
use Rattle.std.proofs.Common.{◌/◌, arith}
use Rattle.holdback.specs.Seen.{word_length}
use Rattle.holdback.proofs.Bits.{mark-fits, mark_set}
use Rattle.holdback.proofs.origins.put_mark.Goals as goal

pub overflow_add-seen : goal.overflow_add-seen
overflow_add-seen c =
    let i = c.args.i in
    omega (arith, mark-fits c.args.seen.now i (omega (arith, c.slice_known-1.given (i / word_length))) c.requires.1.1)

pub returns : goal.returns
returns c = mark_set c.args.seen.now c.args.i
