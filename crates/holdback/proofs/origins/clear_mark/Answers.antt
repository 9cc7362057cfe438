-- `holdback::origins::clear_mark` meets its contract: the place's bit is 1, and one store takes it away. Assumes nothing.
use Rattle.std.proofs.Common.{ap, ◌∙◌}
use Rattle.holdback.specs.Seen.{has_mark, without_mark}
use Rattle.holdback.proofs.Bits.{mark-there, mark-cleared}
use Rattle.holdback.proofs.origins.clear_mark.Goals as goal

pub overflow_sub-seen : goal.overflow_sub-seen
overflow_sub-seen c = mark-there c.args.seen.now c.slot-i.result (ap (has_mark c.args.seen.now) c.slot-i.ensures.0 ∙ c.requires.seen_len.1)

pub returns : goal.returns
returns c =
    let table = c.args.seen.now in
    mark-cleared table c.slot-i.result ∙ ap (without_mark table) c.slot-i.ensures.0
