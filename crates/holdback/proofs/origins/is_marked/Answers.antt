-- `holdback::origins::is_marked` meets its contract: the place of the rank is looked up. Assumes nothing.
use Rattle.std.proofs.Common.{ap, ◌∙◌}
use Rattle.holdback.specs.Seen.{has_mark}
use Rattle.holdback.proofs.origins.is_marked.Goals as goal

pub has_mark-requires : goal.has_mark-requires
has_mark-requires c = (c.requires.seen_len, c.slot.ensures.1)

pub returns : goal.returns
returns c = c.has_mark.ensures ∙ ap (has_mark c.args.seen.now) c.slot.ensures.0
