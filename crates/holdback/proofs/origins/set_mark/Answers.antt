-- `holdback::origins::set_mark` meets its contract: the place of the rank is marked. Assumes nothing.
use Rattle.std.proofs.Common.{ap, ◌∙◌}
use Rattle.holdback.specs.Seen.{has_mark, with_mark}
use Rattle.holdback.proofs.origins.set_mark.Goals as goal

pub put_mark-requires : goal.put_mark-requires
put_mark-requires c =
    let place = c.slot in
    (c.requires.seen_len.0, (place.ensures.1, ap (has_mark c.args.seen.now) place.ensures.0 ∙ c.requires.seen_len.1))

pub returns : goal.returns
returns c = c.put_mark.ensures ∙ ap (with_mark c.args.seen.now) c.slot.ensures.0
