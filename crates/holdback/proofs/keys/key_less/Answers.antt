-- `holdback::keys::key_less` meets its contract: each number decides unless it is the same, from the last to the first. Assumes nothing.
use Rattle.std.proofs.Common.{[]}
use Rattle.holdback.proofs.Keyed.{tie-decides, none-tied, all-decided}
use Rattle.holdback.proofs.keys.key_less.Goals as goal

pub decide-by_older-requires : goal.decide-by_older-requires
decide-by_older-requires c = (c.decide-by_slot.ensures.1, c.requires.older-below)

pub decide-by_newest-requires : goal.decide-by_newest-requires
decide-by_newest-requires c = (c.decide-by_older.ensures.1, c.requires.newest-below)

pub decide-requires : goal.decide-requires
decide-requires c = (c.decide-by_newest.ensures.1, c.requires.sum_below)

pub returns : goal.returns
returns c =
    let f = c.args.f in
    let g = c.args.g in
    let slots = tie-decides f.slot g.slot [] [] none-tied c.decide-by_slot.ensures.0 in
    let older = tie-decides f.older g.older _ _ slots c.decide-by_older.ensures.0 in
    let newest = tie-decides f.newest g.newest _ _ older c.decide-by_newest.ensures.0 in
    all-decided f g (tie-decides f.sum g.sum _ _ newest c.decide.ensures.0)
