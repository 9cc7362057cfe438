-- `holdback::origins::mark` meets its contract: the place of its rank is marked. Assumes nothing.
use Rattle.std.proofs.Common.{◌≡◌, ap, ◌∙◌}
use Rattle.setup.specs.Views.{setup_of}
use Rattle.lemmas.proofs.Questions.{limits-from}
use Rattle.model.specs.Frame.{decode}
use Rattle.holdback.specs.Seen.{rank_slot, slot_of, has_mark, with_mark, is_marked, marked}
use Rattle.holdback.proofs.Seen.{within, rank-slot}
use Rattle.holdback.specs.Queue.{rank_of}
use Rattle.holdback.proofs.Testing.{rank-read}
use Rattle.holdback.proofs.origins.mark.Goals.{After-rank_at}
use Rattle.holdback.proofs.origins.mark.Goals as goal

-- the rank with the reading that is handed on
ranked : (c : After-rank_at) → c.rank_at.result ≡ rank_of (setup_of c.args.setup) c.args.clock (decode c.args.setup.epsilon c.args.frame.now)
ranked c = rank-read (setup_of c.args.setup) c.args.clock (decode c.args.setup.epsilon c.args.frame.now) c.args.reading (c.rank_at.ensures c.args.setup.epsilon) c.requires.seen_len.1

-- its place is the frame's
placed : (c : After-rank_at) → rank_slot (setup_of c.args.setup) c.rank_at.result ≡ slot_of (setup_of c.args.setup) c.args.clock (decode c.args.setup.epsilon c.args.frame.now)
placed c = rank-slot (setup_of c.args.setup) c.args.clock (decode c.args.setup.epsilon c.args.frame.now) c.rank_at.result (ranked c)

pub set_mark-requires : goal.set_mark-requires
unfolding is_marked
set_mark-requires c =
    let setup = setup_of c.args.setup in
    let read = c.rank_at in record { setup_value = (c.requires.setup_value.0, within setup c.args.clock (limits-from setup c.requires.setup_value.0) c.requires.setup_value.1 (decode c.args.setup.epsilon c.args.frame.now) read.result c.requires.placeable (ranked (goal.at.set_mark-requires c).After-rank_at)); seen_len = (c.requires.seen_len.0, ap (has_mark c.args.seen.now) (placed (goal.at.set_mark-requires c).After-rank_at) ∙ c.requires.seen_value) }

pub returns : goal.returns
unfolding marked
returns c = c.set_mark.ensures ∙ ap (with_mark c.args.seen.now) (placed (goal.at.returns c).After-rank_at)
