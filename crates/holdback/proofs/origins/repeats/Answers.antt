-- `holdback::origins::repeats` meets its contract: the place of its rank is looked up. Assumes nothing.
use Rattle.std.proofs.Common.{◌≡◌, ap, ◌∙◌}
use Rattle.setup.specs.Views.{setup_of}
use Rattle.lemmas.proofs.Questions.{limits-from}
use Rattle.model.specs.Frame.{decode}
use Rattle.holdback.specs.Seen.{has_mark, is_marked}
use Rattle.holdback.proofs.Seen.{within, rank-slot}
use Rattle.holdback.specs.Queue.{rank_of}
use Rattle.holdback.proofs.Testing.{rank-read}
use Rattle.holdback.proofs.origins.repeats.Goals.{After-rank_at}
use Rattle.holdback.proofs.origins.repeats.Goals as goal

-- the rank with the reading that is handed on
ranked : (c : After-rank_at) → c.rank_at.result ≡ rank_of (setup_of c.args.setup) c.args.clock (decode c.args.setup.epsilon c.args.frame.now)
ranked c = rank-read (setup_of c.args.setup) c.args.clock (decode c.args.setup.epsilon c.args.frame.now) c.args.reading (c.rank_at.ensures c.args.setup.epsilon) c.requires.seen_len.1

pub is_marked-requires : goal.is_marked-requires
is_marked-requires c =
    let setup = setup_of c.args.setup in
    let read = c.rank_at in record { setup_value = (c.requires.setup_value.0, within setup c.args.clock (limits-from setup c.requires.setup_value.0) c.requires.setup_value.1 (decode c.args.setup.epsilon c.args.frame.now) read.result c.requires.placeable (ranked (goal.at.is_marked-requires c).After-rank_at)); seen_len = c.requires.seen_len.0 }

pub returns : goal.returns
unfolding is_marked
returns c =
    let read = c.rank_at in
    c.is_marked.ensures ∙ ap (has_mark c.args.seen.now) (rank-slot (setup_of c.args.setup) c.args.clock (decode c.args.setup.epsilon c.args.frame.now) read.result (ranked (goal.at.returns c).After-rank_at))
