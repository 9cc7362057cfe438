-- `holdback::timing::sum_wait` meets its contract: the place of its rank. Assumes nothing.
use Rattle.std.proofs.Common.{◌≡◌, ◌∙◌}
use Rattle.setup.specs.Views.{setup_of}
use Rattle.model.specs.Frame.{decode}
use Rattle.lemmas.proofs.Questions.{limits-from}
use Rattle.holdback.specs.Queue.{rank_of}
use Rattle.holdback.proofs.Testing.{rank-read, rank-fits, rank-placed}
use Rattle.holdback.proofs.timing.sum_wait.Goals.{After-rank_at}
use Rattle.holdback.proofs.timing.sum_wait.Goals as goal

-- the rank with the reading that is handed on
ranked : (c : After-rank_at) → c.rank_at.result ≡ rank_of (setup_of c.args.setup) c.args.clock (decode c.args.setup.epsilon c.args.frame.now)
ranked c = rank-read (setup_of c.args.setup) c.args.clock (decode c.args.setup.epsilon c.args.frame.now) c.args.reading (c.rank_at.ensures c.args.setup.epsilon) c.requires.frame_value.1

pub rank_wait-requires : goal.rank_wait-requires
rank_wait-requires c =
    let setup = setup_of c.args.setup in
    record { setup_value = c.requires.setup_value.0; reading_bound = rank-fits setup c.args.clock setup.modulus c.args.frame.now c.rank_at.result (limits-from setup c.requires.setup_value.0) c.requires.frame_value.0 (ranked (goal.at.rank_wait-requires c).After-rank_at) }

pub returns : goal.returns
returns c =
    c.rank_wait.ensures
    ∙ rank-placed (setup_of c.args.setup) c.args.clock (decode c.args.setup.epsilon c.args.frame.now) c.rank_at.result (ranked (goal.at.returns c).After-rank_at)
