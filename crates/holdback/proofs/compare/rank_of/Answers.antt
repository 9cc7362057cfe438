-- `holdback::compare::rank_of` meets its contract: r is read, and the rest is what the frame has. Assumes nothing.
use Rattle.setup.specs.Views.{setup_of}
use Rattle.model.specs.Frame.{decode}
use Rattle.holdback.proofs.Testing.{rank-read}
use Rattle.holdback.proofs.compare.rank_of.Goals as goal

pub returns : goal.returns
returns c = rank-read (setup_of c.args.setup) c.args.clock (decode c.args.setup.epsilon c.args.frame.now) c.reading_of.result (c.rank_at.ensures c.args.setup.epsilon) c.reading_of.ensures
