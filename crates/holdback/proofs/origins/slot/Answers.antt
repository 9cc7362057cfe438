-- `holdback::origins::slot` meets its contract: a station has its row, a reading its place in it. Assumes nothing.
use Rattle.std.proofs.Common.{refl}
use Rattle.setup.specs.Views.{setup_of}
use Rattle.lemmas.proofs.Questions.{limits-from}
use Rattle.holdback.proofs.Seen.{rank_below}
use Rattle.holdback.proofs.origins.slot.Goals as goal

pub returns : goal.returns
returns c = (refl, rank_below (setup_of c.args.setup) (limits-from (setup_of c.args.setup) c.requires.0) c.args.rank c.requires.1)
