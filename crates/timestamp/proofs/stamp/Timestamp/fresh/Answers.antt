-- `timestamp::stamp::Timestamp::fresh` meets its contract: the zeros are those of 2ε counts and of the places past them.
-- Assumes nothing.
use Rattle.timestamp.proofs.Steps.{fresh-widened}
use Rattle.timestamp.proofs.stamp.Timestamp.fresh.Goals as goal

pub returns : goal.returns
returns c = fresh-widened _ _ c.requires.0 c.requires.1
