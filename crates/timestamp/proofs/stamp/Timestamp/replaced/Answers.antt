-- `timestamp::stamp::Timestamp::replaced` meets its contract: the zeros are those of 2ε counts and of the places past them, whatever ε is.
-- Assumes nothing.
use Rattle.timestamp.proofs.Steps.{replaced-widened}
use Rattle.timestamp.proofs.stamp.Timestamp.replaced.Goals as goal

pub returns : goal.returns
returns c = λ epsilon h. replaced-widened epsilon _ h
