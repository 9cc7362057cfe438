-- `timestamp::stamp::clock_step` meets its contract: the step is how far v lies ahead of r.
-- Assumes nothing.
use Rattle.model.specs.Timestamp.{clock_step}
use Rattle.timestamp.proofs.stamp.clock_step.Goals as goal

pub returns : goal.returns
unfolding clock_step
returns c = c.ahead.ensures
