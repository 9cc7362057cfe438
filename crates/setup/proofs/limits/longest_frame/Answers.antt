-- `setup::limits::longest_frame` meets its contract.
-- Assumes nothing.
use mathlib.Core.Path.{refl}
use Rattle.model.specs.Setup.{longest_frame, width}
use Rattle.setup.proofs.limits.longest_frame.Goals as goal

pub returns : goal.returns
unfolding longest_frame width
returns c = refl
