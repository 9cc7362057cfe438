-- `longframe::limits::longest_frame` meets its contract. Assumes nothing.
use mathlib.Core.Path.{refl}
use Rattle.model.specs.Setup.{width}
use Rattle.model.specs.Long.{longest_long}
use Rattle.longframe.proofs.limits.longest_frame.Goals as goal

pub returns : goal.returns
unfolding longest_long width
returns c = refl
