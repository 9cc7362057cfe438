-- `holdback::timing::reading_clock` meets its contract. Assumes nothing.
use Rattle.std.proofs.Common.{refl}
use Rattle.model.specs.Order.{reading_clock}
use Rattle.holdback.proofs.timing.reading_clock.Goals as goal

pub returns : goal.returns
unfolding reading_clock
returns c = refl
