-- `comparing::frames::count_clock` meets its contract. Assumes nothing.
use native.Mathlib.Omega.{arith}
use Rattle.model.specs.Comparison.{count_clock}
use Rattle.comparing.proofs.frames.count_clock.Goals as goal

pub reading_clock-requires : goal.reading_clock-requires
reading_clock-requires c = (c.requires.setup_value.0, (c.requires.setup_value.1, omega arith))

pub returns : goal.returns
unfolding count_clock
returns c = c.reading_clock.ensures
