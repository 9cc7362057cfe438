-- What an accepted call of an observer with both pairs of limits has passed.
-- Assumes nothing.
use Rattle.std.specs.Prelude.{ℕ, ◌≤◌, ◌≡◌, true, List, length}
use Rattle.model.specs.Setup.{verdict_length}
use Rattle.model.specs.Batch.{exact_batch}
use Rattle.model.specs.Tick.{holdback_size}
use Rattle.model.specs.Schedule.{Schedule, widest_of}
use Rattle.widernode.specs.States.{Timed}

pub record Heeded (g : Schedule) (v : ℕ) (buffer batch verdicts delivery : List ℕ) : Type 0 where
  pub timed : Timed g v
  pub size : length buffer ≡ holdback_size (widest_of g)
  pub exact : exact_batch batch ≡ true
  pub verdicts-room : verdict_length ≤ length verdicts
  pub delivery-room : holdback_size (widest_of g) ≤ length delivery
