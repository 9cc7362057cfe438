-- `timestamp::stamp::Timestamp::is_sound_for` meets its contract: the test of r, and the rest beside it.
-- Assumes nothing.
use mathlib.Core.Path.{ap, ◌∙◌}
use mathlib.Core.Bool.{Bool}
use Rattle.model.specs.Timestamp.{sound_beside, sound_tables, trimmed}
use Rattle.timestamp.specs.Views.{stamp_of}
use Rattle.timestamp.proofs.stamp.Timestamp.is_sound_for.Goals as goal

pub returns : goal.returns
unfolding sound_tables trimmed
returns c =
    let a = c.args in
    c.sound_beside.ensures ∙ ap (λ (b : Bool). sound_beside b a.n a.epsilon (trimmed a.epsilon (stamp_of a.self))) c.clock_sound-timely.ensures
