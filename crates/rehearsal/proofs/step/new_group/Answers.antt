-- `rehearsal::step::new_group` meets its contract. Assumes nothing.
use mathlib.Core.Path.{◌≡◌, ap}
use native.Mathlib.Omega.{arith}
use lib.ListN.{replicate}
use Rattle.laws.specs.Lists.{padded}
use Rattle.model.specs.Setup.{width}
use Rattle.model.specs.Timestamp.{widened, replaced}
use Rattle.model.specs.Timestamp as stamps
use Rattle.timestamp.specs.Views.{stamp_of}
use Rattle.timestamp.specs.declared.stamp.Timestamp.{Timestamp}
use Rattle.rehearsal.specs.declared.step.Rehearsal.{Rehearsal}
use Rattle.rehearsal.proofs.step.new_group.Goals as goal

-- the code's timestamp is what the model says of it
abbrev as_code : stamps.Timestamp → Timestamp
as_code t = record { r = t.r; c = t.c; kn = t.kn }

empty-tables : (t : Timestamp) → stamp_of t ≡ widened (replaced 16 0) → t ≡ record { r = 0; c = 0; kn = replicate 32 0 }
unfolding widened replaced width padded
empty-tables t e = ap as_code e

abbrev group-with : Timestamp → Rehearsal
group-with t = record { stations = replicate 16 (record { ticks = 0; tables = t }); steps = 0 }

pub returns : goal.returns
returns c = ap group-with (empty-tables c.replaced.result (c.replaced.ensures 16 (omega arith)))
