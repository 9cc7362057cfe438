-- `rehearsal::step::moved` meets its contract. Assumes nothing.
use Prim.Native.Nat.{ℕ}
use mathlib.Core.Path.{ap₂}
use mathlib.Core.List.{List}
use native.Mathlib.Numerals.{add-one}
use Rattle.stations.specs.declared.Station.{Station}
use Rattle.rehearsal.specs.declared.step.Rehearsal.{Rehearsal}
use Rattle.rehearsal.proofs.step.moved.Goals as goal

abbrev both : List Station → ℕ → Rehearsal
both stations steps = record { stations = stations; steps = steps }

pub returns : goal.returns
returns c = ap₂ both c.with_station.ensures (add-one c.args.group.steps)
