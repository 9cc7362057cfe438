-- `rehearsal::parse::station_of` meets its contract. Assumes nothing.
use native.Mathlib.Omega.{arith}
use Rattle.rehearsal.specs.Step.{station_of}
use Rattle.rehearsal.proofs.parse.station_of.Goals as goal

pub returns : goal.returns
unfolding station_of
returns c = (c.byte_at.ensures, omega arith)
