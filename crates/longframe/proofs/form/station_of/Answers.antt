-- `longframe::form::station_of` meets its contract. Assumes nothing.
use Rattle.model.specs.Frame.{decode}
use Rattle.model.specs.Long.{long_decode}
use Rattle.longframe.proofs.form.station_of.Goals as goal

pub returns : goal.returns
unfolding decode long_decode
returns c = λ epsilon. c.station_of.ensures epsilon
