-- `frame::form::station_of` meets its contract. Assumes nothing.
use Rattle.model.specs.Frame.{decode}
use Rattle.frame.proofs.form.station_of.Goals as goal

pub returns : goal.returns
unfolding decode
returns c = λ epsilon. c.byte_at.ensures
