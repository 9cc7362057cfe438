-- `frame::form::c_of` meets its contract. Assumes nothing.
use Rattle.model.specs.Frame.{decode}
use Rattle.frame.proofs.form.c_of.Goals as goal

pub returns : goal.returns
unfolding decode
returns c = λ epsilon. c.byte_at.ensures
