-- `frame::form::r_of` meets its contract. Assumes nothing.
use Rattle.model.specs.Frame.{decode}
use Rattle.frame.proofs.form.r_of.Goals as goal

pub returns : goal.returns
unfolding decode
returns c = λ epsilon. c.two_at.ensures
