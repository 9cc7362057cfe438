-- `frame::form::frame_end` meets its contract. Assumes nothing.
use native.Mathlib.Omega.{arith}
use Rattle.model.specs.Frame.{frame_end, payload_count_at}
use Rattle.model.specs.Setup.{width}
use Rattle.frame.proofs.form.frame_end.Goals as goal

pub returns : goal.returns
unfolding frame_end payload_count_at width
returns c = omega arith
