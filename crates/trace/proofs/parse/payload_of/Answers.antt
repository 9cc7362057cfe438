-- `trace::parse::payload_of` meets its contract. Assumes nothing.
use mathlib.Core.Path.{◌∙◌}
use Rattle.trace.specs.Trace.{payload_of, payload_size}
use Rattle.trace.proofs.parse.payload_of.Goals as goal

pub returns : goal.returns
unfolding payload_of payload_size
returns c = c.part.ensures ∙ rw c.byte_at.ensures
