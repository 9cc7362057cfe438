-- `frame::form::counts_part` meets its contract. Assumes nothing.
use native.Mathlib.Omega.{arith}
use Rattle.model.specs.Frame.{payload_count_at, decode}
use Rattle.model.specs.Setup.{width}
use Rattle.frame.proofs.Asking.{counts-part}
use Rattle.frame.proofs.form.counts_part.Goals as goal

pub slice_bounds-result-end : goal.slice_bounds-result-end
unfolding payload_count_at width
slice_bounds-result-end c = omega (arith, c.requires.1)

pub returns : goal.returns
unfolding decode
returns c = counts-part c.args.epsilon c.args.s.now
