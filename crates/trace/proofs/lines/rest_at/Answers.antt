-- `trace::lines::rest_at` meets its contract. Assumes nothing.
use mathlib.Core.Path.{◌∙◌}
use Rattle.trace.proofs.Giving.{all_from}
use Rattle.trace.proofs.lines.rest_at.Goals as goal

pub returns : goal.returns
returns c = c.part.ensures ∙ all_from c.args.delivery.now c.args.at
