-- `longframe::form::six_on` meets its contract. Assumes nothing.
use mathlib.Core.Path.{◌∙◌}
use Rattle.longframe.proofs.Asking.{six-part}
use Rattle.longframe.proofs.form.six_on.Goals as goal

pub returns : goal.returns
returns c = c.part.ensures ∙ six-part c.args.s.now
