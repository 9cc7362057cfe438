-- `pairs::limits::compared_along` meets its contract. Assumes nothing.
use mathlib.Core.Path.{sym, ◌∙◌}
use Rattle.pairs.proofs.limits.compared_along.Goals as goal

pub returns-then-old_due : goal.returns-then-old_due
returns-then-old_due c = rw (sym c.old_due.ensures ∙ c.if-old_due.true)

pub returns : goal.returns
returns c = rw (sym c.old_due.ensures ∙ c.if-old_due.false)
