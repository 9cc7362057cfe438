-- `pairs::limits::due_along` meets its contract. Assumes nothing.
use mathlib.Core.Path.{sym, ◌∙◌}
use native.Mathlib.Omega.{arith}
use Rattle.pairs.proofs.limits.due_along.Goals as goal

pub sum_due-requires : goal.sum_due-requires
sum_due-requires c = omega arith

pub returns-then-old_due : goal.returns-then-old_due
returns-then-old_due c = rw (sym c.old_due.ensures ∙ c.if-old_due.true) c.sum_due.ensures

pub sum_due-requires-2 : goal.sum_due-requires-2
sum_due-requires-2 c = omega arith

pub returns : goal.returns
returns c = rw (sym c.old_due.ensures ∙ c.if-old_due.false) c.sum_due-2.ensures
