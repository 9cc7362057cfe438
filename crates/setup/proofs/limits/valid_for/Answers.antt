-- `setup::limits::valid_for` meets its contract.
-- Assumes nothing.
use mathlib.Core.Path.{sym, ◌∙◌}
use borrow.Author.Tests.{not-true, not-false}
use Rattle.model.specs.Setup.{is_member}
use Rattle.setup.proofs.limits.valid_for.Goals as goal

pub returns-then-not-in_limits : goal.returns-then-not-in_limits
returns-then-not-in_limits c = rw (sym c.in_limits.ensures ∙ not-true c.in_limits.result c.if-not-in_limits.true-raw)

pub returns : goal.returns
unfolding is_member
returns c = rw (sym c.in_limits.ensures ∙ not-false c.in_limits.result c.if-not-in_limits.false-raw)
