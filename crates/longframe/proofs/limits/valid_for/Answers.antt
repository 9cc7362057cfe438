-- `longframe::limits::valid_for` meets its contract. Assumes nothing.
use mathlib.Core.Path.{sym, ◌∙◌}
use borrow.Author.Tests.{not-true, not-false}
use Rattle.model.specs.Setup.{is_member}
use Rattle.longframe.proofs.limits.valid_for.Goals as goal

pub returns-then-not-in_limits_but_modulus : goal.returns-then-not-in_limits_but_modulus
returns-then-not-in_limits_but_modulus c = rw (sym c.in_limits_but_modulus.ensures ∙ not-true c.in_limits_but_modulus.result c.if-not-in_limits_but_modulus.true-raw)

pub returns : goal.returns
unfolding is_member
returns c = rw (sym c.in_limits_but_modulus.ensures ∙ not-false c.in_limits_but_modulus.result c.if-not-in_limits_but_modulus.false-raw)
