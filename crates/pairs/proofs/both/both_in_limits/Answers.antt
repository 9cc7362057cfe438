-- `pairs::both::both_in_limits` meets its contract: the first test that fails decides. Assumes nothing.
use mathlib.Core.Path.{◌≡◌, sym, ap, ◌∙◌}
use mathlib.Core.Bool.{true}
use borrow.Author.Tests.{not-true, not-false, lt-ltb, le-ltb}
use Rattle.model.specs.Setup.{in_limits}
use Rattle.model.specs.Schedule.{both_in_limits, wider_setup}
use Rattle.setup.specs.Views.{setup_of}
use Rattle.pairs.specs.Views.{wider_of}
use Rattle.pairs.proofs.both.both_in_limits.Goals.{Else-not-in_limits, Else-not-in_limits-2}
use Rattle.pairs.proofs.both.both_in_limits.Goals as goal

-- the old pair, once it is asked, and the new one
old : (c : Else-not-in_limits) → in_limits (setup_of c.args.setup) ≡ true
old c = sym c.in_limits.ensures ∙ not-false c.in_limits.result c.if-not-in_limits.false-raw

new : (c : Else-not-in_limits-2)
    → in_limits (wider_setup (setup_of c.before.before.before.before.before.args.setup) (wider_of c.before.before.before.before.before.args.wider)) ≡ true
new c = sym (c.in_limits-2.ensures ∙ ap in_limits c.wider_setup.ensures) ∙ not-false c.in_limits-2.result c.if-not-in_limits-2.false-raw

pub returns-then-not-in_limits : goal.returns-then-not-in_limits
unfolding both_in_limits
returns-then-not-in_limits c = rw (sym c.in_limits.ensures ∙ not-true c.in_limits.result c.if-not-in_limits.true-raw)

pub returns-then-not-in_limits-2 : goal.returns-then-not-in_limits-2
unfolding both_in_limits
returns-then-not-in_limits-2 c =
    rw (
      old (goal.at.returns-then-not-in_limits-2 c).Else-not-in_limits,
      sym (c.in_limits-2.ensures ∙ ap in_limits c.wider_setup.ensures) ∙ not-true c.in_limits-2.result c.if-not-in_limits-2.true-raw,
    )

pub returns-then-setup-wider : goal.returns-then-setup-wider
unfolding both_in_limits
returns-then-setup-wider c = rw (old (goal.at.returns-then-setup-wider c).Else-not-in_limits, new (goal.at.returns-then-setup-wider c).Else-not-in_limits-2, le-ltb _ _ c.if-setup-wider.true)

pub returns : goal.returns
unfolding both_in_limits
returns c =
    rw (
      old (goal.at.returns c).Else-not-in_limits,
      new (goal.at.returns c).Else-not-in_limits-2,
      lt-ltb _ _ c.if-setup-wider.false,
    )
