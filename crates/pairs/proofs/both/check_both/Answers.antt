-- `pairs::both::check_both` meets its contract: one question after the other. Assumes nothing.
use mathlib.Core.Path.{sym, ◌∙◌}
use borrow.Author.Tests.{not-true, not-false, lt-ltb, le-ltb}
use Rattle.laws.proofs.Numbers.{and-false}
use Rattle.model.specs.Schedule.{both_in_limits}
use Rattle.setup.specs.Views.{setup_of}
use Rattle.pairs.specs.Views.{wider_of}
use Rattle.pairs.proofs.Sides.{both-no, both_yes}
use Rattle.pairs.proofs.both.check_both.Goals as goal

pub returns-then-not-both_in_limits : goal.returns-then-not-both_in_limits
returns-then-not-both_in_limits c =
    let a = c.args in
    sym (both-no (setup_of a.setup) (wider_of a.wider) a.own _ (rw (sym c.both_in_limits.ensures ∙ not-true c.both_in_limits.result c.if-not-both_in_limits.true-raw)))

pub returns-then-setup-own : goal.returns-then-setup-own
returns-then-setup-own c =
    let a = c.args in
    sym (both-no (setup_of a.setup) (wider_of a.wider) a.own _ (rw (le-ltb a.own a.setup.n c.if-setup-own.true) (and-false (both_in_limits (setup_of a.setup) (wider_of a.wider)))))

pub returns : goal.returns
returns c =
    let a = c.args in
    let limits = c.both_in_limits in
    c.check_wider.ensures
    ∙ sym (both_yes (setup_of a.setup) (wider_of a.wider) a.own _
    (sym limits.ensures ∙ not-false limits.result c.if-not-both_in_limits.false-raw) (lt-ltb a.own a.setup.n c.if-setup-own.false))
