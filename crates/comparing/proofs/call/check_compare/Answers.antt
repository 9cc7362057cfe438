-- `comparing::call::check_compare` meets its contract: question by question. Assumes nothing.
use mathlib.Core.Path.{◌≡◌, ◌∙◌, sym}
use mathlib.Core.Bool.{true, ◌&&◌}
use borrow.Author.Tests.{not-true, not-false}
use Rattle.laws.proofs.Numbers.{and_left}
use Rattle.model.specs.Setup.{in_limits, is_member}
use Rattle.setup.specs.Views.{setup_of}
use Rattle.comparing.proofs.Asking.{setup-no, clock-no, first-no, second-left}
use Rattle.comparing.proofs.call.check_compare.Goals.{Else-not-valid_for}
use Rattle.comparing.proofs.call.check_compare.Goals as goal

-- a setup in its limits
right : (c : Else-not-valid_for) → (in_limits (setup_of c.args.setup) && is_member (setup_of c.args.setup) c.args.own) ≡ true
right c = sym c.valid_for.ensures ∙ not-false c.valid_for.result c.if-not-valid_for.false-raw

pub returns-then-not-valid_for : goal.returns-then-not-valid_for
returns-then-not-valid_for c =
    let a = c.args in
    sym (setup-no (setup_of a.setup) a.own a.clock a.first.now a.second.now (sym c.valid_for.ensures ∙ not-true c.valid_for.result c.if-not-valid_for.true-raw))

pub returns-then-setup-clock : goal.returns-then-setup-clock
returns-then-setup-clock c =
    let a = c.args in
    sym (clock-no (setup_of a.setup) a.own a.clock a.first.now a.second.now (right (goal.at.returns-then-setup-clock c).Else-not-valid_for) c.if-setup-clock.true)

pub check-number-requires : goal.check-number-requires
check-number-requires c = and_left (in_limits (setup_of c.args.setup)) _ (right (goal.at.check-number-requires c).Else-not-valid_for)

pub returns-then-number-ne0 : goal.returns-then-number-ne0
returns-then-number-ne0 c =
    let a = c.args in
    first-no (setup_of a.setup) a.own a.clock a.first.now a.second.now (right (goal.at.returns-then-number-ne0 c).Else-not-valid_for) c.if-setup-clock.false
    c.check-number.result c.check-number.ensures c.if-number-ne0.true

pub check-requires : goal.check-requires
check-requires c = and_left (in_limits (setup_of c.args.setup)) _ (right (goal.at.check-requires c).Else-not-valid_for)

pub returns : goal.returns
returns c =
    let a = c.args in
    c.check.ensures
    ∙ sym (second-left (setup_of a.setup) a.own a.clock a.first.now a.second.now (right (goal.at.returns c).Else-not-valid_for) c.if-setup-clock.false
    (sym c.check-number.ensures ∙ c.if-number-ne0.false))
