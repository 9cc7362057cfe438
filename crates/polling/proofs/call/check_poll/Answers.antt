-- `polling::call::check_poll` meets its contract: question by question. Assumes nothing.
use mathlib.Core.Path.{◌≡◌, ◌∙◌, sym}
use mathlib.Core.Bool.{true, ◌&&◌}
use borrow.Author.Tests.{not-true, not-false}
use Rattle.laws.proofs.Numbers.{and_left}
use Rattle.model.specs.Setup.{in_limits, is_member}
use Rattle.setup.specs.Views.{setup_of}
use Rattle.polling.proofs.Asking.{setup-no, holdback-asked}
use Rattle.polling.proofs.call.check_poll.Goals.{Else-not-valid_for}
use Rattle.polling.proofs.call.check_poll.Goals as goal

-- a setup in its limits
right : (c : Else-not-valid_for) → (in_limits (setup_of c.args.setup) && is_member (setup_of c.args.setup) c.args.own) ≡ true
right c = sym c.valid_for.ensures ∙ not-false c.valid_for.result c.if-not-valid_for.false-raw

pub returns-then-not-valid_for : goal.returns-then-not-valid_for
returns-then-not-valid_for c =
    let a = c.args in
    setup-no (setup_of a.setup) a.own a.clock a.holdback.now (sym c.valid_for.ensures ∙ not-true c.valid_for.result c.if-not-valid_for.true-raw)

pub check_holdback-requires : goal.check_holdback-requires
check_holdback-requires c = and_left (in_limits (setup_of c.args.setup)) _ (right (goal.at.check_holdback-requires c).Else-not-valid_for)

pub returns : goal.returns
returns c =
    let a = c.args in
    c.check_holdback.ensures ∙ holdback-asked (setup_of a.setup) a.own a.clock a.holdback.now (right (goal.at.returns c).Else-not-valid_for)
