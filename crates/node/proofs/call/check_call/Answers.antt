-- `node::call::check_call` meets its contract. Assumes nothing.
use mathlib.Core.Path.{◌≡◌, ◌∙◌, sym}
use mathlib.Core.Bool.{Bool, true, ◌&&◌}
use borrow.Author.Tests.{not-true, not-false}
use Rattle.model.specs.Setup.{in_limits, is_member}
use Rattle.model.specs.Tick.{Input}
use Rattle.lemmas.proofs.Bounds.{Limits}
use Rattle.lemmas.proofs.Questions.{setup-from, limits-to}
use Rattle.setup.specs.Views.{setup_of}
use Rattle.timestamp.specs.declared.stamp.Timestamp.{Timestamp}
use Rattle.node.specs.Views.{call_input}
use Rattle.node.proofs.Calls.{setup-no, sized-left}
use Rattle.node.proofs.call.check_call.Goals.{Else-not-valid_for, Start}
use Rattle.node.proofs.call.check_call.Goals as goal

abbrev input : Start → Timestamp → Bool → Input
input c tables send = call_input c.args.setup c.args.own c.args.clock tables c.args.holdback.now c.args.batch.now send c.args.payload.now c.args.outgoing.now c.args.verdicts.now c.args.delivery.now

-- what each test leaves
valid : (c : Else-not-valid_for) → (in_limits (setup_of c.args.setup) && is_member (setup_of c.args.setup) c.args.own) ≡ true
valid c = sym c.valid_for.ensures ∙ not-false c.valid_for.result c.if-not-valid_for.false-raw

limits : (c : Else-not-valid_for) → Limits (setup_of c.args.setup)
limits c = (setup-from (setup_of c.args.setup) c.args.own (valid c)).0

pub returns-then-not-valid_for : goal.returns-then-not-valid_for
returns-then-not-valid_for c = λ tables send. setup-no (input (goal.at.returns-then-not-valid_for c).Start tables send) (sym c.valid_for.ensures ∙ not-true c.valid_for.result c.if-not-valid_for.true-raw)

pub check_sized-requires : goal.check_sized-requires
check_sized-requires c = limits-to (setup_of c.args.setup) (limits (goal.at.check_sized-requires c).Else-not-valid_for)

pub returns : goal.returns
returns c =
    λ tables send.
    sized-left (input (goal.at.returns c).Start tables send) c.check_sized.result (valid (goal.at.returns c).Else-not-valid_for) (c.check_sized.ensures c.args.setup c.args.own tables send)
