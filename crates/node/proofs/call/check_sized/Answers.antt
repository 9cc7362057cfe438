-- `node::call::check_sized` meets its contract. Assumes nothing.
use mathlib.Core.Path.{◌≡◌, ◌∙◌, sym, ap}
use Prim.Native.Nat.{ℕ}
use mathlib.Core.Bool.{Bool}
use lib.ListN.{length}
use Rattle.model.specs.Question.{first_no}
use Rattle.model.specs.Tick.{Input, holdback_questions}
use Rattle.lemmas.proofs.Questions.{limits-from}
use Rattle.setup.specs.Views.{setup_of}
use Rattle.setup.specs.declared.limits.Setup.{Setup}
use Rattle.timestamp.specs.declared.stamp.Timestamp.{Timestamp}
use Rattle.node.specs.Views.{call_input, buffer_questions}
use Rattle.node.proofs.Calls.{holdback-no, buffers-left}
use Rattle.node.proofs.call.check_sized.Goals.{Else-number-ne0, Start}
use Rattle.node.proofs.call.check_sized.Goals as goal

abbrev input : Start → Setup → ℕ → Timestamp → Bool → Input
input c given own tables send = call_input given own c.args.clock tables c.args.holdback.now c.args.batch.now send c.args.payload.now c.args.outgoing.now c.args.verdicts.now c.args.delivery.now

holdback-yes : (c : Else-number-ne0) → first_no (holdback_questions (setup_of c.args.setup) c.args.clock c.args.holdback.now) ≡ 0
holdback-yes c = sym c.check_holdback-number.ensures ∙ c.if-number-ne0.false

pub returns-then-number-ne0 : goal.returns-then-number-ne0
returns-then-number-ne0 c =
    λ given own tables send.
    holdback-no (setup_of c.args.setup) (input (goal.at.returns-then-number-ne0 c).Start given own tables send) c.check_holdback-number.result c.check_holdback-number.ensures c.if-number-ne0.true

pub longest_frame-longest-requires : goal.longest_frame-longest-requires
longest_frame-longest-requires c = (limits-from (setup_of c.args.setup) c.requires).epsilon-most

pub returns : goal.returns
returns c =
    λ given own tables send.
    buffers-left (setup_of c.args.setup) (input (goal.at.returns c).Start given own tables send) c.check_buffers.result (holdback-yes (goal.at.returns c).Else-number-ne0)
    (c.check_buffers.ensures
    ∙ ap (λ (longest : ℕ). first_no (buffer_questions longest (length c.args.holdback.now) c.args.batch.now c.args.payload.now c.args.outgoing.now c.args.verdicts.now c.args.delivery.now)) c.longest_frame-longest.ensures)
