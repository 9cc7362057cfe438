-- `long::call::check_call` meets its contract. Assumes nothing.
use mathlib.Core.Path.{◌≡◌, ◌∙◌, sym}
use mathlib.Core.Bool.{Bool, true, ◌&&◌}
use Prim.Native.Nat.{◌<◌}
use borrow.Author.Tests.{not-true, not-false}
use Rattle.laws.proofs.Numbers.{and_left}
use Rattle.model.specs.Setup.{is_member}
use Rattle.model.specs.Tick.{Input}
use Rattle.model.specs.Long.{long_bound, long_limits, long_holdback_size}
use Rattle.lemmas.proofs.Bounds.{LongLimits}
use Rattle.lemmas.proofs.Questions.{long-limits-from}
use Rattle.setup.specs.Views.{setup_of}
use Rattle.timestamp.specs.declared.stamp.Timestamp.{Timestamp}
use Rattle.node.specs.Views.{call_input}
use Rattle.long.proofs.Calls.{setup-no, clock-no, size-no, buffers-left}
use Rattle.long.proofs.call.check_call.Goals.{After-holdback_length, Else-clock-ge-BOUND, Else-not-valid_for, Start}
use Rattle.long.proofs.call.check_call.Goals as goal

abbrev input : Start → Timestamp → Bool → Input
input c tables send = call_input c.args.setup c.args.own c.args.clock tables c.args.holdback.now c.args.batch.now send c.args.payload.now c.args.outgoing.now c.args.verdicts.now c.args.delivery.now

-- what each test leaves
valid : (c : Else-not-valid_for) → (long_limits (setup_of c.args.setup) && is_member (setup_of c.args.setup) c.args.own) ≡ true
valid c = sym c.valid_for.ensures ∙ not-false c.valid_for.result c.if-not-valid_for.false-raw

limits : (c : Else-not-valid_for) → LongLimits (setup_of c.args.setup)
limits c = long-limits-from (setup_of c.args.setup) (and_left (long_limits (setup_of c.args.setup)) _ (valid c))

below : (c : Else-clock-ge-BOUND) → c.args.clock < long_bound
below c = c.if-clock-ge-BOUND.false

pub returns-then-not-valid_for : goal.returns-then-not-valid_for
returns-then-not-valid_for c = λ tables send. setup-no (input (goal.at.returns-then-not-valid_for c).Start tables send) (sym c.valid_for.ensures ∙ not-true c.valid_for.result c.if-not-valid_for.true-raw)

pub returns-then-clock-ge-BOUND : goal.returns-then-clock-ge-BOUND
returns-then-clock-ge-BOUND c = λ tables send. clock-no (input (goal.at.returns-then-clock-ge-BOUND c).Start tables send) (valid (goal.at.returns-then-clock-ge-BOUND c).Else-not-valid_for) c.if-clock-ge-BOUND.true

pub holdback_length-requires : goal.holdback_length-requires
holdback_length-requires c = (limits (goal.at.holdback_length-requires c).Else-not-valid_for).epsilon-most

-- the length that the shelf is held to
size : (c : After-holdback_length) → c.holdback_length.result ≡ long_holdback_size (setup_of c.args.setup)
unfolding long_holdback_size
size c = c.holdback_length.ensures

pub returns-then-holdback-holdback_length : goal.returns-then-holdback-holdback_length
returns-then-holdback-holdback_length c = λ tables send. size-no (input (goal.at.returns-then-holdback-holdback_length c).Start tables send) (valid (goal.at.returns-then-holdback-holdback_length c).Else-not-valid_for) (below (goal.at.returns-then-holdback-holdback_length c).Else-clock-ge-BOUND) (λ e. c.if-holdback-holdback_length.true (e ∙ sym (size (goal.at.returns-then-holdback-holdback_length c).After-holdback_length)))

pub longest_frame-longest-requires : goal.longest_frame-longest-requires
longest_frame-longest-requires c = (limits (goal.at.longest_frame-longest-requires c).Else-not-valid_for).epsilon-most

pub returns : goal.returns
returns c =
    λ tables send.
    buffers-left (input (goal.at.returns c).Start tables send) (valid (goal.at.returns c).Else-not-valid_for) (below (goal.at.returns c).Else-clock-ge-BOUND) c.check_buffers.result c.longest_frame-longest.result
    (c.if-holdback-holdback_length.false ∙ size (goal.at.returns c).After-holdback_length) c.longest_frame-longest.ensures c.check_buffers.ensures
