-- `node::call::check_buffers` meets its contract. Assumes nothing.
use mathlib.Core.Path.{◌≡◌, ◌∙◌, sym}
use mathlib.Core.Bool.{true}
use lib.ListN.{length}
use borrow.Author.Tests.{not-true, not-false}
use Rattle.model.specs.Batch.{exact_batch}
use Rattle.node.proofs.Calls.{payload-no, batch-no, outgoing-no, delivery-no, none-no}
use Rattle.node.proofs.call.check_buffers.Goals.{Else-not-exact}
use Rattle.node.proofs.call.check_buffers.Goals as goal

pub returns-then-payload-gt-LONGEST_PAYLOAD : goal.returns-then-payload-gt-LONGEST_PAYLOAD
returns-then-payload-gt-LONGEST_PAYLOAD c = payload-no c.args.longest (length c.args.holdback.now) c.args.batch.now c.args.payload.now c.args.outgoing.now c.args.verdicts.now c.args.delivery.now c.if-payload-gt-LONGEST_PAYLOAD.true

pub returns-then-not-exact : goal.returns-then-not-exact
returns-then-not-exact c =
    batch-no c.args.longest (length c.args.holdback.now) c.args.batch.now c.args.payload.now c.args.outgoing.now c.args.verdicts.now c.args.delivery.now c.if-payload-gt-LONGEST_PAYLOAD.false
    (sym c.exact.ensures ∙ not-true c.exact.result c.if-not-exact.true-raw)

exact : (c : Else-not-exact) → exact_batch c.args.batch.now ≡ true
exact c = sym c.exact.ensures ∙ not-false c.exact.result c.if-not-exact.false-raw

pub returns-then-outgoing-longest : goal.returns-then-outgoing-longest
returns-then-outgoing-longest c =
    outgoing-no c.args.longest (length c.args.holdback.now) c.args.batch.now c.args.payload.now c.args.outgoing.now c.args.verdicts.now c.args.delivery.now c.if-payload-gt-LONGEST_PAYLOAD.false
    (exact (goal.at.returns-then-outgoing-longest c).Else-not-exact) c.if-outgoing-longest.true

pub returns-then-not-delivery_roomy : goal.returns-then-not-delivery_roomy
returns-then-not-delivery_roomy c =
    delivery-no c.args.longest (length c.args.holdback.now) c.args.batch.now c.args.payload.now c.args.outgoing.now c.args.verdicts.now c.args.delivery.now c.if-payload-gt-LONGEST_PAYLOAD.false
    (exact (goal.at.returns-then-not-delivery_roomy c).Else-not-exact) c.if-outgoing-longest.false (sym c.delivery_roomy.ensures ∙ not-true c.delivery_roomy.result c.if-not-delivery_roomy.true-raw)

pub returns : goal.returns
returns c =
    none-no c.args.longest (length c.args.holdback.now) c.args.batch.now c.args.payload.now c.args.outgoing.now c.args.verdicts.now c.args.delivery.now c.if-payload-gt-LONGEST_PAYLOAD.false
    (exact (goal.at.returns c).Else-not-exact) c.if-outgoing-longest.false (sym c.delivery_roomy.ensures ∙ not-false c.delivery_roomy.result c.if-not-delivery_roomy.false-raw)
