-- `node::ticking::tick` meets its contract. Assumes nothing.
use mathlib.Core.Path.{sym, ◌∙◌}
use Rattle.model.specs.Tick.{Input, refusal}
use Rattle.node.specs.Views.{call_input}
use Rattle.node.proofs.Finish.{refused-output}
use Rattle.node.proofs.ticking.tick.Goals.{Start}
use Rattle.node.proofs.ticking.tick.Goals as goal

abbrev input : Start → Input
input c = call_input c.args.setup c.args.own c.args.clock c.args.tables c.args.holdback.now c.args.batch.now c.args.send c.args.payload.now c.args.outgoing.now c.args.verdicts.now c.args.delivery.now

pub returns-then-number-ne0 : goal.returns-then-number-ne0
unfolding refusal
returns-then-number-ne0 c = refused-output (input (goal.at.returns-then-number-ne0 c).Start) c.check_call-number.result (c.check_call-number.ensures c.args.tables c.args.send) c.if-number-ne0.true

pub accept-requires : goal.accept-requires
accept-requires c = sym (c.check_call-number.ensures c.args.tables c.args.send) ∙ c.if-number-ne0.false

pub returns : goal.returns
returns c = c.accept.ensures
