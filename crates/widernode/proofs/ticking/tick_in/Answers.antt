-- `widernode::ticking::tick_in` meets its contract. Assumes nothing.
use mathlib.Core.Path.{sym, ◌∙◌}
use Rattle.model.specs.Tick.{Input, refusal}
use Rattle.node.specs.Views.{call_input}
use Rattle.pairs.specs.Views.{wider_of}
use Rattle.widernode.proofs.Finish.{refused-output}
use Rattle.widernode.proofs.ticking.tick_in.Goals.{Start}
use Rattle.widernode.proofs.ticking.tick_in.Goals as goal

abbrev input : Start → Input
input c = call_input c.args.setup c.args.own c.args.clock c.args.tables c.args.holdback.now c.args.batch.now c.args.send c.args.payload.now c.args.outgoing.now c.args.verdicts.now c.args.delivery.now

pub returns-then-number-ne0 : goal.returns-then-number-ne0
unfolding refusal
returns-then-number-ne0 c = refused-output (wider_of c.args.wider) (input (goal.at.returns-then-number-ne0 c).Start) c.check_call-number.result (c.check_call-number.ensures c.args.tables c.args.send) c.if-number-ne0.true

pub tick_passed-requires : goal.tick_passed-requires
tick_passed-requires c = sym (c.check_call-number.ensures c.args.tables c.args.send) ∙ c.if-number-ne0.false

pub returns : goal.returns
returns c = c.tick_passed.ensures
