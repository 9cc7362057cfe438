-- `abi::engine::yarngravel_long_tick` meets its contract. Assumes nothing.
use native.Mathlib.Omega.{arith}
use mathlib.Core.Path.{◌≡◌, ◌∙◌, sym, ap}
use borrow.Author.Rules.{rules}
use Rattle.model.specs.Timestamp.{Timestamp}
use Rattle.model.specs.Tick.{Input, Output}
use Rattle.model.specs.Long.{long_tick}
use Rattle.timestamp.specs.Views.{stamp_of}
use Rattle.node.specs.Answers.{answer_of}
use Rattle.abi.specs.Packing.{long_setup_by, input_with, long_tables_in, long_tables_bytes, long_packed}
use Rattle.abi.proofs.Words.{Small, refused-packed, accepted-packed}
use Rattle.abi.proofs.LongWords.{long-answer-small, refused-long}
use Rattle.abi.proofs.engine.yarngravel_long_tick.Lts.View as view
use Rattle.abi.proofs.engine.yarngravel_long_tick.Goals.{After-tick-answer, Else-answer-ne0, Start}
use Rattle.abi.proofs.engine.yarngravel_long_tick.Goals as goal

abbrev input : Start → Timestamp → Input
input c t =
    input_with (long_setup_by c.args.n c.args.epsilon c.args.delta) c.args.own c.args.clock t c.args.holdback.now c.args.batch.now
    c.args.send c.args.payload.now c.args.outgoing.now c.args.verdicts.now c.args.delivery.now

-- the tick's output, from the tables' bytes
made : (c : After-tick-answer) (o : Output) → o ≡ long_tick (input c.before.before.before.before.before.before.before.before.before.before.before.before.before.before.before (stamp_of c.long_tables_of-given.result)) → o ≡ long_tick (input c.before.before.before.before.before.before.before.before.before.before.before.before.before.before.before (long_tables_in c.args.tables.now))
made c o e = e ∙ ap (λ (t : Timestamp). long_tick (input c.before.before.before.before.before.before.before.before.before.before.before.before.before.before.before t)) c.long_tables_of-given.ensures.result_value

pub returns-then-answer-ne0 : goal.returns-then-answer-ne0
unfolding long_packed
returns-then-answer-ne0 c =
    let i = input (goal.at.returns-then-answer-ne0 c).Start (long_tables_in c.args.tables.now) in
    refused-packed long_tables_bytes i _ (long_tick i) (made (goal.at.returns-then-answer-ne0 c).After-tick-answer _ c.tick-answer.ensures)
    c.args.tables.now (ap long_tables_bytes (sym c.long_tables_of-given.ensures.result_value) ∙ c.long_tables_of-given.ensures.result_value_2) (refused-long i) c.if-answer-ne0.true

small : (c : Else-answer-ne0) → Small (answer_of c.tick-answer.result)
small c =
    long-answer-small (input c.before.before.before.before.before.before.before.before.before.before.before.before.before.before.before.before.before.before.before.before.before.before.before.before.before (long_tables_in c.args.tables.now)) _ (made (view.up-After-tick-answer _ _ _ _ c.before.before.before.before.before.before.before.before.before.before.before) _ c.tick-answer.ensures) c.if-answer-ne0.false
    (omega (arith, c.shared_slice_known-1.given 0))

pub put_long_tables-requires : goal.put_long_tables-requires
put_long_tables-requires c = record { s_len = search rules; c_bound = (small (goal.at.put_long_tables-requires c).Else-answer-ne0).c-small }

pub pack_answer-requires : goal.pack_answer-requires
pack_answer-requires c = let a = small (goal.at.pack_answer-requires c).Else-answer-ne0 in (a.taken-small, (a.sent-small, a.delivered-small))

pub returns : goal.returns
unfolding long_packed
returns c =
    let i = input (goal.at.returns c).Start (long_tables_in c.args.tables.now) in
    accepted-packed long_tables_bytes i _ (long_tick i) (made (goal.at.returns c).After-tick-answer _ c.tick-answer.ensures) c.pack_answer.result _ c.pack_answer.ensures c.put_long_tables.ensures
