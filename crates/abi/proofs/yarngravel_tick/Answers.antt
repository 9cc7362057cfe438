-- `abi::yarngravel_tick` meets its contract. Assumes nothing.
use native.Mathlib.Omega.{arith}
use mathlib.Core.Path.{◌≡◌, ◌∙◌, sym, ap}
use Prim.Native.Nat.{◌<◌}
use borrow.Author.Rules.{rules}
use Rattle.model.specs.Timestamp.{Timestamp}
use Rattle.model.specs.Tick.{Input, Output, tick}
use Rattle.timestamp.specs.Views.{stamp_of}
use Rattle.node.specs.Answers.{answer_of}
use Rattle.abi.specs.Packing.{setup_by, input_with, tables_in, tables_bytes, packed}
use Rattle.abi.proofs.Words.{Small, answer-small, refused-tick, refused-packed, accepted-packed}
use Rattle.abi.proofs.yarngravel_tick.Lts.View as view
use Rattle.abi.proofs.yarngravel_tick.Goals.{After-tick-answer, Else-answer-ne0, Start}
use Rattle.abi.proofs.yarngravel_tick.Goals as goal

abbrev input : Start → Timestamp → Input
input c t =
    input_with (setup_by c.args.n c.args.epsilon c.args.delta c.args.modulus) c.args.own c.args.clock t c.args.holdback.now c.args.batch.now
    c.args.send c.args.payload.now c.args.outgoing.now c.args.verdicts.now c.args.delivery.now

-- the tick's output, from the tables' bytes
made : (c : After-tick-answer) (o : Output) → o ≡ tick (input c.before.before.before.before.before.before.before.before.before.before.before.before.before.before.before (stamp_of c.tables_of-given.result)) → o ≡ tick (input c.before.before.before.before.before.before.before.before.before.before.before.before.before.before.before (tables_in c.args.tables.now))
made c o e = e ∙ ap (λ (t : Timestamp). tick (input c.before.before.before.before.before.before.before.before.before.before.before.before.before.before.before t)) c.tables_of-given.ensures.result_value

pub returns-then-answer-ne0 : goal.returns-then-answer-ne0
unfolding packed
returns-then-answer-ne0 c =
    let i = input (goal.at.returns-then-answer-ne0 c).Start (tables_in c.args.tables.now) in
    refused-packed tables_bytes i _ (tick i) (made (goal.at.returns-then-answer-ne0 c).After-tick-answer _ c.tick-answer.ensures)
    c.args.tables.now (ap tables_bytes (sym c.tables_of-given.ensures.result_value) ∙ c.tables_of-given.ensures.result_value_2) (refused-tick i) c.if-answer-ne0.true

small : (c : Else-answer-ne0) → Small (answer_of c.tick-answer.result) × (c.tick-answer.result.tables.r < 65536)
small c =
    answer-small (input c.before.before.before.before.before.before.before.before.before.before.before.before.before.before.before.before.before.before.before.before.before.before.before.before.before (tables_in c.args.tables.now)) _ (made (view.up-After-tick-answer _ _ _ _ c.before.before.before.before.before.before.before.before.before.before.before) _ c.tick-answer.ensures) c.if-answer-ne0.false
    (omega (arith, c.shared_slice_known-1.given 0))

pub put_tables-requires : goal.put_tables-requires
put_tables-requires c = record { s_len = search rules; r_bound = ((small (goal.at.put_tables-requires c).Else-answer-ne0).1, (small (goal.at.put_tables-requires c).Else-answer-ne0).0.c-small) }

pub pack_answer-requires : goal.pack_answer-requires
pack_answer-requires c = let a = (small (goal.at.pack_answer-requires c).Else-answer-ne0).0 in (a.taken-small, (a.sent-small, a.delivered-small))

pub returns : goal.returns
unfolding packed
returns c =
    let i = input (goal.at.returns c).Start (tables_in c.args.tables.now) in
    accepted-packed tables_bytes i _ (tick i) (made (goal.at.returns c).After-tick-answer _ c.tick-answer.ensures) c.pack_answer.result _ c.pack_answer.ensures c.put_tables.ensures
