-- `abi::yarngravel_tick_in` meets its contract. Assumes nothing.
use native.Mathlib.Omega.{arith}
use mathlib.Core.Path.{◌≡◌, ◌∙◌, sym, ap}
use Prim.Native.Nat.{ℕ, ◌<◌}
use borrow.Author.Rules.{rules}
use Rattle.model.specs.Setup.{Setup}
use Rattle.model.specs.Timestamp.{Timestamp}
use Rattle.model.specs.Schedule.{Wider}
use Rattle.model.specs.Tick.{Input, Output}
use Rattle.model.specs.Wider.{tick_in}
use Rattle.setup.specs.Views.{setup_of}
use Rattle.timestamp.specs.Views.{stamp_of}
use Rattle.pairs.specs.Views.{wider_of}
use Rattle.node.specs.Answers.{answer_of}
use Rattle.abi.specs.Packing.{input_with, tables_in, tables_bytes, packed}
use Rattle.abi.specs.Both.{setup_in, own_in, wider_in}
use Rattle.abi.proofs.Words.{Small, refused-packed, accepted-packed}
use Rattle.abi.proofs.Both.{refused-tick-in, answer-small-in}
use Rattle.abi.proofs.widening.yarngravel_tick_in.Lts.View as view
use Rattle.abi.proofs.widening.yarngravel_tick_in.Goals.{After-tick_in-answer, Else-answer-ne0, Start}
use Rattle.abi.proofs.widening.yarngravel_tick_in.Goals as goal

-- its input, by the setup, the own number and the tables
abbrev input : Start → Setup → ℕ → Timestamp → Input
input c s own t =
    input_with s own c.args.clock t c.args.holdback.now c.args.batch.now c.args.send c.args.payload.now c.args.outgoing.now
    c.args.verdicts.now c.args.delivery.now

-- as it stands in the bytes
abbrev given : Start → Input
given c = input c (setup_in c.args.setup.now) (own_in c.args.setup.now) (tables_in c.args.tables.now)

abbrev wider : Start → Wider
wider c = wider_in c.args.setup.now

-- the tick's output, from the numbers and the tables' bytes
made : (c : After-tick_in-answer) (o : Output) → o ≡ tick_in (wider_of c.wider_of-wider.result) (input c.before.before.before.before.before.before.before.before.before.before.before.before.before.before.before.before.before.before (setup_of c.setup_of-before.result) c.own_of-own.result (stamp_of c.tables_of-given.result))
    → o ≡ tick_in (wider c.before.before.before.before.before.before.before.before.before.before.before.before.before.before.before.before.before.before) (given c.before.before.before.before.before.before.before.before.before.before.before.before.before.before.before.before.before.before)
made c o e =
    e
    ∙ (ap (λ (w : Wider). tick_in w (input c.before.before.before.before.before.before.before.before.before.before.before.before.before.before.before.before.before.before (setup_of c.setup_of-before.result) c.own_of-own.result (stamp_of c.tables_of-given.result))) c.wider_of-wider.ensures
    ∙ (ap (λ (s : Setup). tick_in (wider c.before.before.before.before.before.before.before.before.before.before.before.before.before.before.before.before.before.before) (input c.before.before.before.before.before.before.before.before.before.before.before.before.before.before.before.before.before.before s c.own_of-own.result (stamp_of c.tables_of-given.result))) c.setup_of-before.ensures
    ∙ (ap (λ (k : ℕ). tick_in (wider c.before.before.before.before.before.before.before.before.before.before.before.before.before.before.before.before.before.before) (input c.before.before.before.before.before.before.before.before.before.before.before.before.before.before.before.before.before.before (setup_in c.args.setup.now) k (stamp_of c.tables_of-given.result))) c.own_of-own.ensures
    ∙ ap (λ (t : Timestamp). tick_in (wider c.before.before.before.before.before.before.before.before.before.before.before.before.before.before.before.before.before.before) (input c.before.before.before.before.before.before.before.before.before.before.before.before.before.before.before.before.before.before (setup_in c.args.setup.now) (own_in c.args.setup.now) t)) c.tables_of-given.ensures.result_value)))

pub returns-then-answer-ne0 : goal.returns-then-answer-ne0
unfolding packed
returns-then-answer-ne0 c =
    let i = given (goal.at.returns-then-answer-ne0 c).Start in
    refused-packed tables_bytes i _ (tick_in (wider (goal.at.returns-then-answer-ne0 c).Start) i) (made (goal.at.returns-then-answer-ne0 c).After-tick_in-answer _ c.tick_in-answer.ensures)
    c.args.tables.now (ap tables_bytes (sym c.tables_of-given.ensures.result_value) ∙ c.tables_of-given.ensures.result_value_2) (refused-tick-in (wider (goal.at.returns-then-answer-ne0 c).Start) i) c.if-answer-ne0.true

small : (c : Else-answer-ne0) → Small (answer_of c.tick_in-answer.result) × (c.tick_in-answer.result.tables.r < 65536)
small c =
    answer-small-in (wider c.before.before.before.before.before.before.before.before.before.before.before.before.before.before.before.before.before.before.before.before.before.before.before.before.before.before.before.before) (given c.before.before.before.before.before.before.before.before.before.before.before.before.before.before.before.before.before.before.before.before.before.before.before.before.before.before.before.before) _ (made (view.up-After-tick_in-answer _ _ _ _ c.before.before.before.before.before.before.before.before.before.before.before) _ c.tick_in-answer.ensures) c.if-answer-ne0.false
    (omega (arith, c.shared_slice_known-1.given 0))

pub put_tables-requires : goal.put_tables-requires
put_tables-requires c = record { s_len = search rules; r_bound = ((small (goal.at.put_tables-requires c).Else-answer-ne0).1, (small (goal.at.put_tables-requires c).Else-answer-ne0).0.c-small) }

pub pack_answer-requires : goal.pack_answer-requires
pack_answer-requires c = let a = (small (goal.at.pack_answer-requires c).Else-answer-ne0).0 in (a.taken-small, (a.sent-small, a.delivered-small))

pub returns : goal.returns
unfolding packed
returns c =
    let i = given (goal.at.returns c).Start in
    accepted-packed tables_bytes i _ (tick_in (wider (goal.at.returns c).Start) i) (made (goal.at.returns c).After-tick_in-answer _ c.tick_in-answer.ensures) c.pack_answer.result _ c.pack_answer.ensures c.put_tables.ensures
