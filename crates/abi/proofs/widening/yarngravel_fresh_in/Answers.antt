-- `abi::yarngravel_fresh_in` meets its contract. Assumes nothing.
use Prim.Native.Nat.{ℕ}
use native.Mathlib.Omega.{arith}
use mathlib.Core.Path.{◌≡◌, ◌∙◌, sym, ap}
use mathlib.Core.List.{List}
use borrow.Author.Rules.{rules}
use Rattle.model.specs.Setup.{Setup}
use Rattle.model.specs.Timestamp.{Timestamp, widened, fresh}
use Rattle.model.specs.Question.{first_no}
use Rattle.model.specs.Schedule.{Wider}
use Rattle.model.specs.WiderCalls.{fresh_in_questions, fresh_in}
use Rattle.lemmas.proofs.WiderCall.{BothPairs}
use Rattle.setup.specs.Views.{setup_of}
use Rattle.pairs.specs.Views.{wider_of}
use Rattle.abi.specs.Packing.{tables_bytes}
use Rattle.abi.specs.Both.{setup_in, own_in, wider_in}
use Rattle.abi.specs.Fresh.{fresh_in_number, fresh_in_bytes}
use Rattle.abi.proofs.Fresh.{not-started, started}
use Rattle.abi.proofs.Both.{fresh-both, fresh-clock}
use Rattle.abi.proofs.widening.yarngravel_fresh_in.Goals.{After-check_fresh-number, After-fresh_tables-stamp, Else-number-ne0, Start}
use Rattle.abi.proofs.widening.yarngravel_fresh_in.Goals as goal

-- the questions' answer, from the numbers
abbrev asked : Start → ℕ
asked c = first_no (fresh_in_questions (setup_in c.args.setup.now) (wider_in c.args.setup.now) (own_in c.args.setup.now) c.args.clock)

abbrev made : Start → List ℕ
made c = tables_bytes (widened (fresh_in (setup_in c.args.setup.now) (wider_in c.args.setup.now) c.args.clock))

number_is : (c : After-check_fresh-number) → c.check_fresh-number.result ≡ asked c.before.before.before.before
number_is c =
    let a = c.args in
    c.check_fresh-number.ensures
    ∙ (ap (λ (s : Setup). first_no (fresh_in_questions s (wider_of c.wider_of-wider.result) c.own_of-own.result a.clock)) c.setup_of-before.ensures
    ∙ (ap (λ (w : Wider). first_no (fresh_in_questions (setup_in a.setup.now) w c.own_of-own.result a.clock)) c.wider_of-wider.ensures
    ∙ ap (λ (k : ℕ). first_no (fresh_in_questions (setup_in a.setup.now) (wider_in a.setup.now) k a.clock)) c.own_of-own.ensures))

pub returns-then-number-ne0 : goal.returns-then-number-ne0
unfolding fresh_in_number fresh_in_bytes
returns-then-number-ne0 c =
    let number = number_is (goal.at.returns-then-number-ne0 c).After-check_fresh-number in
    record { value = number; tables_after = not-started (asked (goal.at.returns-then-number-ne0 c).Start) (made (goal.at.returns-then-number-ne0 c).Start) c.args.tables.now (λ z. c.if-number-ne0.true (number ∙ z)) }

passed : (c : Else-number-ne0) → asked c.before.before.before.before.before ≡ 0
passed c = sym (number_is c.before) ∙ c.if-number-ne0.false

both : (c : Else-number-ne0) → BothPairs (setup_of c.setup_of-before.result) (wider_of c.wider_of-wider.result)
both c =
    let a = c.args in
    fresh-both (setup_in a.setup.now) (wider_in a.setup.now) (own_in a.setup.now) a.clock (setup_of c.setup_of-before.result) (wider_of c.wider_of-wider.result)
    c.setup_of-before.ensures c.wider_of-wider.ensures (passed c)

pub fresh_tables-stamp-requires : goal.fresh_tables-stamp-requires
fresh_tables-stamp-requires c = both (goal.at.fresh_tables-stamp-requires c).Else-number-ne0

-- the tables, from the numbers
stamp-is : (c : After-fresh_tables-stamp) → tables_bytes (widened (fresh_in (setup_of c.setup_of-before.result) (wider_of c.wider_of-wider.result) c.args.clock)) ≡ made c.before.before.before.before.before.before
stamp-is c =
    let a = c.args in
    ap (λ (s : Setup). tables_bytes (widened (fresh_in s (wider_of c.wider_of-wider.result) a.clock))) c.setup_of-before.ensures
    ∙ ap (λ (w : Wider). tables_bytes (widened (fresh_in (setup_in a.setup.now) w a.clock))) c.wider_of-wider.ensures

pub put_tables-requires : goal.put_tables-requires
unfolding fresh_in fresh widened
put_tables-requires c =
    let a = c.args in record {
      s_len = search rules;
      r_bound = (
        omega (arith, ap (λ (t : Timestamp). t.r) c.fresh_tables-stamp.ensures, fresh-clock (setup_in a.setup.now) (wider_in a.setup.now) (own_in a.setup.now) a.clock (passed (goal.at.put_tables-requires c).Else-number-ne0)),
        omega (arith, ap (λ (t : Timestamp). t.c) c.fresh_tables-stamp.ensures),
      );
    }

pub returns : goal.returns
unfolding fresh_in_number fresh_in_bytes
returns c =
    let zero_number = passed (goal.at.returns c).Else-number-ne0 in
    record { value = sym zero_number; tables_after = c.put_tables.ensures ∙ (ap tables_bytes c.fresh_tables-stamp.ensures ∙ (stamp-is (goal.at.returns c).After-fresh_tables-stamp ∙ started (asked (goal.at.returns c).Start) (made (goal.at.returns c).Start) c.args.tables.now zero_number)) }
