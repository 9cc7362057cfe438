-- `abi::engine::yarngravel_long_fresh` meets its contract. Assumes nothing.
use native.Mathlib.Omega.{arith}
use mathlib.Core.Path.{◌≡◌, sym, ap, ◌∙◌}
use mathlib.Core.Bool.{true}
use mathlib.Core.List.{List}
use Prim.Native.Nat.{ℕ}
use borrow.Author.Tests.{not-true, not-false}
use borrow.Author.Rules.{rules}
use Rattle.model.specs.Setup.{Setup}
use Rattle.model.specs.Timestamp.{Timestamp, fresh, widened}
use Rattle.model.specs.Long.{long_bound, ask_long_setup}
use Rattle.lemmas.proofs.Bounds.{LongLimits}
use Rattle.longframe.proofs.Asking.{valid, setup-from}
use Rattle.abi.specs.Packing.{long_setup_by, long_tables_bytes}
use Rattle.abi.specs.Fresh.{long_fresh_number, long_fresh_bytes}
use Rattle.abi.proofs.Fresh.{start-setup, start-clock, start-accepted}
use Rattle.abi.proofs.engine.yarngravel_long_fresh.Goals.{Else-not-valid_for, Start}
use Rattle.abi.proofs.engine.yarngravel_long_fresh.Goals as goal

abbrev setup : Start → Setup
setup c = long_setup_by c.args.n c.args.epsilon c.args.delta

-- the tables' bytes
abbrev made : Start → List ℕ
made c = long_tables_bytes (widened (fresh c.args.epsilon c.args.clock))

pub returns-then-not-valid_for : goal.returns-then-not-valid_for
unfolding long_fresh_number long_fresh_bytes ask_long_setup
returns-then-not-valid_for c =
    let t = start-setup (valid (setup (goal.at.returns-then-not-valid_for c).Start) c.args.own) long_bound c.args.clock (made (goal.at.returns-then-not-valid_for c).Start) c.args.tables.now
    (sym c.valid_for.ensures ∙ not-true c.valid_for.result c.if-not-valid_for.true-raw) in record { value = t.0; tables_after = t.1 }

-- the setup is valid
is-valid : (c : Else-not-valid_for) → valid (setup c.before.before) c.args.own ≡ true
is-valid c = sym c.valid_for.ensures ∙ not-false c.valid_for.result c.if-not-valid_for.false-raw

limits : (c : Else-not-valid_for) → LongLimits (setup c.before.before)
limits c = setup-from (setup c.before.before) c.args.own (is-valid c)

pub returns-then-v-ge-BOUND : goal.returns-then-v-ge-BOUND
unfolding long_fresh_number long_fresh_bytes ask_long_setup
returns-then-v-ge-BOUND c = let t = start-clock (valid (setup (goal.at.returns-then-v-ge-BOUND c).Start) c.args.own) long_bound c.args.clock (made (goal.at.returns-then-v-ge-BOUND c).Start) c.args.tables.now (is-valid (goal.at.returns-then-v-ge-BOUND c).Else-not-valid_for) c.if-v-ge-BOUND.true in record { value = t.0; tables_after = t.1 }

pub fresh-stamp-requires : goal.fresh-stamp-requires
fresh-stamp-requires c = ((limits (goal.at.fresh-stamp-requires c).Else-not-valid_for).epsilon-pos, (limits (goal.at.fresh-stamp-requires c).Else-not-valid_for).epsilon-most)

pub put_long_tables-requires : goal.put_long_tables-requires
unfolding fresh widened
put_long_tables-requires c = record { s_len = search rules; c_bound = omega (arith, ap (λ (t : Timestamp). t.c) c.fresh-stamp.ensures) }

pub returns : goal.returns
unfolding long_fresh_number long_fresh_bytes ask_long_setup
returns c =
    let both = start-accepted (valid (setup (goal.at.returns c).Start) c.args.own) long_bound c.args.clock (made (goal.at.returns c).Start) c.args.tables.now (is-valid (goal.at.returns c).Else-not-valid_for) (omega (arith, c.if-v-ge-BOUND.false)) in
    record { value = both.0; tables_after = c.put_long_tables.ensures ∙ ap long_tables_bytes c.fresh-stamp.ensures ∙ both.1 }
