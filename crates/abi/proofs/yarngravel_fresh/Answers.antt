-- `abi::yarngravel_fresh` meets its contract. Assumes nothing.
use native.Mathlib.Omega.{arith}
use mathlib.Core.Path.{◌≡◌, sym, ap, ◌∙◌}
use mathlib.Core.Bool.{Bool, true, ◌&&◌}
use mathlib.Core.List.{List}
use Prim.Native.Nat.{ℕ}
use borrow.Author.Tests.{not-true, not-false}
use borrow.Author.Rules.{rules}
use Rattle.model.specs.Setup.{Setup, in_limits, is_member}
use Rattle.model.specs.Timestamp.{Timestamp, fresh, widened}
use Rattle.model.specs.Question.{ask_setup}
use Rattle.lemmas.proofs.Bounds.{Limits}
use Rattle.lemmas.proofs.Questions.{setup-from}
use Rattle.abi.specs.Packing.{setup_by, tables_bytes}
use Rattle.abi.specs.Fresh.{fresh_number, fresh_bytes}
use Rattle.abi.proofs.Fresh.{start-setup, start-clock, start-accepted}
use Rattle.abi.proofs.yarngravel_fresh.Goals.{Else-not-valid_for, Start}
use Rattle.abi.proofs.yarngravel_fresh.Goals as goal

abbrev setup : Start → Setup
setup c = setup_by c.args.n c.args.epsilon c.args.delta c.args.modulus

-- whether it is valid, and the tables' bytes
abbrev asked : Start → Bool
asked c = in_limits (setup c) && is_member (setup c) c.args.own

abbrev made : Start → List ℕ
made c = tables_bytes (widened (fresh c.args.epsilon c.args.clock))

pub returns-then-not-valid_for : goal.returns-then-not-valid_for
unfolding fresh_number fresh_bytes ask_setup
returns-then-not-valid_for c =
    let t = start-setup (asked (goal.at.returns-then-not-valid_for c).Start) c.args.modulus c.args.clock (made (goal.at.returns-then-not-valid_for c).Start) c.args.tables.now
    (sym c.valid_for.ensures ∙ not-true c.valid_for.result c.if-not-valid_for.true-raw) in record { value = t.0; tables_after = t.1 }

-- the setup is valid
valid : (c : Else-not-valid_for) → asked c.before.before ≡ true
valid c = sym c.valid_for.ensures ∙ not-false c.valid_for.result c.if-not-valid_for.false-raw

limits : (c : Else-not-valid_for) → Limits (setup c.before.before)
limits c = (setup-from (setup c.before.before) c.args.own (valid c)).0

pub returns-then-modulus-clock : goal.returns-then-modulus-clock
unfolding fresh_number fresh_bytes ask_setup
returns-then-modulus-clock c = let t = start-clock (asked (goal.at.returns-then-modulus-clock c).Start) c.args.modulus c.args.clock (made (goal.at.returns-then-modulus-clock c).Start) c.args.tables.now (valid (goal.at.returns-then-modulus-clock c).Else-not-valid_for) c.if-modulus-clock.true in record { value = t.0; tables_after = t.1 }

pub fresh-stamp-requires : goal.fresh-stamp-requires
fresh-stamp-requires c = ((limits (goal.at.fresh-stamp-requires c).Else-not-valid_for).epsilon-pos, (limits (goal.at.fresh-stamp-requires c).Else-not-valid_for).epsilon-most)

pub put_tables-requires : goal.put_tables-requires
unfolding fresh widened
put_tables-requires c = record { s_len = search rules; r_bound = (omega (arith, ap (λ (t : Timestamp). t.r) c.fresh-stamp.ensures, c.if-modulus-clock.false, (limits (goal.at.put_tables-requires c).Else-not-valid_for).modulus-most), omega (arith, ap (λ (t : Timestamp). t.c) c.fresh-stamp.ensures)) }

pub returns : goal.returns
unfolding fresh_number fresh_bytes ask_setup
returns c =
    let both = start-accepted (asked (goal.at.returns c).Start) c.args.modulus c.args.clock (made (goal.at.returns c).Start) c.args.tables.now (valid (goal.at.returns c).Else-not-valid_for) (omega (arith, c.if-modulus-clock.false)) in
    record { value = both.0; tables_after = c.put_tables.ensures ∙ ap tables_bytes c.fresh-stamp.ensures ∙ both.1 }
