-- `abi::yarngravel_fresh_last` meets its contract. Assumes nothing.
use native.Mathlib.Omega.{arith}
use mathlib.Core.Path.{◌≡◌, sym, ◌∙◌}
use mathlib.Core.Bool.{true}
use lib.ListN.{length}
use borrow.Author.Tests.{not-true, not-false}
use borrow.Author.Rules.{rules}
use Rattle.model.specs.Setup.{Setup, in_limits}
use Rattle.model.specs.Frame.{two_bytes}
use Rattle.lemmas.proofs.Questions.{limits-from}
use Rattle.abi.specs.Packing.{setup_by}
use Rattle.abi.specs.Fresh.{fresh_last_number, fresh_last_bytes}
use Rattle.abi.proofs.Words.{last_written}
use Rattle.abi.proofs.Fresh.{start-setup, start-clock, start-accepted}
use Rattle.abi.proofs.yarngravel_fresh_last.Goals.{Else-not-in_limits, Start}
use Rattle.abi.proofs.yarngravel_fresh_last.Goals as goal

abbrev setup : Start → Setup
setup c = setup_by c.args.n c.args.epsilon c.args.delta c.args.modulus

pub returns-then-not-in_limits : goal.returns-then-not-in_limits
unfolding fresh_last_number fresh_last_bytes
returns-then-not-in_limits c =
    let t = start-setup (in_limits (setup (goal.at.returns-then-not-in_limits c).Start)) c.args.modulus c.args.clock (two_bytes c.args.clock) c.args.last.now
    (sym c.in_limits.ensures ∙ not-true c.in_limits.result c.if-not-in_limits.true-raw) in record { value = t.0; last_after = t.1 }

-- the setup is in its limits
valid : (c : Else-not-in_limits) → in_limits (setup c.before.before) ≡ true
valid c = sym c.in_limits.ensures ∙ not-false c.in_limits.result c.if-not-in_limits.false-raw

pub returns-then-setup-clock : goal.returns-then-setup-clock
unfolding fresh_last_number fresh_last_bytes
returns-then-setup-clock c = let t = start-clock (in_limits (setup (goal.at.returns-then-setup-clock c).Start)) c.args.modulus c.args.clock (two_bytes c.args.clock) c.args.last.now (valid (goal.at.returns-then-setup-clock c).Else-not-in_limits) c.if-setup-clock.true in record { value = t.0; last_after = t.1 }

pub put_u16-requires : goal.put_u16-requires
put_u16-requires c = (search rules, omega (arith, c.if-setup-clock.false, (limits-from (setup (goal.at.put_u16-requires c).Start) (valid (goal.at.put_u16-requires c).Else-not-in_limits)).modulus-most))

pub returns : goal.returns
unfolding fresh_last_number fresh_last_bytes
returns c =
    let two : length c.args.last.now ≡ 2 = search rules in
    let both = start-accepted (in_limits (setup (goal.at.returns c).Start)) c.args.modulus c.args.clock (two_bytes c.args.clock) c.args.last.now (valid (goal.at.returns c).Else-not-in_limits) (omega (arith, c.if-setup-clock.false)) in
    record { value = both.0; last_after = last_written c.args.last.now _ c.args.clock two c.put_u16.ensures ∙ both.1 }
