-- `observer::call::check_listen` meets its contract. Assumes nothing.
use Prim.Native.Nat.{ℕ}
use mathlib.Core.Path.{◌≡◌, ◌∙◌, sym}
use mathlib.Core.Bool.{true}
use borrow.Author.Tests.{not-true, not-false}
use Rattle.model.specs.Setup.{in_limits}
use Rattle.model.specs.Observer.{Listening}
use Rattle.setup.specs.Views.{setup_of}
use Rattle.observer.specs.Views.{listen_input}
use Rattle.observer.proofs.Calls.{setup-no, sized-left}
use Rattle.observer.proofs.call.check_listen.Goals.{Else-not-in_limits, Start}
use Rattle.observer.proofs.call.check_listen.Goals as goal

abbrev input : Start → ℕ → Listening
input c last = listen_input c.args.setup c.args.clock last c.args.holdback.now c.args.batch.now c.args.verdicts.now c.args.delivery.now

-- what each test leaves
limits : (c : Else-not-in_limits) → in_limits (setup_of c.args.setup) ≡ true
limits c = sym c.in_limits.ensures ∙ not-false c.in_limits.result c.if-not-in_limits.false-raw

pub returns-then-not-in_limits : goal.returns-then-not-in_limits
returns-then-not-in_limits c = λ last. setup-no (input (goal.at.returns-then-not-in_limits c).Start last) (sym c.in_limits.ensures ∙ not-true c.in_limits.result c.if-not-in_limits.true-raw)

pub check_sized-requires : goal.check_sized-requires
check_sized-requires c = limits (goal.at.check_sized-requires c).Else-not-in_limits

pub returns : goal.returns
returns c = λ last. sized-left (input (goal.at.returns c).Start last) c.check_sized.result (limits (goal.at.returns c).Else-not-in_limits) (c.check_sized.ensures c.args.setup last)
