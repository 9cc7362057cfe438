-- `observer::call::check_sized` meets its contract. Assumes nothing.
use Prim.Native.Nat.{ℕ}
use mathlib.Core.Path.{◌≡◌, ◌∙◌, sym, ap}
use mathlib.Core.Bool.{true, ◌&&◌}
use lib.Dec.{leb}
use lib.ListN.{length}
use borrow.Author.Tests.{not-true, not-false}
use Rattle.model.specs.Setup.{verdict_length}
use Rattle.model.specs.Batch.{exact_batch}
use Rattle.model.specs.Question.{first_no}
use Rattle.model.specs.Tick.{delivery_roomy, holdback_questions}
use Rattle.model.specs.Observer.{Listening}
use Rattle.lemmas.proofs.Questions.{holdback-passed}
use Rattle.setup.specs.Views.{setup_of}
use Rattle.setup.specs.declared.limits.Setup.{Setup}
use Rattle.observer.specs.Views.{listen_input}
use Rattle.observer.proofs.Calls.{holdback-no, batch-no, delivery-no, none-no}
use Rattle.observer.proofs.call.check_sized.Lts.View as view
use Rattle.observer.proofs.call.check_sized.Goals.{After-delivery_roomy, Else-not-exact, Else-number-ne0, Start}
use Rattle.observer.proofs.call.check_sized.Goals as goal

abbrev input : Start → Setup → ℕ → Listening
input c given last = listen_input given c.args.clock last c.args.holdback.now c.args.batch.now c.args.verdicts.now c.args.delivery.now

-- what each test leaves
holdback-yes : (c : Else-number-ne0) → first_no (holdback_questions (setup_of c.args.setup) c.args.clock c.args.holdback.now) ≡ 0
holdback-yes c = sym c.check_holdback-number.ensures ∙ c.if-number-ne0.false

exact : (c : Else-not-exact) → exact_batch c.args.batch.now ≡ true
exact c = sym c.exact.ensures ∙ not-false c.exact.result c.if-not-exact.false-raw

-- the shelf has its length, so the hand-out buffer is held to it
roomy : (c : After-delivery_roomy) → c.delivery_roomy.result ≡ delivery_roomy (setup_of c.args.setup) c.args.verdicts.now c.args.delivery.now
roomy c =
    c.delivery_roomy.ensures
    ∙ ap (λ (n : ℕ). leb verdict_length (length c.args.verdicts.now) && leb n (length c.args.delivery.now))
    (holdback-passed (setup_of c.args.setup) c.args.clock c.args.holdback.now (holdback-yes (view.up-Else-number-ne0 _ _ _ c.before.before.before.before))).1

pub returns-then-number-ne0 : goal.returns-then-number-ne0
returns-then-number-ne0 c = λ given last. holdback-no (setup_of c.args.setup) (input (goal.at.returns-then-number-ne0 c).Start given last) c.check_holdback-number.result c.check_holdback-number.ensures c.if-number-ne0.true

pub returns-then-not-exact : goal.returns-then-not-exact
returns-then-not-exact c = λ given last. batch-no (setup_of c.args.setup) (input (goal.at.returns-then-not-exact c).Start given last) (holdback-yes (goal.at.returns-then-not-exact c).Else-number-ne0) (sym c.exact.ensures ∙ not-true c.exact.result c.if-not-exact.true-raw)

pub returns-then-not-delivery_roomy : goal.returns-then-not-delivery_roomy
returns-then-not-delivery_roomy c = λ given last. delivery-no (setup_of c.args.setup) (input (goal.at.returns-then-not-delivery_roomy c).Start given last) (holdback-yes (goal.at.returns-then-not-delivery_roomy c).Else-number-ne0) (exact (goal.at.returns-then-not-delivery_roomy c).Else-not-exact) (sym (roomy (goal.at.returns-then-not-delivery_roomy c).After-delivery_roomy) ∙ not-true c.delivery_roomy.result c.if-not-delivery_roomy.true-raw)

pub returns : goal.returns
returns c = λ given last. none-no (setup_of c.args.setup) (input (goal.at.returns c).Start given last) (holdback-yes (goal.at.returns c).Else-number-ne0) (exact (goal.at.returns c).Else-not-exact) (sym (roomy (goal.at.returns c).After-delivery_roomy) ∙ not-false c.delivery_roomy.result c.if-not-delivery_roomy.false-raw)
