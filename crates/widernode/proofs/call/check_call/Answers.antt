-- `widernode::call::check_call` meets its contract. Assumes nothing.
use mathlib.Core.Path.{◌≡◌, sym, ap, ◌∙◌}
use mathlib.Core.Bool.{Bool}
use mathlib.Core.List.{[], ◌∷◌}
use Rattle.model.specs.Setup.{Setup, in_limits}
use Rattle.model.specs.Question.{first_no}
use Rattle.model.specs.Tick.{Input}
use Rattle.model.specs.Schedule.{ask_both, ask_wider}
use Rattle.model.specs.Wider.{sized_questions}
use Rattle.lemmas.proofs.Questions.{limits-to}
use Rattle.setup.specs.Views.{setup_of}
use Rattle.timestamp.specs.declared.stamp.Timestamp.{Timestamp}
use Rattle.node.specs.Views.{call_input}
use Rattle.pairs.specs.Views.{wider_of}
use Rattle.pairs.proofs.Sides.{both-passed}
use Rattle.widernode.proofs.Calls.{both-no, sized-left}
use Rattle.widernode.proofs.call.check_call.Goals.{Else-number-ne0, Start}
use Rattle.widernode.proofs.call.check_call.Goals as goal

abbrev input : Start → Timestamp → Bool → Input
input c tables send = call_input c.args.setup c.args.own c.args.clock tables c.args.holdback.now c.args.batch.now send c.args.payload.now c.args.outgoing.now c.args.verdicts.now c.args.delivery.now

-- 1 and 19 get a yes
yes : (c : Else-number-ne0) → first_no (ask_both (setup_of c.args.setup) (wider_of c.args.wider) c.args.own ∷ ask_wider (setup_of c.args.setup) (wider_of c.args.wider) ∷ []) ≡ 0
yes c = sym c.check_both-number.ensures ∙ c.if-number-ne0.false

pub returns-then-number-ne0 : goal.returns-then-number-ne0
returns-then-number-ne0 c = λ tables send. both-no (wider_of c.args.wider) (input (goal.at.returns-then-number-ne0 c).Start tables send) c.check_both-number.result c.check_both-number.ensures c.if-number-ne0.true

pub check_sized-requires : goal.check_sized-requires
check_sized-requires c =
    let s = setup_of c.args.setup in
    let w = wider_of c.args.wider in
    ap in_limits c.wider_setup-widest.ensures ∙ limits-to _ (both-passed s w c.args.own [] (yes (goal.at.check_sized-requires c).Else-number-ne0)).0.widens.new

pub returns : goal.returns
returns c =
    λ tables send.
    sized-left (wider_of c.args.wider) (input (goal.at.returns c).Start tables send) c.check_sized.result (yes (goal.at.returns c).Else-number-ne0)
    (c.check_sized.ensures c.args.setup c.args.own tables send ∙ ap (λ (s : Setup). first_no (sized_questions s (input (goal.at.returns c).Start tables send))) c.wider_setup-widest.ensures)
