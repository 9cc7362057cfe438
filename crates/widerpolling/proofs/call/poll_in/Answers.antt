-- `widerpolling::call::poll_in` meets its contract: 1 and 19, then the plain poll or the one by both pairs. Assumes nothing.
use mathlib.Core.Path.{◌≡◌, ◌∙◌, sym}
use mathlib.Core.List.{[], ◌∷◌}
use Rattle.model.specs.Setup.{Setup}
use Rattle.model.specs.Question.{first_no}
use Rattle.model.specs.Schedule.{Wider, ask_both, ask_wider}
use Rattle.lemmas.proofs.WiderCall.{BothPairs}
use Rattle.setup.specs.Views.{setup_of}
use Rattle.pairs.specs.Views.{wider_of}
use Rattle.widerpolling.proofs.Asking.{in-refused, in-passed, in-behind, in-equal}
use borrow.Author.Rules.{rules}
use Rattle.widerpolling.proofs.call.poll_in.Goals.{Else-number-ne0}
use Rattle.widerpolling.proofs.call.poll_in.Goals as goal

pub returns-then-number-ne0 : goal.returns-then-number-ne0
returns-then-number-ne0 c =
    let a = c.args in
    c.nothing.ensures ∙ in-refused (setup_of a.setup) (wider_of a.wider) a.own a.clock a.d a.holdback.now c.check_both-number.result c.check_both-number.ensures c.if-number-ne0.true

-- 1 and 19 get a yes
module _ (c : Else-number-ne0) where
  abbrev s : Setup
  s = setup_of c.args.setup

  abbrev w : Wider
  w = wider_of c.args.wider

  yes_both : 0 ≡ first_no (ask_both s w c.args.own ∷ ask_wider s w ∷ [])
  yes_both = sym c.if-number-ne0.false ∙ c.check_both-number.ensures

  both : BothPairs s w
  both = in-passed s w c.args.own c.args.clock c.args.d c.args.holdback.now yes_both

pub returns-then-same_pairs : goal.returns-then-same_pairs
returns-then-same_pairs c =
    let a = c.args in
    c.poll.ensures ∙ in-equal (s (goal.at.returns-then-same_pairs c).Else-number-ne0) (w (goal.at.returns-then-same_pairs c).Else-number-ne0) a.own a.clock a.d a.holdback.now (both (goal.at.returns-then-same_pairs c).Else-number-ne0) (sym c.same_pairs.ensures ∙ c.if-same_pairs.true)

pub poll_both-requires : goal.poll_both-requires
poll_both-requires c = (both (goal.at.poll_both-requires c).Else-number-ne0, (sym c.same_pairs.ensures ∙ c.if-same_pairs.false, search rules))

pub returns : goal.returns
returns c =
    let a = c.args in
    c.poll_both.ensures ∙ in-behind (s (goal.at.returns c).Else-number-ne0) (w (goal.at.returns c).Else-number-ne0) a.own a.clock a.d a.holdback.now (yes_both (goal.at.returns c).Else-number-ne0)
