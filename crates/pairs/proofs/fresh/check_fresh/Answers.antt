-- `pairs::fresh::check_fresh` meets its contract: one question after the other. Assumes nothing.
use mathlib.Core.Path.{sym, ◌∙◌}
use mathlib.Core.List.{[], ◌∷◌}
use lib.Dec.{ltb}
use borrow.Author.Tests.{lt-ltb, le-ltb}
use Rattle.lemmas.proofs.Questions.{no-cons, yes-cons}
use Rattle.model.specs.Question.{ask, first_no}
use Rattle.model.specs.WiderCalls.{fresh_in_questions}
use Rattle.setup.specs.Views.{setup_of}
use Rattle.pairs.specs.Views.{wider_of}
use Rattle.pairs.proofs.Sides.{refused-others, passed-others}
use Rattle.pairs.proofs.fresh.check_fresh.Goals as goal

pub returns-then-number-ne0 : goal.returns-then-number-ne0
unfolding fresh_in_questions
returns-then-number-ne0 c =
    let a = c.args in
    refused-others (setup_of a.setup) (wider_of a.wider) a.own (ask (ltb a.clock a.setup.modulus) 2 ∷ []) c.check_both-number.result c.check_both-number.ensures c.if-number-ne0.true

pub returns-then-setup-clock : goal.returns-then-setup-clock
unfolding fresh_in_questions
returns-then-setup-clock c =
    let a = c.args in
    sym (passed-others (setup_of a.setup) (wider_of a.wider) a.own (ask (ltb a.clock a.setup.modulus) 2 ∷ []) (sym c.if-number-ne0.false ∙ c.check_both-number.ensures)
    ∙ no-cons _ 2 _ (le-ltb a.clock a.setup.modulus c.if-setup-clock.true))

pub returns : goal.returns
unfolding first_no fresh_in_questions
returns c =
    let a = c.args in
    sym (passed-others (setup_of a.setup) (wider_of a.wider) a.own (ask (ltb a.clock a.setup.modulus) 2 ∷ []) (sym c.if-number-ne0.false ∙ c.check_both-number.ensures)
    ∙ yes-cons (ltb a.clock a.setup.modulus) 2 [] (lt-ltb a.clock a.setup.modulus c.if-setup-clock.false))
