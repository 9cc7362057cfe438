-- `setup::questions::check_holdback` meets its contract: question by question. Assumes nothing.
use mathlib.Core.Path.{sym, ◌∙◌}
use mathlib.Core.Bool.{Bool}
use mathlib.Core.List.{[], ◌∷◌}
use lib.Dec.{ltb, eqb}
use lib.ListN.{length}
use borrow.Author.Tests.{le-ltb, lt-ltb, eq-eqb, ne_eqb}
use Rattle.lemmas.proofs.Bounds.{Limits}
use Rattle.lemmas.proofs.Questions.{limits-from, yes-cons, no-cons}
use Rattle.model.specs.Question.{ask, first_no}
use Rattle.model.specs.Tick.{holdback_size}
use Rattle.setup.specs.Views.{setup_of}
use Rattle.setup.proofs.questions.check_holdback.Goals as goal

pub returns-then-setup-clock : goal.returns-then-setup-clock
returns-then-setup-clock c =
    let a = c.args in
    sym (no-cons _ 2 _ (le-ltb a.clock a.setup.modulus c.if-setup-clock.true))

pub holdback_length-requires : goal.holdback_length-requires
holdback_length-requires c =
    let limits : Limits (setup_of c.args.setup) = limits-from (setup_of c.args.setup) c.requires in
    (limits.n-most, (limits.epsilon-most, limits.delta-most))

pub returns-then-holdback-holdback_length : goal.returns-then-holdback-holdback_length
returns-then-holdback-holdback_length c =
    let a = c.args in
    sym (yes-cons _ 2 _ (lt-ltb a.clock a.setup.modulus c.if-setup-clock.false)
    ∙ no-cons _ 3 _ (ne_eqb (length a.holdback.now) (holdback_size (setup_of a.setup)) (λ e. c.if-holdback-holdback_length.true (e ∙ sym c.holdback_length.ensures))))

pub returns : goal.returns
unfolding first_no
returns c =
    let a = c.args in
    let sized : Bool = eqb (length a.holdback.now) (holdback_size (setup_of a.setup)) in
    sym (yes-cons (ltb a.clock a.setup.modulus) 2 (ask sized 3 ∷ []) (lt-ltb a.clock a.setup.modulus c.if-setup-clock.false)
    ∙ yes-cons sized 3 [] (eq-eqb (length a.holdback.now) (holdback_size (setup_of a.setup)) (c.if-holdback-holdback_length.false ∙ c.holdback_length.ensures)))
