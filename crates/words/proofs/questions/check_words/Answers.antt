-- `words::questions::check_words` meets its contract. Assumes nothing.
use mathlib.Core.Path.{sym, ◌∙◌}
use native.Mathlib.Omega.{arith}
use borrow.Author.Tests.{not-true, not-false}
use Rattle.setup.specs.Views.{setup_of}
use Rattle.batch.specs.Walk.{count_of}
use Rattle.words.proofs.Asking.{setup-no, verdicts-no, room-no, room-right}
use Rattle.words.proofs.questions.check_words.Goals as goal

pub returns-then-not-valid_for : goal.returns-then-not-valid_for
returns-then-not-valid_for c =
    sym
    (setup-no (setup_of c.args.setup) c.args.own c.args.batch.now c.args.verdicts.now c.args.text.now
    (sym c.valid_for.ensures ∙ not-true c.valid_for.result c.if-not-valid_for.true-raw))

pub returns-then-number-ne0 : goal.returns-then-number-ne0
returns-then-number-ne0 c =
    verdicts-no (setup_of c.args.setup) c.args.own c.args.batch.now c.args.verdicts.now c.args.text.now
    (sym c.valid_for.ensures ∙ not-false c.valid_for.result c.if-not-valid_for.false-raw)
    c.check_verdicts-number.result c.check_verdicts-number.ensures c.if-number-ne0.true

pub overflow_mul-count_of : goal.overflow_mul-count_of
unfolding count_of
overflow_mul-count_of c = omega (arith, c.count_of.ensures, c.shared_slice_known-1.given 0)

pub returns-then-text-count_of : goal.returns-then-text-count_of
returns-then-text-count_of c =
    sym
    (room-no (setup_of c.args.setup) c.args.own c.args.batch.now c.args.verdicts.now c.args.text.now
    (sym c.valid_for.ensures ∙ not-false c.valid_for.result c.if-not-valid_for.false-raw) (sym c.check_verdicts-number.ensures ∙ c.if-number-ne0.false)
    c.count_of.result c.count_of.ensures c.if-text-count_of.true)

pub returns : goal.returns
returns c =
    sym
    (room-right (setup_of c.args.setup) c.args.own c.args.batch.now c.args.verdicts.now c.args.text.now
    (sym c.valid_for.ensures ∙ not-false c.valid_for.result c.if-not-valid_for.false-raw) (sym c.check_verdicts-number.ensures ∙ c.if-number-ne0.false)
    c.count_of.result c.count_of.ensures c.if-text-count_of.false)
