-- `trace::parse::setup_number` meets its contract. Assumes nothing.
use mathlib.Core.Path.{sym, ap, ◌∙◌}
use borrow.Author.Tests.{not-true, not-false}
use Rattle.model.specs.Tick.{holdback_size}
use Rattle.lemmas.proofs.Questions.{setup-from}
use Rattle.setup.specs.Views.{setup_of}
use Rattle.trace.specs.Trace.{NodeSetup, is_valid}
use Rattle.trace.proofs.Ticks.{setup-cut, setup-out, setup-large, setup-good}
use native.Mathlib.Omega.{arith}
use Rattle.trace.proofs.parse.setup_number.Goals as goal

pub returns-then-s-size : goal.returns-then-s-size
returns-then-s-size c = setup-cut c.args.size c.args.s.now c.if-s-size.true

pub returns-then-not-valid_for : goal.returns-then-not-valid_for
returns-then-not-valid_for c =
    setup-out c.args.size c.args.s.now c.if-s-size.false
    (ap is_valid (sym c.read_setup-read.ensures) ∙ sym c.valid_for.ensures ∙ not-true c.valid_for.result c.if-not-valid_for.true-raw)

pub holdback_length-requires : goal.holdback_length-requires
holdback_length-requires c =
    let limits = (setup-from (setup_of c.read_setup-read.result.setup) c.read_setup-read.result.own (sym c.valid_for.ensures ∙ not-false c.valid_for.result c.if-not-valid_for.false-raw)).0 in
    (limits.n-most, (limits.epsilon-most, limits.delta-most))

pub returns-then-holdback_length-gt65536 : goal.returns-then-holdback_length-gt65536
returns-then-holdback_length-gt65536 c =
    setup-large c.args.size c.args.s.now c.if-s-size.false (ap is_valid (sym c.read_setup-read.ensures) ∙ sym c.valid_for.ensures ∙ not-false c.valid_for.result c.if-not-valid_for.false-raw)
    (omega (arith, c.if-holdback_length-gt65536.true, c.holdback_length.ensures, ap (λ (x : NodeSetup). holdback_size x.setup) c.read_setup-read.ensures))

pub returns : goal.returns
returns c =
    setup-good c.args.size c.args.s.now c.if-s-size.false (ap is_valid (sym c.read_setup-read.ensures) ∙ sym c.valid_for.ensures ∙ not-false c.valid_for.result c.if-not-valid_for.false-raw)
    (omega (arith, c.if-holdback_length-gt65536.false, c.holdback_length.ensures, ap (λ (x : NodeSetup). holdback_size x.setup) c.read_setup-read.ensures))
