-- `longframe::reader::check_read` meets its contract. Assumes nothing.
use mathlib.Core.Path.{◌∙◌, sym}
use borrow.Author.Tests.{not-true, not-false}
use Rattle.laws.proofs.Numbers.{and_left}
use Rattle.model.specs.Long.{long_limits}
use Rattle.longframe.proofs.Asking.{setup-no, setup-right}
use Rattle.setup.specs.Views.{setup_of}
use Rattle.longframe.proofs.reader.check_read.Goals as goal

pub returns-then-not-valid_for : goal.returns-then-not-valid_for
returns-then-not-valid_for c =
    let a = c.args in
    sym (setup-no (setup_of a.setup) a.own a.frame.now (sym c.valid_for.ensures ∙ not-true c.valid_for.result c.if-not-valid_for.true-raw))

pub check-requires : goal.check-requires
check-requires c =
    and_left (long_limits (setup_of c.args.setup)) _
    (sym c.valid_for.ensures ∙ not-false c.valid_for.result c.if-not-valid_for.false-raw)

pub returns : goal.returns
returns c =
    let a = c.args in
    c.check.ensures
    ∙ sym (setup-right (setup_of a.setup) a.own a.frame.now (sym c.valid_for.ensures ∙ not-false c.valid_for.result c.if-not-valid_for.false-raw))
