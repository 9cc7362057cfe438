-- `frame::reader::check_read` meets its contract. Assumes nothing.
use mathlib.Core.Path.{◌∙◌, sym}
use borrow.Author.Tests.{not-true, not-false}
use Rattle.laws.proofs.Numbers.{and_left}
use Rattle.model.specs.Setup.{in_limits}
use Rattle.frame.proofs.Asking.{setup-no, setup-right}
use Rattle.setup.specs.Views.{setup_of}
use Rattle.model.specs.Codec.{read_questions}
use Rattle.model.specs.Question.{frame_questions}
use Rattle.frame.proofs.reader.check_read.Goals as goal

pub returns-then-not-valid_for : goal.returns-then-not-valid_for
unfolding read_questions
returns-then-not-valid_for c = sym (setup-no (setup_of c.args.setup) c.args.own (frame_questions (setup_of c.args.setup) c.args.frame.now) (sym c.valid_for.ensures ∙ not-true c.valid_for.result c.if-not-valid_for.true-raw))

pub check-requires : goal.check-requires
check-requires c =
    and_left (in_limits (setup_of c.args.setup)) _
    (sym c.valid_for.ensures ∙ not-false c.valid_for.result c.if-not-valid_for.false-raw)

pub returns : goal.returns
unfolding read_questions
returns c = c.check.ensures ∙ sym (setup-right (setup_of c.args.setup) c.args.own (frame_questions (setup_of c.args.setup) c.args.frame.now) (sym c.valid_for.ensures ∙ not-false c.valid_for.result c.if-not-valid_for.false-raw))
