-- `trace::parse::end_number` meets its contract. Assumes nothing.
use borrow.Author.Tests.{eq-eqb, ne_eqb}
use native.Mathlib.Omega.{arith}
use Rattle.model.specs.Question.{first_no}
use Rattle.trace.specs.Trace.{end_number}
use Rattle.trace.proofs.parse.end_number.Goals as goal

pub returns-then-more-gt0 : goal.returns-then-more-gt0
unfolding end_number first_no
returns-then-more-gt0 c = rw (ne_eqb c.args.more 0 (omega arith))

pub returns : goal.returns
unfolding end_number first_no
returns c = rw (eq-eqb c.args.more 0 (omega arith))
