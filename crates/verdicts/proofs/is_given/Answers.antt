-- `verdicts::is_given` meets its contract. Assumes nothing.
use borrow.Author.Tests.{eq-eqb, ne_eqb, lt-leb, le-leb}
use Rattle.laws.specs.Lists.{within}
use Rattle.model.specs.Verdicts.{given}
use Rattle.verdicts.proofs.is_given.Goals as goal

pub returns-then-number-eq0 : goal.returns-then-number-eq0
unfolding given
returns-then-number-eq0 c = rw (eq-eqb c.args.number 0 c.if-number-eq0.true)

pub returns-then-number-lt-BAD_FORM : goal.returns-then-number-lt-BAD_FORM
unfolding given within
returns-then-number-lt-BAD_FORM c = rw (ne_eqb c.args.number 0 c.if-number-eq0.false, lt-leb 10 c.args.number c.if-number-lt-BAD_FORM.true)

pub returns : goal.returns
unfolding given within
returns c = rw (ne_eqb c.args.number 0 c.if-number-eq0.false, le-leb 10 c.args.number c.if-number-lt-BAD_FORM.false)
