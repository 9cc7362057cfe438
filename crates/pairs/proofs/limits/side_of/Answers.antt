-- `pairs::limits::side_of` meets its contract. Assumes nothing.
use borrow.Author.Tests.{eq-eqb, ne_eqb}
use Rattle.model.specs.Setup.{width}
use Rattle.pairs.proofs.limits.side_of.Goals as goal

pub returns-then-count-p : goal.returns-then-count-p
unfolding width
returns-then-count-p c = rw (eq-eqb _ _ c.if-count-p.true)

pub returns : goal.returns
unfolding width
returns c = rw (ne_eqb _ _ c.if-count-p.false)
