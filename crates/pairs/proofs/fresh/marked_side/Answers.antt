-- `pairs::fresh::marked_side` meets its contract. Assumes nothing.
use borrow.Author.Tests.{eq-eqb, ne_eqb}
use Rattle.pairs.proofs.fresh.marked_side.Goals as goal

pub returns-then-wider-eq1 : goal.returns-then-wider-eq1
returns-then-wider-eq1 c = rw (eq-eqb _ _ c.if-wider-eq1.true) c.wider_setup.ensures

pub returns : goal.returns
returns c = rw (ne_eqb _ _ c.if-wider-eq1.false)
