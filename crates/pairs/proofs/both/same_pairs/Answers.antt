-- `pairs::both::same_pairs` meets its contract. Assumes nothing.
use borrow.Author.Tests.{eq-eqb, ne_eqb}
use Rattle.model.specs.Schedule.{same_pairs}
use Rattle.pairs.proofs.both.same_pairs.Goals as goal

pub returns-then-wider-setup : goal.returns-then-wider-setup
unfolding same_pairs
returns-then-wider-setup c = rw (ne_eqb _ _ c.if-wider-setup.true)

pub returns : goal.returns
unfolding same_pairs
returns c = rw (eq-eqb _ _ c.if-wider-setup.false)
