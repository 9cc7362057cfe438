-- `pairs::both::check_wider` meets its contract: one question after the other. Assumes nothing.
use borrow.Author.Tests.{le-leb, lt-leb}
use Rattle.model.specs.Question.{first_no}
use Rattle.model.specs.Schedule.{ask_wider}
use Rattle.pairs.proofs.both.check_wider.Goals as goal

pub returns-then-wider-setup : goal.returns-then-wider-setup
unfolding first_no ask_wider
returns-then-wider-setup c = rw (lt-leb _ _ c.if-wider-setup.true)

pub returns-then-wider-setup-2 : goal.returns-then-wider-setup-2
unfolding first_no ask_wider
returns-then-wider-setup-2 c = rw (le-leb _ _ c.if-wider-setup.false, lt-leb _ _ c.if-wider-setup-2.true)

pub returns : goal.returns
unfolding first_no ask_wider
returns c = rw (le-leb _ _ c.if-wider-setup.false, le-leb _ _ c.if-wider-setup-2.false)
