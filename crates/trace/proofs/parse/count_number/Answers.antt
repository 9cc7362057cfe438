-- `trace::parse::count_number` meets its contract. Assumes nothing.
use borrow.Author.Tests.{le-leb, lt-leb}
use lib.ListN.{length}
use Rattle.model.specs.Question.{first_no}
use Rattle.trace.specs.Trace.{count_number}
use Rattle.trace.proofs.parse.count_number.Goals as goal

pub returns-then-s-lt-COUNT_LENGTH : goal.returns-then-s-lt-COUNT_LENGTH
unfolding count_number first_no
returns-then-s-lt-COUNT_LENGTH c = rw (lt-leb 2 (length c.args.s.now) c.if-s-lt-COUNT_LENGTH.true)

pub returns : goal.returns
unfolding count_number first_no
returns c = rw (le-leb 2 (length c.args.s.now) c.if-s-lt-COUNT_LENGTH.false)
