-- `pairs::limits::limits_at` meets its contract. Assumes nothing.
use borrow.Author.Tests.{lt-ltb, le-ltb}
use Rattle.pairs.proofs.limits.limits_at.Goals as goal

pub returns-then-reading-p : goal.returns-then-reading-p
returns-then-reading-p c = rw (lt-ltb _ _ c.if-reading-p.true)

pub returns : goal.returns
returns c = rw (le-ltb _ _ c.if-reading-p.false)
