-- `timestamp::stamp::clock_sound` meets its contract: each answer is that of the first test that decides.
-- Assumes nothing.
use borrow.Author.Rules.{rules}
use borrow.Author.Tests.{tests}
use Rattle.laws.specs.Lists.{within}
use Rattle.timestamp.proofs.stamp.clock_sound.Goals as goal

pub returns-then-r-modulus : goal.returns-then-r-modulus
unfolding within
returns-then-r-modulus c = search (rules, tests)
