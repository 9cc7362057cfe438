-- `timestamp::stamp::sound_counts` meets its contract: each answer is that of the first question that decides.
-- Assumes nothing.
use borrow.Author.Rules.{rules}
use borrow.Author.Tests.{tests}
use Rattle.timestamp.proofs.Soundness.{sound-asked}
use Rattle.timestamp.proofs.stamp.sound_counts.Goals as goal

pub returns-then-kn-epsilon-ge1 : goal.returns-then-kn-epsilon-ge1
returns-then-kn-epsilon-ge1 c =
    let a = c.args in
    rw (sound-asked a.n a.epsilon a.c a.kn.now c.requires.1.0 c.requires.1.1.1) (search (rules, tests))

pub returns-else-kn-epsilon-ge1 : goal.returns-else-kn-epsilon-ge1
returns-else-kn-epsilon-ge1 c =
    let a = c.args in
    rw (sound-asked a.n a.epsilon a.c a.kn.now c.requires.1.0 c.requires.1.1.1) (search (rules, tests))
