-- `timestamp::stamp::Timestamp::sound_beside` meets its contract: each answer is that of the first question that decides.
-- Assumes nothing.
use mathlib.Core.Path.{◌≡◌}
use lib.ListN.{length}
use borrow.Author.Rules.{rules}
use borrow.Author.Tests.{tests}
use Rattle.timestamp.specs.Views.{stamp_of}
use Rattle.timestamp.proofs.Soundness.{tables-are}
use Rattle.timestamp.proofs.stamp.Timestamp.sound_beside.Goals.{Start}
use Rattle.timestamp.proofs.stamp.Timestamp.sound_beside.Goals as goal

long : (c : Start) → length c.args.self.kn ≡ 32
long c = search rules

pub returns-then-clock : goal.returns-then-clock
returns-then-clock c =
    let a = c.args in
    rw (tables-are a.epsilon (stamp_of a.self) c.requires.1.1.1 (long (goal.at.returns-then-clock c).Start) a.n a.clock) (search (rules, tests))
