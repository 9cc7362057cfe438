-- `timestamp::stamp::Timestamp::count_own` meets its contract: the own count lies within the 2ε counts.
-- Assumes nothing.
use mathlib.Core.Path.{◌≡◌}
use lib.ListN.{length}
use Rattle.timestamp.proofs.Steps.{count-own-widened}
use Rattle.timestamp.specs.Views.{stamp_of}
use borrow.Author.Rules.{rules}
use Rattle.timestamp.proofs.stamp.Timestamp.count_own.Goals.{Start}
use Rattle.timestamp.proofs.stamp.Timestamp.count_own.Goals as goal

long : (c : Start) → length c.args.self.kn ≡ 32
long c = search rules

pub returns : goal.returns
returns c = count-own-widened c.args.epsilon (stamp_of c.args.self) c.requires.le_epsilon.1.0 (long (goal.at.returns c).Start) c.args.clock c.requires.le_epsilon.0 c.requires.self_value
