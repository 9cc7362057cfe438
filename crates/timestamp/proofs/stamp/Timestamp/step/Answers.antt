-- `timestamp::stamp::Timestamp::step` meets its contract: the counts but the first k are copied, and what stands past them is 0.
-- Assumes nothing.
use Rattle.timestamp.proofs.Steps.{step-widened}
use mathlib.Core.Path.{◌≡◌}
use lib.ListN.{length}
use borrow.Author.Rules.{rules}
use Rattle.timestamp.proofs.stamp.Timestamp.step.Goals.{Start}
use Rattle.timestamp.proofs.stamp.Timestamp.step.Goals as goal

long : (c : Start) → length c.args.self.kn ≡ 32
long c = search rules

pub returns : goal.returns
returns c = step-widened _ _ c.requires.1 (long (goal.at.returns c).Start) _ _ _ _ c.requires.0 c.saturating_sub.ensures c.counts_of-kn.ensures
