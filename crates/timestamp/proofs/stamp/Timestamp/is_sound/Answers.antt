-- `timestamp::stamp::Timestamp::is_sound` meets its contract: the first 2ε places are the counts.
-- Assumes nothing.
use mathlib.Core.Path.{◌≡◌, ◌∙◌}
use lib.ListN.{length}
use borrow.Author.Rules.{rules}
use Rattle.timestamp.proofs.Soundness.{sound-trimmed}
use Rattle.timestamp.specs.Views.{stamp_of}
use Rattle.timestamp.proofs.stamp.Timestamp.is_sound.Goals.{Start}
use Rattle.timestamp.proofs.stamp.Timestamp.is_sound.Goals as goal

long : (c : Start) → length c.args.self.kn ≡ 32
long c = search rules

pub returns : goal.returns
returns c = c.sound_counts.ensures ∙ sound-trimmed c.args.epsilon (stamp_of c.args.self) c.requires.1.1 (long (goal.at.returns c).Start) c.args.n
