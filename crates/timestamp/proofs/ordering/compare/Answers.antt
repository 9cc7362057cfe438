-- `timestamp::ordering::compare` meets its contract: places past the 2ε counts are not looked at.
-- Assumes nothing.
use mathlib.Core.Path.{◌≡◌}
use lib.ListN.{length}
use Rattle.timestamp.specs.Views.{stamp_of}
use Rattle.timestamp.proofs.Ordered.{key-trimmed}
use borrow.Author.Rules.{rules}
use Rattle.timestamp.proofs.ordering.compare.Goals.{Start}
use Rattle.timestamp.proofs.ordering.compare.Goals as goal

long-f : (c : Start) → length c.args.f.kn ≡ 32
long-f c = search rules

long-g : (c : Start) → length c.args.g.kn ≡ 32
long-g c = search rules

pub returns : goal.returns
returns c =
    rw (
      ← key-trimmed c.args.epsilon c.args.at_f c.args.station_f (stamp_of c.args.f) c.requires.epsilon_bound.0 (long-f (goal.at.returns c).Start) c.requires.epsilon_bound.1.0,
      ← key-trimmed c.args.epsilon c.args.at_g c.args.station_g (stamp_of c.args.g) c.requires.epsilon_bound.0 (long-g (goal.at.returns c).Start) c.requires.epsilon_bound.1.1,
    )
    c.compare_ranked.ensures
