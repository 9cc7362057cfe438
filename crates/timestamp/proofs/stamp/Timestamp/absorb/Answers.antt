-- `timestamp::stamp::Timestamp::absorb` meets its contract: the own counts, raised by those of the frame that have a place among them.
-- Assumes nothing.
use mathlib.Core.Path.{◌≡◌}
use native.Mathlib.Omega.{arith}
use lib.ListN.{length}
use borrow.Author.Rules.{rules}
use Rattle.timestamp.specs.Views.{stamp_of}
use Rattle.timestamp.proofs.Steps.{absorb-widened}
use Rattle.timestamp.proofs.stamp.Timestamp.absorb.Goals.{Start}
use Rattle.timestamp.proofs.stamp.Timestamp.absorb.Goals as goal

long : (c : Start) → length c.args.self.kn ≡ 32
long c = search rules

pub returns : goal.returns
returns c =
    let a = c.args in
    let up = c.saturating_sub-up in
    let down = c.saturating_sub-down in
    let count = c.saturating_sub-count in
    absorb-widened a.epsilon (stamp_of a.self) c.requires.epsilon_bound.0 (long (goal.at.returns c).Start) a.modulus a.reading up.result down.result count.result a.c c.larger_lead.result a.counts.now _
    c.requires.self_value.0 c.requires.self_value.1 up.ensures down.ensures (omega (arith, count.ensures)) c.raise.ensures c.larger_lead.ensures
