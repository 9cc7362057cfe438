-- `widerstamp::stamp::absorb_into` meets its contract. Assumes nothing.
use mathlib.Core.Path.{◌≡◌}
use lib.ListN.{length}
use borrow.Author.Rules.{rules}
use Rattle.timestamp.specs.Views.{stamp_of}
use Rattle.timestamp.proofs.Steps.{narrow-counts}
use Rattle.widerstamp.proofs.Beside.{absorb-beside}
use Rattle.widerstamp.proofs.stamp.absorb_into.Goals.{Start}
use Rattle.widerstamp.proofs.stamp.absorb_into.Goals as goal

long : (c : Start) → length c.args.stamp.kn ≡ 32
long c = search rules

pub raise_beside-kn-requires-clause-own_value : goal.raise_beside-kn-requires-clause-own_value
raise_beside-kn-requires-clause-own_value c = (
  narrow-counts c.args.epsilon (stamp_of c.args.stamp) c.requires.epsilon_bound.0 (long (goal.at.raise_beside-kn-requires-clause-own_value c).Start) c.requires.stamp_value.0,
  c.requires.stamp_value.1,
)

pub returns : goal.returns
returns c =
    let a = c.args in
    absorb-beside (stamp_of a.stamp) (long (goal.at.returns c).Start) a.epsilon a.half a.modulus a.reading a.c c.larger_lead.result a.counts.now c.raise_beside-kn.result
    c.requires.epsilon_bound.0 c.larger_lead.ensures c.raise_beside-kn.ensures
