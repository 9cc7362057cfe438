-- `widerstamp::stamp::step_into` meets its contract: the counts are laid over none at all. Assumes nothing.
use Prim.Native.Nat.{◌*◌}
use mathlib.Core.Path.{◌≡◌}
use native.Mathlib.Omega.{arith}
use lib.ListN.{length}
use lib.Seq.{length-take-le}
use borrow.Author.Rules.{rules}
use Rattle.timestamp.specs.Views.{stamp_of}
use Rattle.widerstamp.proofs.Beside.{zeros-narrow, step-beside}
use Rattle.widerstamp.proofs.stamp.step_into.Goals.{Start}
use Rattle.widerstamp.proofs.stamp.step_into.Goals as goal

long : (c : Start) → length c.args.stamp.kn ≡ 32
long c = search rules

pub raise_beside-kn-requires-clause-own_value : goal.raise_beside-kn-requires-clause-own_value
raise_beside-kn-requires-clause-own_value c = (
  zeros-narrow (2 * c.args.epsilon) 32,
  length-take-le _ _ (omega (arith, long (goal.at.raise_beside-kn-requires-clause-own_value c).Start)),
)

pub returns : goal.returns
returns c =
    let a = c.args in
    step-beside (stamp_of a.stamp) (long (goal.at.returns c).Start) a.epsilon a.half a.k a.clock c.saturating_sub.result c.raise_beside-kn.result
    c.requires.1.0 c.saturating_sub.ensures c.raise_beside-kn.ensures
