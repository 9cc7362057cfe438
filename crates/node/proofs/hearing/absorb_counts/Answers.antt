-- `node::hearing::absorb_counts` meets its contract. Assumes nothing.
use Prim.Native.Nat.{◌*◌}
use native.Mathlib.Omega.{arith}
use mathlib.Core.Path.{◌≡◌, ◌∙◌, ap}
use lib.ListN.{length}
use Rattle.model.specs.Timestamp.{trimmed, widened}
use Rattle.model.specs.Frame.{decode}
use Rattle.timestamp.specs.Views.{stamp_of}
use Rattle.node.proofs.StampTurns.{counts-wide, counts-absorbed}
use Rattle.node.proofs.hearing.absorb_counts.Goals.{After-counts_part-counts}
use Rattle.node.proofs.hearing.absorb_counts.Goals as goal

pub counts_part-counts-requires : goal.counts_part-counts-requires
counts_part-counts-requires c = (c.requires.0.epsilon-most, c.requires.0.long)

module _ (c : After-counts_part-counts) where
  lead : c.c_of-c.result ≡ (decode c.args.setup.epsilon c.args.frame.now).stamp.c
  lead = c.c_of-c.ensures c.args.setup.epsilon

  wide : length c.counts_part-counts.result.now ≡ 2 * c.args.setup.epsilon
  wide = ap length c.counts_part-counts.ensures ∙ counts-wide c.args.setup.epsilon c.args.frame.now c.requires.0.long

pub absorb-requires : goal.absorb-requires
absorb-requires c = record { epsilon_bound = (c.requires.0.epsilon-most, (c.requires.0.clock-fits, (c.requires.0.reading-fits, omega (arith, lead (goal.at.absorb-requires c).After-counts_part-counts, c.requires.0.c-below, c.requires.0.epsilon-most)))); self_value = (c.requires.1, wide (goal.at.absorb-requires c).After-counts_part-counts) }

pub returns : goal.returns
returns c =
    c.absorb.ensures
    ∙ ap widened (counts-absorbed c.args.setup.epsilon c.args.at c.args.reading (trimmed c.args.setup.epsilon (stamp_of c.args.stamp)) c.args.frame.now c.c_of-c.result c.counts_part-counts.result.now (lead (goal.at.returns c).After-counts_part-counts) c.counts_part-counts.ensures)
