-- `timestamp::stamp::within_ceilings` meets its contract: the loop's invariant: the answer so far is that of the counts passed.
-- Assumes nothing.
use Rattle.timestamp.proofs.Counts.{limits-start, limits-next}
use Rattle.timestamp.proofs.stamp.within_ceilings.Goals as goal

pub loop-index-init : goal.loop-index-init
loop-index-init c = limits-start c.args.n c.args.top

pub loop-index-preserved : goal.loop-index-preserved
loop-index-preserved c =
    limits-next c.args.n c.args.top _ _ _ c.args.kn.now c.loop-index-test.true c.ceiling_at.ensures c.loop-index.invariant
