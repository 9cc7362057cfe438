-- `holdback::change::cut_front` meets its contract: `drop_frames` of frames that are as wide as ε says. Assumes nothing.
use Rattle.std.proofs.Common.{arith}
use Rattle.model.specs.Holdback.{held}
use Rattle.holdback.specs.Queue.{Written}
use Rattle.holdback.proofs.Changes.{spans-written, written_in}
use Rattle.holdback.proofs.change.cut_front.Goals.{After-slice_known-1}
use Rattle.holdback.proofs.change.cut_front.Goals as goal

-- the queue as it is written
written : (c : After-slice_known-1) → Written (held c.args.epsilon c.args.buf.now) c.args.buf.now c.args.count c.args.end c.args.prefix.index c.args.prefix.at
written c = spans-written c.requires.spans (λ i. omega (arith, c.slice_known-1.given i))

pub drop_frames-requires : goal.drop_frames-requires
drop_frames-requires c =
    let place = written_in (written (goal.at.drop_frames-requires c).After-slice_known-1) in
    record { le_at = (omega arith, (omega arith, omega arith)); index_le_count = (c.requires.spans.inside, c.requires.count_bound) }

pub returns : goal.returns
returns c = c.drop_frames.ensures (held c.args.epsilon c.args.buf.now) (written (goal.at.returns c).After-slice_known-1)
