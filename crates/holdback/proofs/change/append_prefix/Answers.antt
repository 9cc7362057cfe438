-- `holdback::change::append_prefix` meets its contract: `append_frames` of frames that are as wide as ε says. Assumes nothing.
use Rattle.std.proofs.Common.{arith}
use Rattle.model.specs.Holdback.{held}
use Rattle.holdback.specs.Queue.{Written}
use Rattle.holdback.proofs.Changes.{spans-written, written_in}
use Rattle.holdback.proofs.change.append_prefix.Goals.{After-slice_known-1}
use Rattle.holdback.proofs.change.append_prefix.Goals as goal

-- the queue as it is written, and the delivery
module _ (c : After-slice_known-1) where
  written : Written (held c.args.epsilon c.args.buf.now) c.args.buf.now c.args.count c.args.end c.args.prefix.index c.args.prefix.at
  written = spans-written c.requires.spans (λ i. omega (arith, c.shared_slice_known-1.given i))

  given : Written (held c.args.epsilon c.args.delivery.now) c.args.delivery.now c.args.given.index c.args.given.at c.args.given.index c.args.given.at
  given = spans-written c.requires.spans_2 (λ i. omega (arith, c.slice_known-1.given i))

pub append_frames-requires : goal.append_frames-requires
append_frames-requires c =
    let place = written_in (written (goal.at.append_frames-requires c).After-slice_known-1) in
    let handed = written_in (given (goal.at.append_frames-requires c).After-slice_known-1) in
    record { le_at = (omega arith, (omega arith, omega arith)); at_in_bounds = c.requires.at_in_bounds }

pub returns : goal.returns
returns c = c.append_frames.ensures (held c.args.epsilon c.args.buf.now) (held c.args.epsilon c.args.delivery.now) c.args.count c.args.end (written (goal.at.returns c).After-slice_known-1) (given (goal.at.returns c).After-slice_known-1)
