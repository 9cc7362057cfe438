-- `holdback::change::put` meets its contract: `insert_frame` of frames that are as wide as ε says. Assumes nothing.
use Rattle.std.proofs.Common.{arith}
use Rattle.model.specs.Frame.{decode}
use Rattle.model.specs.Holdback.{held}
use Rattle.holdback.specs.Queue.{Written}
use Rattle.holdback.proofs.RoundTrip.{encode-decode}
use Rattle.holdback.proofs.Changes.{spans-written, written_in}
use Rattle.holdback.proofs.change.put.Goals.{After-shared_slice_known-1}
use Rattle.holdback.proofs.change.put.Goals as goal

-- the queue as it is written
written : (c : After-shared_slice_known-1) → Written (held c.args.epsilon c.args.buf.now) c.args.buf.now c.args.count c.args.end c.args.place.index c.args.place.at
written c = spans-written c.requires.spans (λ i. omega (arith, c.slice_known-1.given i))

pub insert_frame-requires : goal.insert_frame-requires
insert_frame-requires c =
    let place = written_in (written (goal.at.insert_frame-requires c).After-shared_slice_known-1) in
    (omega arith, (omega arith, c.requires.frame_value.1))

pub returns : goal.returns
returns c =
    c.insert_frame.ensures (held c.args.epsilon c.args.buf.now) (decode c.args.epsilon c.args.frame.now) (written (goal.at.returns c).After-shared_slice_known-1)
    (encode-decode c.args.epsilon c.args.frame.now (λ i. omega (arith, c.shared_slice_known-1.given i)) c.requires.frame_value.0)
