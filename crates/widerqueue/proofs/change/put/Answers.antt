-- `widerqueue::change::put` meets its contract: `holdback::insert_frame` of frames of both widths. Assumes nothing.
use native.Mathlib.Omega.{arith}
use Rattle.model.specs.Wider.{wider_decode, wider_held}
use Rattle.pairs.specs.Views.{schedule_of}
use Rattle.holdback.specs.Queue.{Written}
use Rattle.holdback.proofs.Changes.{written_in}
use Rattle.widerqueue.proofs.Forms.{wide_back, spans-written}
use Rattle.widerqueue.proofs.change.put.Goals.{After-shared_slice_known-1}
use Rattle.widerqueue.proofs.change.put.Goals as goal

-- the queue as it is written
written : (c : After-shared_slice_known-1) → Written (wider_held (schedule_of c.args.p) c.args.buf.now) c.args.buf.now c.args.count c.args.end c.args.place.index c.args.place.at
written c = spans-written c.requires.spans (λ i. omega (arith, c.slice_known-1.given i))

pub insert_frame-requires : goal.insert_frame-requires
insert_frame-requires c =
    let place = written_in (written (goal.at.insert_frame-requires c).After-shared_slice_known-1) in
    (omega arith, (omega arith, c.requires.frame_value.1))

pub returns : goal.returns
returns c =
    let g = schedule_of c.args.p in
    c.insert_frame.ensures (wider_held g c.args.buf.now) (wider_decode g c.args.frame.now) (written (goal.at.returns c).After-shared_slice_known-1)
    (wide_back g c.args.frame.now (λ i. omega (arith, c.shared_slice_known-1.given i)) c.requires.frame_value.0)
