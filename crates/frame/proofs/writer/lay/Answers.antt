-- `frame::writer::lay` meets its contract: what was built in bytes of its own is laid down whole. Assumes nothing.
use native.Mathlib.Omega.{arith}
use mathlib.Core.Path.{◌≡◌, ◌∙◌}
use lib.ListN.{length}
use borrow.Author.Rules.{rules}
use Rattle.frame.proofs.Laying.{Whole, whole, length-frame}
use Rattle.timestamp.specs.Views.{stamp_of}
use Rattle.model.specs.Frame.{Frame, encode}
use Rattle.model.specs.Codec.{frame_of}
use Rattle.frame.proofs.writer.lay.Goals.{After-build-size, Start}
use Rattle.frame.proofs.writer.lay.Goals as goal

-- the frame of the arguments
abbrev frame : Start → Frame
frame c = frame_of c.args.epsilon c.args.station (stamp_of c.args.stamp) c.args.payload.now

-- it is what was built
built : (c : After-build-size) → Whole c.args.out.now (encode (frame c.before.before.before.before.before)) c.build-size.new.out c.build-size.result
built c =
    let a = c.args in
    let own : length c.build-size.new.out ≡ 71 = search rules in
    let long = length-frame a.epsilon a.station (stamp_of a.stamp) a.payload.now in
    whole a.out.now (encode (frame c.before.before.before.before.before)) _ c.build-size.new.out c.build-size.result c.build-size.ensures.long c.build-size.ensures.bytes
    (omega (arith, long, own, c.requires.narrow, c.requires.payload-fits)) (omega (arith, long, c.requires.room))

pub slice_bounds-built-end : goal.slice_bounds-built-end
slice_bounds-built-end c = (built (goal.at.slice_bounds-built-end c).After-build-size).there

pub slice_bounds-copy_into-end : goal.slice_bounds-copy_into-end
slice_bounds-copy_into-end c = (built (goal.at.slice_bounds-copy_into-end c).After-build-size).taken

pub copy_into-requires : goal.copy_into-requires
copy_into-requires c = (built (goal.at.copy_into-requires c).After-build-size).fits

pub returns : goal.returns
returns c = record { long = c.build-size.ensures.long; bytes = c.copy_into.ensures ∙ (built (goal.at.returns c).After-build-size).laid }
