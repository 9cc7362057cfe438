-- `rehearsal::frames::keep_frame` meets its contract. Assumes nothing.
use Prim.Native.Nat.{◌+◌, ◌*◌}
use mathlib.Core.Path.{ap, ◌∙◌}
use native.Mathlib.Omega.{arith}
use lib.ListN.{set, length-set}
use lib.Seq.{length-take-le}
use Rattle.splice.specs.Bytes.{pasted}
use Rattle.rehearsal.proofs.Slots.{frame-kept}
use Rattle.rehearsal.proofs.frames.keep_frame.Goals as goal

pub copy_into-requires : goal.copy_into-requires
copy_into-requires c = rw (length-set, c.part.ensures, length-take-le c.args.sent c.args.outgoing.now c.requires.1.1.1) (omega (arith, c.requires.0.room))

pub shape_of-slots : goal.shape_of-slots
shape_of-slots c =
    let args = c.args in
    c.copy_into.auto.dst ∙ length-set args.slots.now (72 * args.step) args.sent

pub returns : goal.returns
returns c =
    frame-kept c.args.slots.now c.args.step c.args.sent c.args.outgoing.now (omega (arith, c.requires.0.room)) c.requires.1.1.1
    (c.copy_into.ensures
    ∙ ap (pasted (set c.args.slots.now (72 * c.args.step) c.args.sent) (72 * c.args.step + 1)) c.part.ensures)
