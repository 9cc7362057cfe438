-- `frame::writer::put_stamp` meets its contract. Assumes nothing.
use Prim.Native.Nat.{◌*◌}
use mathlib.Core.Path.{◌≡◌, ◌∙◌, sym}
use native.Mathlib.Omega.{arith}
use lib.Seq.{length-take-le}
use lib.ListN.{length, length-set, length-take}
use borrow.Author.Rules.{rules}
use Rattle.frame.proofs.Laying.{stamp-laid}
use Rattle.timestamp.specs.Views.{stamp_of}
use Rattle.frame.proofs.writer.put_stamp.Goals as goal

pub bounds-out-5 : goal.bounds-out-5
bounds-out-5 c = simp length-set (omega arith)

pub slice_bounds-kn-end : goal.slice_bounds-kn-end
slice_bounds-kn-end c = let e : length c.args.stamp.kn ≡ 32 = search rules in omega arith

pub slice_bounds-copy_into-end : goal.slice_bounds-copy_into-end
slice_bounds-copy_into-end c =
    let e : length c.args.stamp.kn ≡ 32 = search rules in
    sym (length-take-le (2 * c.args.epsilon) c.args.stamp.kn (omega arith))

pub copy_into-requires : goal.copy_into-requires
copy_into-requires c =
    let e : length c.args.stamp.kn ≡ 32 = search rules in
    simp (length-set, length-take) (omega arith)

pub shape_of-out : goal.shape_of-out
shape_of-out c = c.copy_into.auto.dst ∙ simp length-set

pub returns : goal.returns
returns c =
    let e : length c.args.stamp.kn ≡ 32 = search rules in
    c.copy_into.ensures ∙ stamp-laid c.args.out.now c.args.epsilon (stamp_of c.args.stamp) (omega arith) (omega arith)
