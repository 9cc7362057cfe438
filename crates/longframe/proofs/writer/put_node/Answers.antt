-- `longframe::writer::put_node` meets its contract. Assumes nothing.
use mathlib.Core.Path.{◌∙◌}
use native.Mathlib.Omega.{arith}
use lib.ListN.{length-set}
use Rattle.longframe.proofs.Asking.{node-laid}
use Rattle.longframe.proofs.writer.put_node.Goals as goal

pub bounds-out-1 : goal.bounds-out-1
bounds-out-1 c = simp length-set (omega arith)

pub shape_of-out : goal.shape_of-out
shape_of-out c = c.put_u64.auto.buf ∙ simp length-set

pub returns : goal.returns
returns c =
    let a = c.args in
    c.put_u64.ensures ∙ node-laid a.out.now a.station a.r (omega arith)
