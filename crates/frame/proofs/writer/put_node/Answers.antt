-- `frame::writer::put_node` meets its contract. Assumes nothing.
use mathlib.Core.Path.{◌∙◌}
use native.Mathlib.Omega.{arith}
use lib.ListN.{length-set}
use Rattle.frame.proofs.Laying.{node-laid}
use Rattle.model.specs.Frame.{two_bytes}
use Rattle.frame.proofs.writer.put_node.Goals as goal

pub bounds-out-1 : goal.bounds-out-1
bounds-out-1 c = simp length-set (omega arith)

pub shape_of-out : goal.shape_of-out
shape_of-out c = c.put_u16.auto.buf ∙ simp length-set

pub returns : goal.returns
unfolding two_bytes
returns c = c.put_u16.ensures ∙ node-laid c.args.out.now c.args.station c.args.r (omega arith)
