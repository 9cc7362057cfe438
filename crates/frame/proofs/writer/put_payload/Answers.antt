-- `frame::writer::put_payload` meets its contract. Assumes nothing.
use mathlib.Core.Path.{◌∙◌}
use native.Mathlib.Omega.{arith}
use lib.ListN.{length-set}
use Rattle.frame.proofs.Laying.{payload-laid}
use Rattle.frame.proofs.writer.put_payload.Goals as goal

pub shape_of-rest : goal.shape_of-rest
shape_of-rest c = c.copy_into.auto.dst ∙ simp length-set

pub returns : goal.returns
returns c = c.copy_into.ensures ∙ payload-laid c.args.rest.now c.args.payload.now (omega arith)
