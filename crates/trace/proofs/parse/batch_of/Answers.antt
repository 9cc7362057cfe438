-- `trace::parse::batch_of` meets its contract. Assumes nothing.
use mathlib.Core.Path.{◌∙◌}
use Rattle.trace.proofs.Ticks.{batch-from, batch-part}
use native.Mathlib.Omega.{arith}
use Rattle.trace.proofs.parse.batch_of.Goals as goal

pub overflow_sub-end : goal.overflow_sub-end
overflow_sub-end c = omega (arith, batch-from c.args.s.now c.byte_at.result c.byte_at.ensures, c.tick_end-end.ensures.0)

pub returns : goal.returns
returns c = c.part.ensures ∙ batch-part c.args.s.now c.byte_at.result c.tick_end-end.result c.byte_at.ensures c.tick_end-end.ensures.0
