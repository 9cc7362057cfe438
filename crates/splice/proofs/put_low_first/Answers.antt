-- `splice::put_low_first` meets its contract. The invariant of its loop: with the bytes of what is left of the number, all are pasted.
-- The measure is how many are left. Assumes nothing.
use native.Mathlib.Omega.{arith}
use Rattle.splice.proofs.Laws.{digits-start, digits-turn, digits-end}
use Rattle.splice.proofs.put_low_first.Goals as goal

pub loop-j-init : goal.loop-j-init
loop-j-init c = digits-start c.args.buf.now c.args.at c.args.size c.args.value

pub loop-j-preserved : goal.loop-j-preserved
loop-j-preserved c = digits-turn c.loop-j.invariant (omega arith) (omega arith)

pub returns : goal.returns
returns c = digits-end c.loop-j.invariant (omega arith)
