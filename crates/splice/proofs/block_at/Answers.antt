-- `splice::block_at` meets its contract. The invariant of its loop: the first `i` bytes are filled in. The measure is how many are left. Assumes nothing.
use native.Mathlib.Omega.{arith}
use Rattle.splice.proofs.Laws.{filling-starts, fills, filled}
use Rattle.splice.proofs.block_at.Goals as goal

pub loop-i-init : goal.loop-i-init
loop-i-init c = filling-starts 16 c.args.s.now c.args.at c.requires

pub loop-i-preserved : goal.loop-i-preserved
loop-i-preserved c = fills 16 c.args.s.now c.args.at c.requires c.loop-i.invariant (omega arith)

pub returns : goal.returns
returns c = filled 16 c.args.s.now c.args.at c.requires c.loop-i.invariant c.loop-i-test.false
