-- `trace::parts::put_hex` meets its contract. The invariant of its loop: the digits of the first bytes are written. Assumes nothing.
use Rattle.trace.proofs.Putting.{hex-starts, hex-turn, hex-ends}
use native.Mathlib.Omega.{arith}
use Rattle.trace.proofs.parts.put_hex.Goals as goal

pub loop-i-init : goal.loop-i-init
loop-i-init c = hex-starts c.args.buf.now c.args.at c.args.bytes.now c.requires

pub overflow_cast-bytes : goal.overflow_cast-bytes
overflow_cast-bytes c = omega (arith, c.shared_slice_known-in-loop-i-1.given c.loop-i.i)

pub loop-i-preserved : goal.loop-i-preserved
loop-i-preserved c = hex-turn c.loop-i.invariant (omega arith) c.put_digits.ensures

pub returns : goal.returns
returns c = hex-ends c.loop-i.invariant (omega arith)
