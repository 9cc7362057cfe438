-- `rehearsal::parse::heard_count` meets its contract. Assumes nothing.
use native.Mathlib.Omega.{arith}
use Rattle.rehearsal.proofs.Steps.{heard-count-is}
use Rattle.rehearsal.proofs.parse.heard_count.Goals as goal

pub returns : goal.returns
returns c = (heard-count-is c.args.s.now c.heard_at.result c.byte_at.result c.heard_at.ensures.0 c.byte_at.ensures, omega arith)
