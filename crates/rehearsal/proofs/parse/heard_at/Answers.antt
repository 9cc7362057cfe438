-- `rehearsal::parse::heard_at` meets its contract. Assumes nothing.
use native.Mathlib.Omega.{arith}
use Rattle.rehearsal.proofs.Steps.{heard-at-is}
use Rattle.rehearsal.proofs.parse.heard_at.Goals as goal

pub returns : goal.returns
returns c = (omega (arith, heard-at-is c.args.s.now, c.byte_at.ensures), omega arith)
