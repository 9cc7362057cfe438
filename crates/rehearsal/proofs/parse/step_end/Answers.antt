-- `rehearsal::parse::step_end` meets its contract. Assumes nothing.
use native.Mathlib.Omega.{arith}
use Rattle.rehearsal.proofs.Steps.{step-end-is}
use Rattle.rehearsal.proofs.parse.step_end.Goals as goal

pub returns : goal.returns
returns c = (omega (arith, step-end-is c.args.s.now, c.heard_at.ensures.0, c.heard_count.ensures.0), omega (arith, c.heard_at.ensures.1, c.heard_count.ensures.1))
