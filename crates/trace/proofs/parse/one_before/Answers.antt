-- `trace::parse::one_before` meets its contract. Assumes nothing.
use borrow.Author.Tests.{eq-eqb, ne_eqb}
use native.Mathlib.Omega.{arith}
use Rattle.trace.specs.Trace.{one_before}
use Rattle.trace.proofs.parse.one_before.Goals as goal

pub returns-then-clock-gt0 : goal.returns-then-clock-gt0
unfolding one_before
returns-then-clock-gt0 c = rw (ne_eqb c.args.clock 0 (omega arith))

pub returns-then-modulus-gt0 : goal.returns-then-modulus-gt0
unfolding one_before
returns-then-modulus-gt0 c = rw (eq-eqb c.args.clock 0 (omega arith))

pub returns : goal.returns
unfolding one_before
returns c = rw (eq-eqb c.args.clock 0 (omega arith)) (omega arith)
