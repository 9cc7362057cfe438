-- `trace::lines::flag_of` meets its contract. Assumes nothing.
use borrow.Author.Tests.{eq-eqb, ne_eqb}
use Rattle.trace.specs.Text.{flag}
use Rattle.trace.proofs.lines.flag_of.Goals as goal

pub returns-then-sent-eq0 : goal.returns-then-sent-eq0
unfolding flag
returns-then-sent-eq0 c = rw (eq-eqb c.args.sent 0 c.if-sent-eq0.true)

pub returns : goal.returns
unfolding flag
returns c = rw (ne_eqb c.args.sent 0 c.if-sent-eq0.false)
