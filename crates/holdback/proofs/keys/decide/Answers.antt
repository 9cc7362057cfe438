-- `holdback::keys::decide` meets its contract. Assumes nothing.
use Rattle.std.proofs.Common.{◌+◌, arith}
use Rattle.holdback.proofs.Keyed.{decided-yes, decided-no}
use Rattle.holdback.proofs.keys.decide.Goals as goal

pub returns-then-a-b : goal.returns-then-a-b
returns-then-a-b c = let a = c.args in (decided-yes a.a (a.b + a.tie) (omega (arith, c.if-a-b.true)), omega arith)

pub returns-else-a-b : goal.returns-else-a-b
returns-else-a-b c = let a = c.args in (decided-no a.a (a.b + a.tie) (omega (arith, c.if-a-b.false)), omega arith)
