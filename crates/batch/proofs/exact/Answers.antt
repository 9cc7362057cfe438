-- `batch::exact` meets its contract. The invariant: the whole batch is exact if `rest` ends after as many entries as are left. Assumes nothing.
use mathlib.Core.Path.{sym, ◌∙◌}
use native.Mathlib.Omega.{arith}
use Rattle.batch.proofs.Walk.{exact-empty, exact-opened, ends-done, ends-missing, ends-cut, ends-turn}
use Rattle.batch.proofs.exact.Goals as goal

pub returns-in_default : goal.returns-in_default
returns-in_default c = sym (exact-empty c.args.batch.now c.in_default.len_below)

pub loop-init : goal.loop-init
loop-init c = exact-opened c.args.batch.now c.in-len1-up.len_at_least

pub returns-in_default-rest : goal.returns-in_default-rest
returns-in_default-rest c = sym (c.loop.invariant ∙ ends-missing _ c.loop.rest.now (omega arith) c.in_default-rest.len_below)

pub returns-in_default-get : goal.returns-in_default-get
returns-in_default-get c =
    sym (c.loop.invariant ∙ ends-cut _ c.from.result c.loop.rest.now (omega arith) c.in-len1-up-rest.len_at_least c.from.ensures (omega (arith, c.in_default-get.ensures.lookup.0)))

pub loop-preserved : goal.loop-preserved
loop-preserved c =
    c.loop.invariant
    ∙ ends-turn _ _ c.from.result c.loop.rest.now c.in-Some.next.now (omega arith) c.in-len1-up-rest.len_at_least c.from.ensures c.in-Some.ensures.lookup.0.0 c.in-Some.ensures.lookup.0.2

pub returns : goal.returns
returns c = c.is_empty.ensures ∙ sym (c.loop.invariant ∙ ends-done _ c.loop.rest.now (omega arith))
