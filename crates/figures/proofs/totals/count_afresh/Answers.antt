-- `figures::totals::count_afresh` meets its contract. The invariant of its loop: the totals of the columns before `column` are counted. Assumes nothing.
use Prim.Native.Nat.{ℕ}
use mathlib.Core.Path.{ap, ◌∙◌}
use mathlib.Core.List.{List}
use native.Mathlib.Omega.{arith}
use lib.ListN.{drop}
use Rattle.model.specs.Figures.{last_ticks, rows_at, rows_in, fresh_total}
use Rattle.figures.proofs.Renewing.{renewing-start, still-rows, renewing-turn, renewing-end}
use Rattle.figures.proofs.totals.count_afresh.Goals as goal

pub loop-column-init : goal.loop-column-init
loop-column-init c = renewing-start (fresh_total (rows_in last_ticks (drop rows_at c.args.figures.now))) c.args.figures.now

pub fresh_total-total-requires : goal.fresh_total-total-requires
fresh_total-total-requires c = (c.loop-column.invariant.as_long ∙ c.requires, c.loop-column-test.true)

pub put_u16-requires : goal.put_u16-requires
put_u16-requires c = (omega (arith, c.loop-column.invariant.as_long, c.requires, c.loop-column-test.true), c.fresh_total-total.ensures.1)

pub loop-column-preserved : goal.loop-column-preserved
loop-column-preserved c =
    let inv = c.loop-column.invariant in
    renewing-turn inv c.requires c.loop-column-test.true
    (c.fresh_total-total.ensures.0
    ∙ ap (λ (l : List ℕ). fresh_total (rows_in last_ticks l) c.loop-column.column) (still-rows inv c.requires))
    c.put_u16.ensures

pub shape_of-figures : goal.shape_of-figures
shape_of-figures c = c.loop-column.invariant.as_long

pub returns : goal.returns
returns c = renewing-end c.loop-column.invariant c.requires c.loop-column-test.false
