-- `figures::totals::move_totals` meets its contract. The invariant of its loop: the totals of the columns before `column` are moved. Assumes nothing.
use Prim.Native.Nat.{ℕ, ◌+◌, ◌*◌, ◌≤◌}
use mathlib.Core.Path.{ap₂, ◌∙◌}
use native.Mathlib.Omega.{arith}
use lib.ListN.{get_or}
use Rattle.model.specs.Figures.{moved_total}
use Rattle.figures.proofs.Renewing.{renewing-start, still, still-total, renewing-turn, renewing-end}
use Rattle.figures.proofs.totals.move_totals.Invariants.{new}
use Rattle.figures.proofs.totals.move_totals.Goals as goal

pub loop-column-init : goal.loop-column-init
loop-column-init c = renewing-start (new c.args.figures.now c.args.at c.args.row.now) c.args.figures.now

pub moved_total-total-requires : goal.moved_total-total-requires
moved_total-total-requires c = (
  omega (arith, c.loop-column.invariant.as_long, c.requires.0, c.requires.1.1.0),
  (c.requires.1.1.1, c.loop-column-test.true),
)

pub put_u16-requires : goal.put_u16-requires
put_u16-requires c = (omega (arith, c.loop-column.invariant.as_long, c.requires.0, c.loop-column-test.true), c.moved_total-total.ensures.1)

pub loop-column-preserved : goal.loop-column-preserved
loop-column-preserved c =
    let inv = c.loop-column.invariant in
    let column = c.loop-column.column in
    let far : 1 + 2 * column ≤ c.args.at + column = omega (arith, c.requires.1.0, c.loop-column-test.true) in
    renewing-turn inv c.requires.0 c.loop-column-test.true
    (c.moved_total-total.ensures.0
    ∙ ap₂ (λ (a b : ℕ). moved_total a b (get_or c.args.row.now column 0)) (still-total inv c.requires.0) (still inv c.requires.0 (c.args.at + column) far))
    c.put_u16.ensures

pub shape_of-figures : goal.shape_of-figures
shape_of-figures c = c.loop-column.invariant.as_long

pub returns : goal.returns
returns c = renewing-end c.loop-column.invariant c.requires.0 c.loop-column-test.false
