-- `figures::column::column_of` meets its contract. Assumes nothing.
use mathlib.Core.Path.{◌≡◌}
use native.Mathlib.Omega.{arith}
use lib.ListN.{get_or}
use Rattle.model.specs.Frame.{decode}
use Rattle.figures.proofs.Columns.{own-by-10, own-by-station, its-column, column-small}
use Rattle.figures.proofs.column.column_of.Goals.{After-station_of-station}
use Rattle.figures.proofs.column.column_of.Goals as goal

pub returns-then-number-eq-BAD_FORM : goal.returns-then-number-eq-BAD_FORM
returns-then-number-eq-BAD_FORM c = (own-by-10 c.args.n c.args.number (get_or c.args.entry.now 1 0) c.if-number-eq-BAD_FORM.true, omega arith)

-- the station is byte 1
station : (c : After-station_of-station) → c.station_of-station.result ≡ get_or c.args.entry.now 1 0
unfolding decode
station c = c.station_of-station.ensures 0

pub returns-then-n-station : goal.returns-then-n-station
returns-then-n-station c = (
  own-by-station c.args.n c.args.number (get_or c.args.entry.now 1 0) c.if-number-eq-BAD_FORM.false (omega (arith, station (goal.at.returns-then-n-station c).After-station_of-station, c.if-n-station.true)),
  omega arith,
)

pub overflow_add-result : goal.overflow_add-result
overflow_add-result c =
    omega (
      arith,
      c.figure_of.ensures,
      column-small c.args.n c.args.number c.station_of-station.result c.requires.0 c.requires.1 c.if-n-station.false,
    )

pub returns : goal.returns
returns c =
    let here = c.station_of-station.result in
    let small = column-small c.args.n c.args.number here c.requires.0 c.requires.1 c.if-n-station.false in (
      rw (← station (goal.at.returns c).After-station_of-station, c.figure_of.ensures) (its-column c.args.n c.args.number here c.if-number-eq-BAD_FORM.false c.if-n-station.false),
      omega (arith, c.figure_of.ensures, small),
    )
