-- `figures::column::figure_of` meets its contract. Assumes nothing.
use Rattle.figures.proofs.Columns.{figure-low, figure-high}
use Rattle.figures.proofs.column.figure_of.Goals as goal

pub returns-then-number-lt-BAD_FORM : goal.returns-then-number-lt-BAD_FORM
returns-then-number-lt-BAD_FORM c = figure-low c.args.number c.if-number-lt-BAD_FORM.true

pub returns : goal.returns
returns c = figure-high c.args.number c.if-number-lt-BAD_FORM.false
