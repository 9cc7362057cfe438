-- `figures::call::check_figures` meets its contract. Assumes nothing.
use mathlib.Core.Path.{sym, ◌∙◌}
use Rattle.figures.proofs.Asking.{n-low, n-high, size-no, size-right}
use Rattle.figures.proofs.call.check_figures.Goals as goal

pub returns-then-n-lt1 : goal.returns-then-n-lt1
returns-then-n-lt1 c = sym (n-low c.args.n c.args.batch.now c.args.verdicts.now c.args.figures.now c.if-n-lt1.true)

pub returns-then-n-gt16 : goal.returns-then-n-gt16
returns-then-n-gt16 c = sym (n-high c.args.n c.args.batch.now c.args.verdicts.now c.args.figures.now c.if-n-lt1.false c.if-n-gt16.true)

pub returns-then-figures-ne-FIGURES_SIZE : goal.returns-then-figures-ne-FIGURES_SIZE
returns-then-figures-ne-FIGURES_SIZE c = sym (size-no c.args.n c.args.batch.now c.args.verdicts.now c.args.figures.now c.if-n-lt1.false c.if-n-gt16.false c.if-figures-ne-FIGURES_SIZE.true)

pub returns : goal.returns
returns c =
    c.check_verdicts.ensures
    ∙ sym
    (size-right c.args.n c.args.batch.now c.args.verdicts.now c.args.figures.now c.if-n-lt1.false c.if-n-gt16.false
    c.if-figures-ne-FIGURES_SIZE.false)
