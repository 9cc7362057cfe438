-- `rehearsal::closing::noted_figures` meets its contract. Assumes nothing.
use Rattle.rehearsal.proofs.Figuring.{noted-low, noted-high, noted-again, noted-first}
use Rattle.rehearsal.proofs.closing.noted_figures.Goals as goal

pub returns-then-number-lt-BAD_FORM : goal.returns-then-number-lt-BAD_FORM
returns-then-number-lt-BAD_FORM c =
    let args = c.args in
    noted-low args.step args.figures args.number c.if-number-lt-BAD_FORM.true

pub returns-then-number-gt-REPEAT : goal.returns-then-number-gt-REPEAT
returns-then-number-gt-REPEAT c =
    let args = c.args in
    noted-high args.step args.figures args.number c.if-number-gt-REPEAT.true

pub returns-then-figures-at-ne0 : goal.returns-then-figures-at-ne0
returns-then-figures-at-ne0 c =
    let args = c.args in
    noted-again args.step args.figures args.number c.if-number-lt-BAD_FORM.false c.if-number-gt-REPEAT.false c.if-figures-at-ne0.true

pub returns : goal.returns
returns c =
    let args = c.args in
    noted-first args.step args.figures args.number c.if-number-lt-BAD_FORM.false c.if-number-gt-REPEAT.false c.if-figures-at-ne0.false
