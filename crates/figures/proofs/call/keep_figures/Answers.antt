-- `figures::call::keep_figures` meets its contract. Assumes nothing.
use mathlib.Core.Path.{sym, ap, ◌∙◌}
use mathlib.Core.List.{List}
use Prim.Native.Nat.{ℕ}
use lib.ListN.{length}
use Rattle.model.specs.Batch.{batch_entries}
use Rattle.model.specs.Figures.{columns_of, figures_in, figures_bytes, kept_row}
use Rattle.figures.proofs.Asking.{allowed, figures-refused, figures-kept}
use Rattle.figures.proofs.Columns.{length-row}
use Rattle.figures.proofs.call.keep_figures.Goals as goal

pub returns-then-number-ne0 : goal.returns-then-number-ne0
returns-then-number-ne0 c =
    figures-refused c.args.n c.args.batch.now c.args.verdicts.now c.args.figures.now c.check_figures-number.result c.check_figures-number.ensures
    c.if-number-ne0.true

pub count_row-row-requires : goal.count_row-row-requires
count_row-row-requires c =
    let ok = allowed c.args.n c.args.batch.now c.args.verdicts.now c.args.figures.now (sym c.check_figures-number.ensures ∙ c.if-number-ne0.false) in
    (ok.few, ok.fit)

pub put_row-requires : goal.put_row-requires
put_row-requires c =
    let ok = allowed c.args.n c.args.batch.now c.args.verdicts.now c.args.figures.now (sym c.check_figures-number.ensures ∙ c.if-number-ne0.false) in
    (ok.size, ap length c.count_row-row.ensures ∙ length-row (columns_of c.args.n (batch_entries c.args.batch.now) c.args.verdicts.now))

pub returns : goal.returns
returns c =
    figures-kept c.args.n c.args.batch.now c.args.verdicts.now c.args.figures.now
    (sym c.if-number-ne0.false ∙ c.check_figures-number.ensures)
    (c.put_row.ensures ∙ ap (λ (row : List ℕ). figures_bytes (kept_row (figures_in c.args.figures.now) row)) c.count_row-row.ensures)
