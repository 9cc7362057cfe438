-- `verdicts::check_verdicts` meets its contract. Assumes nothing.
use mathlib.Core.Path.{sym, ◌∙◌}
use borrow.Author.Tests.{not-true, not-false}
use Rattle.verdicts.proofs.Asking.{exact-no, count_no, given-no, given-right}
use Rattle.verdicts.proofs.check_verdicts.Goals as goal

pub returns-then-not-exact : goal.returns-then-not-exact
returns-then-not-exact c = sym (exact-no c.args.batch.now c.args.verdicts.now (sym c.exact.ensures ∙ not-true c.exact.result c.if-not-exact.true-raw))

pub returns-then-verdicts-count : goal.returns-then-verdicts-count
returns-then-verdicts-count c =
    sym
    (count_no c.args.batch.now c.args.verdicts.now (sym c.exact.ensures ∙ not-false c.exact.result c.if-not-exact.false-raw)
    c.count_of-count.result c.count_of-count.ensures c.if-verdicts-count.true)

pub returns-then-not-all_given : goal.returns-then-not-all_given
returns-then-not-all_given c =
    sym
    (given-no c.args.batch.now c.args.verdicts.now (sym c.exact.ensures ∙ not-false c.exact.result c.if-not-exact.false-raw)
    c.count_of-count.result c.count_of-count.ensures c.if-verdicts-count.false
    (sym c.all_given.ensures ∙ not-true c.all_given.result c.if-not-all_given.true-raw))

pub returns : goal.returns
returns c =
    sym
    (given-right c.args.batch.now c.args.verdicts.now (sym c.exact.ensures ∙ not-false c.exact.result c.if-not-exact.false-raw)
    c.count_of-count.result c.count_of-count.ensures c.if-verdicts-count.false
    (sym c.all_given.ensures ∙ not-false c.all_given.result c.if-not-all_given.false-raw))
