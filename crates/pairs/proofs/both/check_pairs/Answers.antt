-- `pairs::both::check_pairs` meets its contract: one question after the other. Assumes nothing.
use mathlib.Core.Path.{sym, ◌∙◌}
use borrow.Author.Tests.{not-true, not-false}
use Rattle.lemmas.proofs.Questions.{no-cons, yes-cons}
use Rattle.pairs.proofs.both.check_pairs.Goals as goal

pub returns-then-not-both_in_limits : goal.returns-then-not-both_in_limits
returns-then-not-both_in_limits c = sym (no-cons _ 1 _ (sym c.both_in_limits.ensures ∙ not-true c.both_in_limits.result c.if-not-both_in_limits.true-raw))

pub returns : goal.returns
returns c =
    let limits = c.both_in_limits in
    c.check_wider.ensures ∙ sym (yes-cons _ 1 _ (sym limits.ensures ∙ not-false limits.result c.if-not-both_in_limits.false-raw))
