-- `words::line::rule_limits_of` meets its contract. Assumes nothing.
use mathlib.Core.Path.{sym, ap, ◌∙◌}
use native.Mathlib.Omega.{arith}
use Rattle.lemmas.proofs.Bounds.{Limits}
use Rattle.lemmas.proofs.Questions.{limits-from}
use Rattle.setup.specs.Views.{setup_of}
use Rattle.words.specs.Words.{rule_limits_of}
use Rattle.words.proofs.Writing.{no-limits}
use Rattle.words.proofs.line.rule_limits_of.Goals.{Start}
use Rattle.words.proofs.line.rule_limits_of.Goals as goal

-- the limits of the setup
limited : (c : Start) → Limits (setup_of c.args.setup)
limited c = limits-from (setup_of c.args.setup) c.requires

pub returns-then-number-eq-BAD_RANGE : goal.returns-then-number-eq-BAD_RANGE
unfolding rule_limits_of
returns-then-number-eq-BAD_RANGE c = c.two.ensures ∙ ap (rule_limits_of (setup_of c.args.setup)) (sym c.if-number-eq-BAD_RANGE.true)

pub overflow_sub-epsilon : goal.overflow_sub-epsilon
overflow_sub-epsilon c = omega (arith, (limited (goal.at.overflow_sub-epsilon c).Start).epsilon-pos)

pub returns-then-number-eq-BAD_STAMP : goal.returns-then-number-eq-BAD_STAMP
unfolding rule_limits_of
returns-then-number-eq-BAD_STAMP c = c.two-then-number-eq-BAD_STAMP.ensures ∙ ap (rule_limits_of (setup_of c.args.setup)) (sym c.if-number-eq-BAD_STAMP.true)

pub returns-then-number-eq-LATE : goal.returns-then-number-eq-LATE
unfolding rule_limits_of
returns-then-number-eq-LATE c = c.one.ensures ∙ ap (rule_limits_of (setup_of c.args.setup)) (sym c.if-number-eq-LATE.true)

pub overflow_sub-epsilon-then-number-eq-EARLY : goal.overflow_sub-epsilon-then-number-eq-EARLY
overflow_sub-epsilon-then-number-eq-EARLY c = omega (arith, (limited (goal.at.overflow_sub-epsilon-then-number-eq-EARLY c).Start).epsilon-pos)

pub returns-then-number-eq-EARLY : goal.returns-then-number-eq-EARLY
unfolding rule_limits_of
returns-then-number-eq-EARLY c = c.one-then-number-eq-EARLY.ensures ∙ ap (rule_limits_of (setup_of c.args.setup)) (sym c.if-number-eq-EARLY.true)

pub overflow_sub-n : goal.overflow_sub-n
overflow_sub-n c = omega (arith, (limited (goal.at.overflow_sub-n c).Start).n_pos)

pub returns-then-number-eq-BAD_COUNT : goal.returns-then-number-eq-BAD_COUNT
unfolding rule_limits_of
returns-then-number-eq-BAD_COUNT c = c.one-then-number-eq-BAD_COUNT.ensures ∙ ap (rule_limits_of (setup_of c.args.setup)) (sym c.if-number-eq-BAD_COUNT.true)

pub returns : goal.returns
returns c = no-limits (setup_of c.args.setup) c.args.number c.if-number-eq-BAD_RANGE.false c.if-number-eq-BAD_STAMP.false c.if-number-eq-LATE.false c.if-number-eq-EARLY.false c.if-number-eq-BAD_COUNT.false
