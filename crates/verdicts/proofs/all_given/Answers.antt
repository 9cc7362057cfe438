-- `verdicts::all_given` meets its contract. The invariant of its loop: a judgement gives each verdict before `i`. Assumes nothing.
use mathlib.Core.Path.{sym, ◌∙◌}
use native.Mathlib.Omega.{arith}
use borrow.Author.Tests.{not-true, not-false}
use Rattle.model.specs.Verdicts.{given}
use Rattle.verdicts.proofs.Given.{every-start, every_more, every-stop, every-done}
use Rattle.verdicts.proofs.all_given.Goals as goal

pub loop-i-init : goal.loop-i-init
loop-i-init c = (omega arith, every-start given c.args.verdicts.now)

pub returns-then-not-is_given : goal.returns-then-not-is_given
returns-then-not-is_given c = sym (every-stop given c.args.verdicts.now c.loop-i.i c.args.count (omega arith) (omega arith) (sym c.is_given.ensures ∙ not-true c.is_given.result c.if-not-is_given.true-raw))

pub loop-i-preserved : goal.loop-i-preserved
loop-i-preserved c = (omega arith, every_more given c.args.verdicts.now c.loop-i.i (omega arith) c.loop-i.invariant.1 (sym c.is_given.ensures ∙ not-false c.is_given.result c.if-not-is_given.false-raw))

pub returns : goal.returns
returns c = sym (every-done given c.args.verdicts.now c.loop-i.i c.args.count (omega arith) c.loop-i.invariant.1)
