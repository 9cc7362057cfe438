-- `node::questions::check_time` meets its contract. Assumes nothing.
use Prim.Native.Nat.{◌+◌, ◌-◌, ◌≤◌}
use native.Mathlib.Omega.{arith}
use mathlib.Core.Path.{◌≡◌, ◌∙◌, sym, ap}
use borrow.Author.Tests.{not-true, not-false}
use Rattle.model.specs.Timestamp.{counts_from, at_most}
use Rattle.model.specs.Frame.{Frame, decode}
use Rattle.setup.specs.Views.{setup_of}
use Rattle.node.proofs.Times.{late-no, early-no, counts-unasked, counts-no, times-right, counts-there}
use Rattle.node.proofs.questions.check_time.Lts.View as view
use Rattle.node.proofs.questions.check_time.Goals.{After-c_of, After-counts_at_most, Else-at-epsilon, Else-reading-setup, Start}
use Rattle.node.proofs.questions.check_time.Goals as goal

abbrev frame : Start → Frame
frame c = decode c.args.setup.epsilon c.args.frame.now

pub overflow_add-reading : goal.overflow_add-reading
overflow_add-reading c = omega (arith, c.requires)

pub returns-then-reading-setup : goal.returns-then-reading-setup
returns-then-reading-setup c = late-no c.args.listens (setup_of c.args.setup) c.args.at c.args.reading (frame (goal.at.returns-then-reading-setup c).Start) c.if-reading-setup.true

pub overflow_sub-epsilon : goal.overflow_sub-epsilon
overflow_sub-epsilon c = omega (arith, c.requires.epsilon-pos)

pub overflow_add-at : goal.overflow_add-at
overflow_add-at c = omega (arith, c.requires)

leads : (c : After-c_of) → c.c_of.result ≡ (frame c.before.before.before.before.before.before).stamp.c
leads c = c.c_of.ensures c.args.setup.epsilon

pub overflow_add-reading-2 : goal.overflow_add-reading-2
overflow_add-reading-2 c = omega (arith, c.requires, leads (goal.at.overflow_add-reading-2 c).After-c_of)

late-left : (c : Else-reading-setup) → c.args.at ≤ c.args.reading + (c.args.setup.delta + c.args.setup.epsilon)
late-left c = c.if-reading-setup.false

pub returns-then-at-epsilon : goal.returns-then-at-epsilon
returns-then-at-epsilon c = early-no c.args.listens (setup_of c.args.setup) c.args.at c.args.reading (frame (goal.at.returns-then-at-epsilon c).Start) (late-left (goal.at.returns-then-at-epsilon c).Else-reading-setup) (omega (arith, leads (goal.at.returns-then-at-epsilon c).After-c_of))

early-left : (c : Else-at-epsilon) → c.args.reading + (frame c.before.before.before.before.before.before.before).stamp.c ≤ c.args.at + (c.args.setup.epsilon - 1)
early-left c = omega (arith, leads (view.up-After-c_of _ _ _ c.before.before))

pub returns-then-listens : goal.returns-then-listens
returns-then-listens c = counts-unasked c.args.listens (setup_of c.args.setup) c.args.at c.args.reading (frame (goal.at.returns-then-listens c).Start) (late-left (goal.at.returns-then-listens c).Else-reading-setup) (early-left (goal.at.returns-then-listens c).Else-at-epsilon) c.if-listens.true

pub counts_part-counts-requires : goal.counts_part-counts-requires
counts_part-counts-requires c = (c.requires.epsilon-most, c.requires.long)

pub overflow_add-from : goal.overflow_add-from
overflow_add-from c = omega (arith, c.requires)

-- a frame that has passed 14 is less than ε ahead
high : (c : Else-at-epsilon) → c.args.reading ≤ c.args.at + c.args.setup.epsilon
high c = omega (arith, early-left c)

pub overflow_sub-from : goal.overflow_sub-from
overflow_sub-from c = omega (arith, high (goal.at.overflow_sub-from c).Else-at-epsilon)

pub overflow_sub-setup : goal.overflow_sub-setup
overflow_sub-setup c = omega (arith, c.requires.n_pos)

counts : (c : After-counts_at_most) → c.counts_at_most.result ≡ at_most (c.args.setup.n - 1) (counts_from c.args.setup.epsilon c.args.reading (frame c.before.before.before.before.before.before.before.before.before.before.before).stamp.kn c.args.at)
counts c =
    c.counts_at_most.ensures
    ∙ ap (at_most (c.args.setup.n - 1)) (counts-there c.args.setup.epsilon c.args.reading c.args.at c.args.frame.now c.counts_part-counts.result.now c.counts_part-counts.ensures (high (view.up-Else-at-epsilon _ _ _ c.before.before.before.before.before)))

pub returns-then-not-counts_at_most : goal.returns-then-not-counts_at_most
returns-then-not-counts_at_most c = counts-no c.args.listens (setup_of c.args.setup) c.args.at c.args.reading (frame (goal.at.returns-then-not-counts_at_most c).Start) (late-left (goal.at.returns-then-not-counts_at_most c).Else-reading-setup) (early-left (goal.at.returns-then-not-counts_at_most c).Else-at-epsilon) c.if-listens.false (sym (counts (goal.at.returns-then-not-counts_at_most c).After-counts_at_most) ∙ not-true c.counts_at_most.result c.if-not-counts_at_most.true-raw)

pub returns : goal.returns
returns c = times-right c.args.listens (setup_of c.args.setup) c.args.at c.args.reading (frame (goal.at.returns c).Start) (late-left (goal.at.returns c).Else-reading-setup) (early-left (goal.at.returns c).Else-at-epsilon) c.if-listens.false (sym (counts (goal.at.returns c).After-counts_at_most) ∙ not-false c.counts_at_most.result c.if-not-counts_at_most.false-raw)
