-- `widernode::questions::check_time` meets its contract. Assumes nothing.
use Prim.Native.Nat.{◌+◌, ◌≤◌, ◌<◌}
use native.Mathlib.Omega.{arith}
use mathlib.Core.Path.{◌≡◌, sym, ap, ◌∙◌}
use borrow.Author.Tests.{not-true, not-false}
use Rattle.model.specs.Frame.{Frame}
use Rattle.model.specs.Schedule.{due_along}
use Rattle.model.specs.Wider.{wider_decode}
use Rattle.setup.specs.Views.{setup_of}
use Rattle.pairs.specs.Views.{schedule_of}
use Rattle.widerqueue.proofs.Shared.{c-same}
use Rattle.widernode.proofs.Times.{Own, own-facts, Given, given, late-no, due-no, early-no, counts-unasked, counts-no, times-right}
use Rattle.widernode.proofs.questions.check_time.Lts.View as view
use Rattle.widernode.proofs.questions.check_time.Goals.{After-c_of, After-due_along, Else-reading-own, Start}
use Rattle.widernode.proofs.questions.check_time.Goals as goal

abbrev frame : Start → Frame
frame c = wider_decode (schedule_of c.args.p) c.args.frame.now

facts : (c : Start) → Given (schedule_of c.args.p) c.args.clock c.args.frame.now
facts c = given (schedule_of c.args.p) c.args.clock c.args.frame.now c.requires.0

own : (c : After-c_of) → Own (schedule_of c.args.p) (setup_of c.own_limits-own.result)
own c = own-facts (schedule_of c.args.p) c.requires.0.timed.good c.own_limits-own.ensures

leads : (c : After-c_of) → c.c_of.result ≡ (frame c.before.before.before.before.before.before).stamp.c
leads c = c.c_of.ensures 0 ∙ c-same (schedule_of c.args.p) 0 c.args.frame.now

-- the sum is small
small : (c : After-c_of) → (c.args.reading < 65600) × (c.c_of.result < 16)
small c =
    let h = facts c.before.before.before.before.before.before in
    (omega (arith, c.requires.1, h.high, h.limits.modulus-most, h.limits.epsilon-most, h.same), omega (arith, leads c, h.frame.close, h.limits.epsilon-most))

pub overflow_add-sum : goal.overflow_add-sum
overflow_add-sum c = omega (arith, small (goal.at.overflow_add-sum c).After-c_of)

pub overflow_add-reading : goal.overflow_add-reading
overflow_add-reading c = let h = facts (goal.at.overflow_add-reading c).Start in omega (arith, small (goal.at.overflow_add-reading c).After-c_of, own (goal.at.overflow_add-reading c).After-c_of, h.limits.delta-most, h.limits.epsilon-most)

timely : (c : Else-reading-own) → c.own_limits-own.result.modulus ≤ c.args.reading + (c.own_limits-own.result.delta + c.own_limits-own.result.epsilon)
timely c = c.if-reading-own.false

pub returns-then-reading-own : goal.returns-then-reading-own
returns-then-reading-own c = late-no c.args.listens (schedule_of c.args.p) c.args.reading (frame (goal.at.returns-then-reading-own c).Start) (own (goal.at.returns-then-reading-own c).After-c_of) c.if-reading-own.true

pub due_along-requires : goal.due_along-requires
due_along-requires c = omega (arith, small (goal.at.due_along-requires c).After-c_of)

due : (c : After-due_along) → c.due_along.result ≡ due_along (schedule_of c.args.p) (c.args.reading + (frame c.before.before.before.before.before.before.before.before.before).stamp.c)
due c = c.due_along.ensures ∙ ap (λ n. due_along (schedule_of c.args.p) (c.args.reading + n)) (leads (view.up-After-c_of _ _ _ c.before.before.before.before))

pub returns-then-due_along-modulus : goal.returns-then-due_along-modulus
returns-then-due_along-modulus c = due-no c.args.listens (schedule_of c.args.p) c.args.reading (frame (goal.at.returns-then-due_along-modulus c).Start) (own (goal.at.returns-then-due_along-modulus c).After-c_of) (timely (goal.at.returns-then-due_along-modulus c).Else-reading-own) (due (goal.at.returns-then-due_along-modulus c).After-due_along) c.if-due_along-modulus.true

pub overflow_sub-epsilon : goal.overflow_sub-epsilon
overflow_sub-epsilon c = omega (arith, own (goal.at.overflow_sub-epsilon c).After-c_of, (facts (goal.at.overflow_sub-epsilon c).Start).limits.epsilon-pos)

pub returns-then-modulus-epsilon : goal.returns-then-modulus-epsilon
returns-then-modulus-epsilon c = early-no c.args.listens (schedule_of c.args.p) c.args.reading (frame (goal.at.returns-then-modulus-epsilon c).Start) (own (goal.at.returns-then-modulus-epsilon c).After-c_of) (timely (goal.at.returns-then-modulus-epsilon c).Else-reading-own) (due (goal.at.returns-then-modulus-epsilon c).After-due_along) c.if-due_along-modulus.false (omega (arith, c.if-modulus-epsilon.true, leads (goal.at.returns-then-modulus-epsilon c).After-c_of))

pub returns-then-listens : goal.returns-then-listens
returns-then-listens c = counts-unasked c.args.listens (schedule_of c.args.p) c.args.reading (frame (goal.at.returns-then-listens c).Start) (own (goal.at.returns-then-listens c).After-c_of) (timely (goal.at.returns-then-listens c).Else-reading-own) (due (goal.at.returns-then-listens c).After-due_along) c.if-due_along-modulus.false (omega (arith, c.if-modulus-epsilon.false, leads (goal.at.returns-then-listens c).After-c_of)) c.if-listens.true

pub returns-then-not-counts_few : goal.returns-then-not-counts_few
returns-then-not-counts_few c =
    counts-no c.args.listens (schedule_of c.args.p) c.args.reading (frame (goal.at.returns-then-not-counts_few c).Start) (own (goal.at.returns-then-not-counts_few c).After-c_of) (timely (goal.at.returns-then-not-counts_few c).Else-reading-own) (due (goal.at.returns-then-not-counts_few c).After-due_along) c.if-due_along-modulus.false (omega (arith, c.if-modulus-epsilon.false, leads (goal.at.returns-then-not-counts_few c).After-c_of)) c.if-listens.false
    (sym c.counts_few.ensures ∙ not-true c.counts_few.result c.if-not-counts_few.true-raw)

pub returns : goal.returns
returns c =
    times-right c.args.listens (schedule_of c.args.p) c.args.reading (frame (goal.at.returns c).Start) (own (goal.at.returns c).After-c_of) (timely (goal.at.returns c).Else-reading-own) (due (goal.at.returns c).After-due_along) c.if-due_along-modulus.false (omega (arith, c.if-modulus-epsilon.false, leads (goal.at.returns c).After-c_of)) c.if-listens.false
    (sym c.counts_few.ensures ∙ not-false c.counts_few.result c.if-not-counts_few.false-raw)
