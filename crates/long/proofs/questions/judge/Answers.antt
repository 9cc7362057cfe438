-- `long::questions::judge` meets its contract. Assumes nothing.
use Prim.Native.Nat.{ℕ}
use native.Mathlib.Omega.{arith}
use mathlib.Core.Path.{◌≡◌, sym, ◌∙◌, ap₂}
use mathlib.Core.Bool.{false}
use mathlib.Core.List.{List}
use lib.ListN.{length}
use Rattle.model.specs.Frame.{Frame, decode}
use Rattle.model.specs.Question.{first_no}
use Rattle.model.specs.Long.{six_on, long_decode, long_held, long_frame_questions}
use Rattle.longqueue.proofs.Extents.{held-length}
use Rattle.setup.specs.Views.{setup_of}
use Rattle.node.specs.Views.{time_questions_at}
use Rattle.long.specs.States.{Readable}
use Rattle.long.proofs.Judging.{given, askable, form-no, time-no, repeat-no, held-no, all_yes}
use Rattle.long.proofs.questions.judge.Lts.View as view
use Rattle.long.proofs.questions.judge.Goals.{After-check_time-time, After-r_of, Else-form-ne0, Else-time-ne0, Start}
use Rattle.long.proofs.questions.judge.Goals as goal

abbrev queue : Start → List Frame
queue c = long_held c.args.setup.epsilon c.args.holdback.now

abbrev frame : Start → Frame
frame c = long_decode c.args.setup.epsilon c.args.frame.now

pub check-form-requires : goal.check-form-requires
check-form-requires c = c.requires.timed.limits

pub returns-then-form-ne0 : goal.returns-then-form-ne0
returns-then-form-ne0 c = form-no (setup_of c.args.setup) c.args.clock (queue (goal.at.returns-then-form-ne0 c).Start) c.args.frame.now c.check-form.result c.check-form.ensures c.if-form-ne0.true

passed : (c : Else-form-ne0) → first_no (long_frame_questions (setup_of c.args.setup) c.args.frame.now) ≡ 0
passed c = sym c.check-form.ensures ∙ c.if-form-ne0.false

readable : (c : Else-form-ne0) → Readable (setup_of c.args.setup) c.args.clock c.args.frame.now
readable c = record { timed = c.requires.timed; passed = passed c }

pub r_of-requires : goal.r_of-requires
r_of-requires c = (given (readable (goal.at.r_of-requires c).Else-form-ne0)).clock-there

-- r and what stands six bytes on, as they are read
clock : (c : After-r_of) → c.r_of.result ≡ (frame c.before.before.before.before.before.before.before).stamp.r
clock c = c.r_of.ensures c.args.setup.epsilon

pub check_time-time-requires : goal.check_time-time-requires
check_time-time-requires c = rw c.six_on.ensures (askable c.r_of.result (readable (goal.at.check_time-time-requires c).Else-form-ne0) (clock (goal.at.check_time-time-requires c).After-r_of))

-- 13 to 15
times : (c : After-check_time-time) → c.check_time-time.result ≡ first_no (time_questions_at false (setup_of c.args.setup) c.args.clock (frame c.before.before.before.before.before.before.before.before).stamp.r (decode c.args.setup.epsilon (six_on c.args.frame.now)))
times c =
    c.check_time-time.ensures
    ∙ ap₂ (λ (x : ℕ) (l : List ℕ). first_no (time_questions_at false (setup_of c.args.setup) c.args.clock x (decode c.args.setup.epsilon l))) (clock (view.up-After-r_of _ _ _ _ c.before.before)) c.six_on.ensures

pub returns-then-time-ne0 : goal.returns-then-time-ne0
returns-then-time-ne0 c = time-no (setup_of c.args.setup) c.args.clock (queue (goal.at.returns-then-time-ne0 c).Start) c.args.frame.now (passed (goal.at.returns-then-time-ne0 c).Else-form-ne0) c.check_time-time.result (times (goal.at.returns-then-time-ne0 c).After-check_time-time) c.if-time-ne0.true

timely : (c : Else-time-ne0) → first_no (time_questions_at false (setup_of c.args.setup) c.args.clock (frame c.before.before.before.before.before.before.before.before.before).stamp.r (decode c.args.setup.epsilon (six_on c.args.frame.now))) ≡ 0
timely c = sym (times (view.up-After-check_time-time _ _ _ _ c.before.before)) ∙ c.if-time-ne0.false

pub repeats-repeated-requires : goal.repeats-repeated-requires
repeats-repeated-requires c =
    let g = given (readable (goal.at.repeats-repeated-requires c).Else-form-ne0) in
    record { epsilon_bound = (g.limits.epsilon-most, g.clock-there); count_value = c.requires.count_value }

pub returns-then-repeated : goal.returns-then-repeated
returns-then-repeated c = repeat-no (setup_of c.args.setup) c.args.clock (queue (goal.at.returns-then-repeated c).Start) c.args.frame.now (passed (goal.at.returns-then-repeated c).Else-form-ne0) (timely (goal.at.returns-then-repeated c).Else-time-ne0) (sym c.repeats-repeated.ensures ∙ c.if-repeated.true)

-- the queue has so many frames
count : (c : Start) → c.args.count ≡ length (queue c)
count c = c.requires.count_value.0 ∙ sym (held-length c.args.setup.epsilon c.args.holdback.now)

pub returns-then-count-ge-MOST : goal.returns-then-count-ge-MOST
returns-then-count-ge-MOST c = held-no (setup_of c.args.setup) c.args.clock (queue (goal.at.returns-then-count-ge-MOST c).Start) c.args.frame.now (passed (goal.at.returns-then-count-ge-MOST c).Else-form-ne0) (timely (goal.at.returns-then-count-ge-MOST c).Else-time-ne0) (sym c.repeats-repeated.ensures ∙ c.if-repeated.false) (omega (arith, count (goal.at.returns-then-count-ge-MOST c).Start))

pub returns : goal.returns
returns c = all_yes (setup_of c.args.setup) c.args.clock (queue (goal.at.returns c).Start) c.args.frame.now (passed (goal.at.returns c).Else-form-ne0) (timely (goal.at.returns c).Else-time-ne0) (sym c.repeats-repeated.ensures ∙ c.if-repeated.false) (omega (arith, count (goal.at.returns c).Start))
