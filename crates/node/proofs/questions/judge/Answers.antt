-- `node::questions::judge` meets its contract. Assumes nothing.
use Prim.Native.Nat.{ℕ}
use mathlib.Core.Path.{◌≡◌, sym, ◌∙◌, ap}
use mathlib.Core.Bool.{true}
use mathlib.Core.List.{List}
use lib.ListN.{length}
use Rattle.laws.specs.Lists.{any}
use Rattle.model.specs.Frame.{Frame, decode}
use Rattle.model.specs.Question.{first_no, frame_questions}
use Rattle.model.specs.Holdback.{held, same_origin}
use Rattle.model.specs.Judge.{taken}
use Rattle.holdback.specs.Seen.{Placeable}
use Rattle.holdback.specs.Sound.{fits}
use Rattle.holdback.proofs.Seen.{length_seen}
use Rattle.setup.specs.Views.{setup_of}
use Rattle.node.specs.Views.{time_questions, time_questions_at}
use Rattle.node.specs.States.{Readable}
use Rattle.node.proofs.Times.{given, askable}
use Rattle.node.proofs.Verdicts.{form-no, time-no, repeat-no, all_yes, fits-when, late-placeable, time-late, time-early, marked-is, refused-located, taken-located}
use Rattle.node.proofs.Places.{size-two}
use Rattle.node.proofs.questions.judge.Lts.View as view
use Rattle.node.proofs.questions.judge.Goals.{After-check_time-time, After-repeats, Else-form-ne0, Else-time-ne0, Start}
use Rattle.node.proofs.questions.judge.Goals as goal

abbrev queue : Start → List Frame
queue c = held c.args.setup.epsilon c.args.holdback.now

abbrev frame : Start → Frame
frame c = decode c.args.setup.epsilon c.args.frame.now

pub check-form-requires : goal.check-form-requires
check-form-requires c = c.requires.timed.limits

pub returns-then-form-ne0 : goal.returns-then-form-ne0
returns-then-form-ne0 c = record { result_value = form-no c.args.listens (setup_of c.args.setup) c.args.clock (queue (goal.at.returns-then-form-ne0 c).Start) c.args.frame.now c.check-form.result c.check-form.ensures c.if-form-ne0.true; located = refused-located }

passed : (c : Else-form-ne0) → first_no (frame_questions (setup_of c.args.setup) c.args.frame.now) ≡ 0
passed c = sym c.check-form.ensures ∙ c.if-form-ne0.false

readable : (c : Else-form-ne0) → Readable (setup_of c.args.setup) c.args.clock c.args.frame.now
readable c = record { timed = c.requires.timed; passed = passed c }

pub reading_of-reading-requires : goal.reading_of-reading-requires
reading_of-reading-requires c = record { setup_value = (c.requires.timed.limits, c.requires.timed.below); frame_bound = (given (setup_of c.args.setup) c.args.clock c.args.frame.now (readable (goal.at.reading_of-reading-requires c).Else-form-ne0)).r-below }

pub check_time-time-requires : goal.check_time-time-requires
check_time-time-requires c = askable (setup_of c.args.setup) c.args.clock c.reading_of-reading.result c.args.frame.now (readable (goal.at.check_time-time-requires c).Else-form-ne0) c.reading_of-reading.ensures

-- 13 to 15, with r read near v
asked : (c : After-check_time-time) → c.check_time-time.result ≡ first_no (time_questions c.args.listens (setup_of c.args.setup) c.args.clock (frame c.before.before.before.before.before.before.before.before.before.before))
unfolding time_questions
asked c =
    let s = setup_of c.args.setup in
    c.check_time-time.ensures ∙ ap (λ (x : ℕ). first_no (time_questions_at c.args.listens s s.modulus x (frame c.before.before.before.before.before.before.before.before.before.before))) c.reading_of-reading.ensures

pub returns-then-time-ne0 : goal.returns-then-time-ne0
returns-then-time-ne0 c = record { result_value = time-no c.args.listens (setup_of c.args.setup) c.args.clock (queue (goal.at.returns-then-time-ne0 c).Start) c.args.frame.now (passed (goal.at.returns-then-time-ne0 c).Else-form-ne0) c.check_time-time.result (asked (goal.at.returns-then-time-ne0 c).After-check_time-time) c.if-time-ne0.true; located = refused-located }

timely : (c : Else-time-ne0) → first_no (time_questions c.args.listens (setup_of c.args.setup) c.args.clock (frame c.before.before.before.before.before.before.before.before.before.before.before)) ≡ 0
timely c = sym (asked (view.up-After-check_time-time _ _ _ _ c.before.before)) ∙ c.if-time-ne0.false

placeable : (c : Else-time-ne0) → Placeable (setup_of c.args.setup) c.args.clock (frame c.before.before.before.before.before.before.before.before.before.before.before)
placeable c =
    late-placeable (setup_of c.args.setup) c.args.clock (frame c.before.before.before.before.before.before.before.before.before.before.before) (given (setup_of c.args.setup) c.args.clock c.args.frame.now (readable (view.up-Else-form-ne0 _ _ _ _ c.before.before.before.before.before))).frame
    (time-late c.args.listens (setup_of c.args.setup) c.args.clock (frame c.before.before.before.before.before.before.before.before.before.before.before) (timely c))

pub repeats-requires : goal.repeats-requires
repeats-requires c = record { setup_value = (c.requires.timed.limits, c.requires.timed.below); placeable = placeable (goal.at.repeats-requires c).Else-time-ne0; seen_len = (ap length c.requires.queued.table_is ∙ length_seen (setup_of c.args.setup) c.args.clock (queue (goal.at.repeats-requires c).Start), c.reading_of-reading.ensures) }

repeated : (c : After-repeats) → c.repeats.result ≡ any (same_origin (frame c.before.before.before.before.before.before.before.before.before.before.before.before)) (queue c.before.before.before.before.before.before.before.before.before.before.before.before)
repeated c = c.repeats.ensures ∙ marked-is (setup_of c.args.setup) c.args.clock c.args.holdback.now c.args.seen.now c.args.starts.now (frame c.before.before.before.before.before.before.before.before.before.before.before.before) c.requires.timed c.requires.queued (placeable (view.up-Else-time-ne0 _ _ _ _ c.before.before))

pub returns-then-repeats : goal.returns-then-repeats
returns-then-repeats c = record { result_value = repeat-no c.args.listens (setup_of c.args.setup) c.args.clock (queue (goal.at.returns-then-repeats c).Start) c.args.frame.now (passed (goal.at.returns-then-repeats c).Else-form-ne0) (timely (goal.at.returns-then-repeats c).Else-time-ne0) (sym (repeated (goal.at.returns-then-repeats c).After-repeats) ∙ c.if-repeats.true); located = refused-located }

fit : (c : Else-time-ne0) → fits (setup_of c.args.setup) c.args.clock c.args.setup.modulus c.args.frame.now ≡ true
fit c = fits-when (setup_of c.args.setup) c.args.clock c.args.frame.now (passed (view.up-Else-form-ne0 _ _ _ _ c.before.before.before.before.before)) (time-late c.args.listens (setup_of c.args.setup) c.args.clock (frame c.before.before.before.before.before.before.before.before.before.before.before) (timely c)) (time-early c.args.listens (setup_of c.args.setup) c.args.clock (frame c.before.before.before.before.before.before.before.before.before.before.before) (timely c))

pub place_for-place-requires : goal.place_for-place-requires
place_for-place-requires c = record { setup_value = (c.requires.timed.limits, c.requires.timed.below); buf_value = (c.requires.queued.sound, (size-two (setup_of c.args.setup) (length c.args.holdback.now) c.requires.queued.size, c.requires.count_value)); starts_value = c.requires.queued.starts_is; frame_value = (fit (goal.at.place_for-place-requires c).Else-time-ne0, c.reading_of-reading.ensures) }

pub returns : goal.returns
returns c =
    record {
      result_value = ap taken c.place_for-place.ensures.frames
          ∙ all_yes c.args.listens (setup_of c.args.setup) c.args.clock (queue (goal.at.returns c).Start) c.args.frame.now (passed (goal.at.returns c).Else-form-ne0) (timely (goal.at.returns c).Else-time-ne0) (sym (repeated (goal.at.returns c).After-repeats) ∙ c.if-repeats.false);
      located = taken-located c.place_for-place.ensures.starts c.reading_of-reading.ensures;
    }
