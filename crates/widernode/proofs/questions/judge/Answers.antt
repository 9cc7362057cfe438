-- `widernode::questions::judge` meets its contract. Assumes nothing.
use native.Mathlib.Omega.{arith}
use mathlib.Core.Path.{◌≡◌, sym, ap, ◌∙◌}
use mathlib.Core.List.{List}
use lib.ListN.{length}
use Rattle.laws.specs.Lists.{any}
use Rattle.model.specs.Frame.{Frame}
use Rattle.model.specs.Question.{first_no}
use Rattle.model.specs.Holdback.{same_origin}
use Rattle.model.specs.Judge.{taken}
use Rattle.model.specs.Schedule.{own_limits}
use Rattle.model.specs.Wider.{wider_frame_questions, wider_decode, wider_reading, wider_held}
use Rattle.holdback.specs.Seen.{Placeable}
use Rattle.holdback.proofs.Seen.{length_seen}
use Rattle.setup.specs.Views.{setup_of}
use Rattle.pairs.specs.Views.{schedule_of}
use Rattle.node.proofs.Places.{size-two}
use Rattle.node.proofs.Verdicts.{refused-located, taken-located}
use Rattle.widernode.specs.Views.{time_questions}
use Rattle.widernode.specs.States.{Readable}
use Rattle.widerqueue.proofs.Shared.{own-in-limits, own_below, r-same, reading-same, marked-same, placeable-same}
use Rattle.widernode.proofs.Times.{Given, given}
use Rattle.widernode.proofs.Verdicts.{form-no, time-no, repeat-no, all_yes, late-placeable, time-late, late_asked, marked-is}
use Rattle.widernode.proofs.questions.judge.Lts.View as view
use Rattle.widernode.proofs.questions.judge.Goals.{After-reading_of-reading, After-repeats, Else-form-ne0, Else-time-ne0, Start}
use Rattle.widernode.proofs.questions.judge.Goals as goal

abbrev queue : Start → List Frame
queue c = wider_held (schedule_of c.args.p) c.args.holdback.now

abbrev frame : Start → Frame
frame c = wider_decode (schedule_of c.args.p) c.args.frame.now

pub returns-then-form-ne0 : goal.returns-then-form-ne0
returns-then-form-ne0 c = record { result_value = form-no c.args.listens (setup_of c.args.p.before) (setup_of c.args.p.after) c.args.p.change c.args.clock (queue (goal.at.returns-then-form-ne0 c).Start) c.args.frame.now c.check-form.result c.check-form.ensures c.if-form-ne0.true; located = refused-located }

passed : (c : Else-form-ne0) → first_no (wider_frame_questions (schedule_of c.args.p) c.args.frame.now) ≡ 0
passed c = sym c.check-form.ensures ∙ c.if-form-ne0.false

readable : (c : Else-form-ne0) → Readable (schedule_of c.args.p) c.args.clock c.args.frame.now
readable c = record { timed = c.requires.timed; passed = passed c }

facts : (c : Else-form-ne0) → Given (schedule_of c.args.p) c.args.clock c.args.frame.now
facts c = given (schedule_of c.args.p) c.args.clock c.args.frame.now (readable c)

pub reading_of-reading-requires : goal.reading_of-reading-requires
reading_of-reading-requires c =
    let g = schedule_of c.args.p in
    let own = setup_of c.own_limits-own.result in
    let below = (facts (goal.at.reading_of-reading-requires c).Else-form-ne0).frame.r-below in record { setup_value = (own-in-limits g own c.own_limits-own.ensures c.requires.timed.good, own_below g own c.own_limits-own.ensures c.requires.timed.good c.requires.timed.below); frame_bound = r-same g own c.own_limits-own.ensures c.args.clock c.args.frame.now (omega (arith, below, ap (λ u. u.modulus) c.own_limits-own.ensures)) }

-- r read near v by the limits of v
read : (c : After-reading_of-reading) → c.reading_of-reading.result ≡ wider_reading (schedule_of c.args.p) c.args.clock (frame c.before.before.before.before.before.before.before.before)
read c = c.reading_of-reading.ensures ∙ reading-same (schedule_of c.args.p) (setup_of c.own_limits-own.result) c.own_limits-own.ensures c.args.clock c.args.frame.now

pub check_time-time-requires : goal.check_time-time-requires
check_time-time-requires c = (readable (goal.at.check_time-time-requires c).Else-form-ne0, read (goal.at.check_time-time-requires c).After-reading_of-reading)

pub returns-then-time-ne0 : goal.returns-then-time-ne0
returns-then-time-ne0 c = record { result_value = time-no c.args.listens (setup_of c.args.p.before) (setup_of c.args.p.after) c.args.p.change c.args.clock (queue (goal.at.returns-then-time-ne0 c).Start) c.args.frame.now (passed (goal.at.returns-then-time-ne0 c).Else-form-ne0) (read (goal.at.returns-then-time-ne0 c).After-reading_of-reading) c.check_time-time.result c.check_time-time.ensures c.if-time-ne0.true; located = refused-located }

timely : (c : Else-time-ne0) → first_no (time_questions c.args.listens (schedule_of c.args.p) c.reading_of-reading.result (frame c.before.before.before.before.before.before.before.before.before.before)) ≡ 0
timely c = sym c.check_time-time.ensures ∙ c.if-time-ne0.false

placeable : (c : Else-time-ne0) → Placeable (own_limits (schedule_of c.args.p)) c.args.clock (frame c.before.before.before.before.before.before.before.before.before.before)
placeable c =
    let g = schedule_of c.args.p in
    late-placeable g c.args.clock (frame c.before.before.before.before.before.before.before.before.before.before) c.requires.timed.good (facts (view.up-Else-form-ne0 _ _ _ _ c.before.before.before.before.before)).frame
    (late_asked g c.args.clock (frame c.before.before.before.before.before.before.before.before.before.before) (read (view.up-After-reading_of-reading _ _ _ _ c.before.before.before)) (time-late c.args.listens g c.reading_of-reading.result (frame c.before.before.before.before.before.before.before.before.before.before) (timely c)))

pub repeats-requires : goal.repeats-requires
repeats-requires c =
    let g = schedule_of c.args.p in
    let own = setup_of c.own_limits-own.result in
    record { setup_value = (own-in-limits g own c.own_limits-own.ensures c.requires.timed.good, own_below g own c.own_limits-own.ensures c.requires.timed.good c.requires.timed.below); placeable = placeable-same g own c.own_limits-own.ensures c.args.clock c.args.frame.now (placeable (goal.at.repeats-requires c).Else-time-ne0); seen_len = (ap length c.requires.queued.0.table_is ∙ length_seen (own_limits g) c.args.clock (queue (goal.at.repeats-requires c).Start), c.reading_of-reading.ensures) }

repeated : (c : After-repeats) → c.repeats.result ≡ any (same_origin (frame c.before.before.before.before.before.before.before.before.before.before.before)) (queue c.before.before.before.before.before.before.before.before.before.before.before)
repeated c =
    let g = schedule_of c.args.p in
    c.repeats.ensures
    ∙ (marked-same g (setup_of c.own_limits-own.result) c.own_limits-own.ensures c.args.clock c.args.frame.now c.args.seen.now
    ∙ marked-is g c.args.clock c.args.holdback.now c.args.seen.now (frame c.before.before.before.before.before.before.before.before.before.before.before) c.requires.timed c.requires.queued.0 (placeable (view.up-Else-time-ne0 _ _ _ _ c.before.before)))

pub returns-then-repeats : goal.returns-then-repeats
returns-then-repeats c = record { result_value = repeat-no c.args.listens (setup_of c.args.p.before) (setup_of c.args.p.after) c.args.p.change c.args.clock (queue (goal.at.returns-then-repeats c).Start) c.args.frame.now (passed (goal.at.returns-then-repeats c).Else-form-ne0) (read (goal.at.returns-then-repeats c).After-reading_of-reading) (timely (goal.at.returns-then-repeats c).Else-time-ne0) (sym (repeated (goal.at.returns-then-repeats c).After-repeats) ∙ c.if-repeats.true); located = refused-located }

pub place_for-place-requires : goal.place_for-place-requires
place_for-place-requires c = record { paired = (c.requires.timed.good, c.requires.timed.below); buf_value = (c.requires.queued.0.sound, (size-two (setup_of c.args.p.after) (length c.args.holdback.now) c.requires.queued.0.size, c.requires.queued.1)); frame_value = ((facts (goal.at.place_for-place-requires c).Else-form-ne0).passes, read (goal.at.place_for-place-requires c).After-reading_of-reading) }

pub returns : goal.returns
returns c =
    record {
      result_value = ap taken c.place_for-place.ensures.frames
          ∙ all_yes c.args.listens (setup_of c.args.p.before) (setup_of c.args.p.after) c.args.p.change c.args.clock (queue (goal.at.returns c).Start) c.args.frame.now (passed (goal.at.returns c).Else-form-ne0) (read (goal.at.returns c).After-reading_of-reading) (timely (goal.at.returns c).Else-time-ne0) (sym (repeated (goal.at.returns c).After-repeats) ∙ c.if-repeats.false);
      located = taken-located c.place_for-place.ensures.starts (read (goal.at.returns c).After-reading_of-reading);
    }
