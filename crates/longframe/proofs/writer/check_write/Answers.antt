-- `longframe::writer::check_write` meets its contract. Assumes nothing.
use Prim.Native.Nat.{◌+◌, ◌*◌}
use mathlib.Core.Bool.{Bool, true, cond}
use mathlib.Core.Path.{◌≡◌, ◌∙◌, sym}
use native.Mathlib.Omega.{arith}
use lib.Dec.{leb}
use lib.ListN.{length}
use borrow.Author.Tests.{not-true, not-false, lt-leb, le-leb}
use Rattle.laws.proofs.Numbers.{cond-true, cond-false}
use Rattle.frame.proofs.Asking.{valid-no, contents-no, contents-right}
use Rattle.longframe.proofs.Asking.{valid, setup-from, all_asked_lem, length-frame}
use Rattle.lemmas.proofs.Bounds.{LongLimits}
use Rattle.setup.specs.Views.{setup_of}
use Rattle.timestamp.specs.Views.{stamp_of}
use Rattle.model.specs.Codec.{frame_of}
use Rattle.model.specs.Question.{first_no}
use Rattle.model.specs.Frame.{Frame}
use Rattle.model.specs.Setup.{Setup}
use Rattle.model.specs.Long.{long_bound, long_encode, long_write_questions}
use Rattle.longframe.proofs.writer.check_write.Lts.View as view
use Rattle.longframe.proofs.writer.check_write.Goals.{Else-contents-ne0, Else-not-valid_for, Start}
use Rattle.longframe.proofs.writer.check_write.Goals as goal

-- the setup and the frame of the arguments, and whether it fits
abbrev setup : Start → Setup
setup c = setup_of c.args.setup

abbrev frame : Start → Frame
frame c = frame_of c.args.setup.epsilon c.args.station (stamp_of c.args.stamp) c.args.payload.now

abbrev fits : Start → Bool
fits c = leb (length (long_encode (frame c))) (length c.args.out.now)

limited : (c : Else-not-valid_for) → valid (setup c.before.before.before.before.before) c.args.own ≡ true
limited c = sym c.valid_for.ensures ∙ not-false c.valid_for.result c.if-not-valid_for.false-raw

long : (c : Start) → length (long_encode (frame c)) ≡ 13 + 2 * c.args.setup.epsilon + length c.args.payload.now
long c = length-frame c.args.setup.epsilon c.args.station (stamp_of c.args.stamp) c.args.payload.now

-- the room decides, once the others are asked
asked-room : (c : Else-contents-ne0) → first_no (long_write_questions (setup c.before.before.before.before.before.before.before.before.before) c.args.own (frame c.before.before.before.before.before.before.before.before.before) c.args.out.now) ≡ cond (fits c.before.before.before.before.before.before.before.before.before) 0 6
asked-room c =
    let s = setup c.before.before.before.before.before.before.before.before.before in
    all_asked_lem s c.args.own (frame c.before.before.before.before.before.before.before.before.before) c.args.out.now
    ∙ contents-right s.n s.epsilon long_bound (frame c.before.before.before.before.before.before.before.before.before) (valid s c.args.own) (fits c.before.before.before.before.before.before.before.before.before) (limited (view.up-Else-not-valid_for _ _ _ c.before.before.before.before.before))
    (sym c.check_contents-contents.ensures ∙ c.if-contents-ne0.false)

pub returns-then-not-valid_for : goal.returns-then-not-valid_for
returns-then-not-valid_for c =
    let s = setup (goal.at.returns-then-not-valid_for c).Start in
    sym (all_asked_lem s c.args.own (frame (goal.at.returns-then-not-valid_for c).Start) c.args.out.now
    ∙ valid-no s.n s.epsilon long_bound (frame (goal.at.returns-then-not-valid_for c).Start) (valid s c.args.own) (fits (goal.at.returns-then-not-valid_for c).Start) (sym c.valid_for.ensures ∙ not-true c.valid_for.result c.if-not-valid_for.true-raw))

pub check_contents-contents-requires : goal.check_contents-contents-requires
check_contents-contents-requires c =
    let l : LongLimits (setup (goal.at.check_contents-contents-requires c).Start) = setup-from (setup (goal.at.check_contents-contents-requires c).Start) c.args.own (limited (goal.at.check_contents-contents-requires c).Else-not-valid_for) in
    (l.n-most, (l.epsilon-pos, l.epsilon-most))

pub returns-then-contents-ne0 : goal.returns-then-contents-ne0
returns-then-contents-ne0 c =
    let s = setup (goal.at.returns-then-contents-ne0 c).Start in
    contents-no s.n s.epsilon long_bound (frame (goal.at.returns-then-contents-ne0 c).Start) (valid s c.args.own) (fits (goal.at.returns-then-contents-ne0 c).Start) (limited (goal.at.returns-then-contents-ne0 c).Else-not-valid_for)
    c.check_contents-contents.result c.check_contents-contents.ensures c.if-contents-ne0.true
    ∙ sym (all_asked_lem s c.args.own (frame (goal.at.returns-then-contents-ne0 c).Start) c.args.out.now)

pub returns-then-out-epsilon : goal.returns-then-out-epsilon
returns-then-out-epsilon c = sym (asked-room (goal.at.returns-then-out-epsilon c).Else-contents-ne0 ∙ cond-false 0 6 (lt-leb (length (long_encode (frame (goal.at.returns-then-out-epsilon c).Start))) (length c.args.out.now) (omega (arith, long (goal.at.returns-then-out-epsilon c).Start))))

pub returns : goal.returns
returns c = sym (asked-room (goal.at.returns c).Else-contents-ne0 ∙ cond-true 0 6 (le-leb (length (long_encode (frame (goal.at.returns c).Start))) (length c.args.out.now) (omega (arith, long (goal.at.returns c).Start))))
