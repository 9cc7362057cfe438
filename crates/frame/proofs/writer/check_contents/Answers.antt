-- `frame::writer::check_contents` meets its contract. Assumes nothing.
use Prim.Native.Nat.{ℕ}
use mathlib.Core.List.{[], ◌∷◌}
use mathlib.Core.Path.{◌≡◌, ◌∙◌, sym}
use borrow.Author.Tests.{not-true, not-false}
use Rattle.frame.specs.Lay.{contents_questions}
use Rattle.frame.proofs.Asking.{as_setup, station-no, r-no, in-range, stamp-no, stamp-sound, payload-no, payload-right}
use Rattle.timestamp.specs.Views.{stamp_of}
use Rattle.model.specs.Codec.{frame_of}
use Rattle.model.specs.Question.{first_no, ask_range, ask_stamp}
use Rattle.model.specs.Frame.{Frame}
use Rattle.model.specs.Timestamp.{trimmed}
use Rattle.model.specs.Setup.{Setup}
use Rattle.frame.proofs.writer.check_contents.Lts.View as view
use Rattle.frame.proofs.writer.check_contents.Goals.{Else-bound-stamp, Else-payload-gt-LONGEST_PAYLOAD, Start}
use Rattle.frame.proofs.writer.check_contents.Goals as goal

-- the frame of the arguments, and the setup that they stand for
abbrev frame : Start → Frame
frame c = frame_of c.args.epsilon c.args.station (stamp_of c.args.stamp) c.args.payload.now

abbrev setup : Start → Setup
setup c = as_setup c.args.n c.args.epsilon c.args.bound (frame c)

abbrev asked : Start → ℕ
asked c = first_no (contents_questions c.args.n c.args.epsilon c.args.bound (frame c))

-- what is left to ask after each test
asked-range : (c : Else-payload-gt-LONGEST_PAYLOAD) → asked c.before.before.before ≡ first_no (ask_range (setup c.before.before.before) (frame c.before.before.before) ∷ ask_stamp (setup c.before.before.before) (frame c.before.before.before) ∷ [])
unfolding frame_of
asked-range c = payload-right c.args.n c.args.epsilon c.args.bound (frame c.before.before.before) c.if-payload-gt-LONGEST_PAYLOAD.false

asked-stamp : (c : Else-bound-stamp) → asked c.before.before.before.before.before.before ≡ first_no (ask_stamp (setup c.before.before.before.before.before.before) (frame c.before.before.before.before.before.before) ∷ [])
unfolding frame_of trimmed
asked-stamp c =
    asked-range (view.up-Else-payload-gt-LONGEST_PAYLOAD _ _ _ c.before.before.before.before)
    ∙ in-range (setup c.before.before.before.before.before.before) (frame c.before.before.before.before.before.before) (ask_stamp (setup c.before.before.before.before.before.before) (frame c.before.before.before.before.before.before) ∷ []) c.if-n-station.false c.if-bound-stamp.false

pub returns-then-payload-gt-LONGEST_PAYLOAD : goal.returns-then-payload-gt-LONGEST_PAYLOAD
unfolding frame_of
returns-then-payload-gt-LONGEST_PAYLOAD c = sym (payload-no c.args.n c.args.epsilon c.args.bound (frame (goal.at.returns-then-payload-gt-LONGEST_PAYLOAD c).Start) c.if-payload-gt-LONGEST_PAYLOAD.true)

pub returns-then-n-station : goal.returns-then-n-station
unfolding frame_of
returns-then-n-station c = sym (asked-range (goal.at.returns-then-n-station c).Else-payload-gt-LONGEST_PAYLOAD ∙ station-no (setup (goal.at.returns-then-n-station c).Start) (frame (goal.at.returns-then-n-station c).Start) (ask_stamp (setup (goal.at.returns-then-n-station c).Start) (frame (goal.at.returns-then-n-station c).Start) ∷ []) c.if-n-station.true)

pub returns-then-bound-stamp : goal.returns-then-bound-stamp
unfolding frame_of trimmed
returns-then-bound-stamp c =
    sym (asked-range (goal.at.returns-then-bound-stamp c).Else-payload-gt-LONGEST_PAYLOAD
    ∙ r-no (setup (goal.at.returns-then-bound-stamp c).Start) (frame (goal.at.returns-then-bound-stamp c).Start) (ask_stamp (setup (goal.at.returns-then-bound-stamp c).Start) (frame (goal.at.returns-then-bound-stamp c).Start) ∷ []) c.if-n-station.false c.if-bound-stamp.true)

pub returns-then-not-is_sound : goal.returns-then-not-is_sound
unfolding frame_of
returns-then-not-is_sound c =
    sym (asked-stamp (goal.at.returns-then-not-is_sound c).Else-bound-stamp
    ∙ stamp-no (setup (goal.at.returns-then-not-is_sound c).Start) (frame (goal.at.returns-then-not-is_sound c).Start) [] (sym c.is_sound.ensures ∙ not-true c.is_sound.result c.if-not-is_sound.true-raw))

pub returns : goal.returns
unfolding frame_of first_no
returns c =
    sym (asked-stamp (goal.at.returns c).Else-bound-stamp
    ∙ stamp-sound (setup (goal.at.returns c).Start) (frame (goal.at.returns c).Start) [] (sym c.is_sound.ensures ∙ not-false c.is_sound.result c.if-not-is_sound.false-raw))
