-- `holdback::overdue::release` meets its contract: the front is written to the delivery, and leaves where there is one. Assumes nothing.
use Rattle.std.proofs.Common.{◌≡◌, ℕ, ◌≤◌, List, length, take, ap, ◌∙◌, arith}
use Rattle.model.specs.Setup.{Setup}
use Rattle.model.specs.Holdback.{held}
use Rattle.setup.specs.Views.{setup_of}
use Rattle.lemmas.proofs.Bounds.{Limits}
use Rattle.lemmas.proofs.Questions.{limits-from}
use Rattle.holdback.specs.Queue.{Spans}
use Rattle.holdback.specs.Overdue.{SoundBy, OverdueFront, overdue_frames}
use Rattle.holdback.proofs.RoundTrip.{Bytes}
use Rattle.holdback.proofs.Changes.{located}
use Rattle.holdback.proofs.Releasing.{overdue-front, overdue-first, overdue-small, overdue-spans, released-none, released-some, begun-spans, begun-given}
use Rattle.holdback.proofs.overdue.release.Goals.{After-front_below-overdue}
use Rattle.holdback.proofs.overdue.release.Goals as goal

pub front_below-overdue-requires : goal.front_below-overdue-requires
front_below-overdue-requires c = record { setup_value = (c.requires.setup_value.0, omega arith); sound_by = (c.requires.sound_by.0, c.requires.seen_value.1) }

-- the queue as it comes, and its front
module _ (c : After-front_below-overdue) where
  abbrev s : Setup
  s = setup_of c.args.setup

  abbrev v : ℕ
  v = c.args.clock

  abbrev b : List ℕ
  b = c.args.buf.now

  abbrev sound : SoundBy s v b
  sound = c.requires.sound_by.0

  front : OverdueFront s v b c.front_below-overdue.result.index c.front_below-overdue.result.at
  front = overdue-front s v sound.least b sound.sound c.front_below-overdue.ensures

  limits : Limits s
  limits = limits-from s c.requires.setup_value.0

  clean : Bytes b
  clean i = omega (arith, c.slice_known-1.given i)

  spans : Spans s.epsilon b c.args.count c.args.end c.front_below-overdue.result.index c.front_below-overdue.result.at
  spans =
      overdue-spans s v sound.least b sound.sound limits clean c.requires.sound_by.1.0 c.requires.sound_by.1.1 c.requires.end_value.0 front

  long : 2 ≤ length c.args.delivery.now
  long = omega (arith, c.requires.sound_by.1.0, c.requires.end_value.1)

  first : take c.front_below-overdue.result.index (held s.epsilon b) ≡ overdue_frames s v b
  first = ap (λ (n : ℕ). take n (held s.epsilon b)) front.number ∙ overdue-first s v sound.least b sound.sound

pub put_u16-requires : goal.put_u16-requires
put_u16-requires c = (omega (arith, long (goal.at.put_u16-requires c).After-front_below-overdue), omega arith)

pub append_prefix-requires : goal.append_prefix-requires
append_prefix-requires c =
    let place = located (spans (goal.at.append_prefix-requires c).After-front_below-overdue) (clean (goal.at.append_prefix-requires c).After-front_below-overdue) in
    let small = overdue-small (s (goal.at.append_prefix-requires c).After-front_below-overdue) (v (goal.at.append_prefix-requires c).After-front_below-overdue) (sound (goal.at.append_prefix-requires c).After-front_below-overdue).least (b (goal.at.append_prefix-requires c).After-front_below-overdue) (sound (goal.at.append_prefix-requires c).After-front_below-overdue).sound (limits (goal.at.append_prefix-requires c).After-front_below-overdue) (clean (goal.at.append_prefix-requires c).After-front_below-overdue) c.requires.sound_by.1.0 in record { spans = spans (goal.at.append_prefix-requires c).After-front_below-overdue; spans_2 = begun-spans (s (goal.at.append_prefix-requires c).After-front_below-overdue).epsilon c.args.delivery.now _ (long (goal.at.append_prefix-requires c).After-front_below-overdue) c.put_u16.ensures; at_in_bounds = (omega (arith, place, c.requires.end_value.1, c.put_u16.auto.buf), omega (arith, (front (goal.at.append_prefix-requires c).After-front_below-overdue).number, small.0)) }

pub returns-then-overdue-eq0 : goal.returns-then-overdue-eq0
returns-then-overdue-eq0 c =
    released-none (sound (goal.at.returns-then-overdue-eq0 c).After-front_below-overdue) (limits (goal.at.returns-then-overdue-eq0 c).After-front_below-overdue) (clean (goal.at.returns-then-overdue-eq0 c).After-front_below-overdue) c.requires.sound_by.1.0 (front (goal.at.returns-then-overdue-eq0 c).After-front_below-overdue) c.if-overdue-eq0.true c.requires.seen_value.0 c.requires.seen_value.1
    (begun-given (s (goal.at.returns-then-overdue-eq0 c).After-front_below-overdue).epsilon c.args.delivery.now _ (long (goal.at.returns-then-overdue-eq0 c).After-front_below-overdue) c.put_u16.ensures (overdue_frames (s (goal.at.returns-then-overdue-eq0 c).After-front_below-overdue) (v (goal.at.returns-then-overdue-eq0 c).After-front_below-overdue) (b (goal.at.returns-then-overdue-eq0 c).After-front_below-overdue)) _ (first (goal.at.returns-then-overdue-eq0 c).After-front_below-overdue) c.append_prefix.ensures)

pub cut_overdue-requires : goal.cut_overdue-requires
cut_overdue-requires c = record { setup_value = c.requires.setup_value; sound_by = c.requires.sound_by; end_value = (c.requires.end_value.0, front (goal.at.cut_overdue-requires c).After-front_below-overdue); seen_value = c.requires.seen_value }

pub returns : goal.returns
returns c =
    released-some (sound (goal.at.returns c).After-front_below-overdue) (limits (goal.at.returns c).After-front_below-overdue) (clean (goal.at.returns c).After-front_below-overdue) c.requires.sound_by.1.0 (front (goal.at.returns c).After-front_below-overdue) c.cut_overdue.ensures
    (begun-given (s (goal.at.returns c).After-front_below-overdue).epsilon c.args.delivery.now _ (long (goal.at.returns c).After-front_below-overdue) c.put_u16.ensures (overdue_frames (s (goal.at.returns c).After-front_below-overdue) (v (goal.at.returns c).After-front_below-overdue) (b (goal.at.returns c).After-front_below-overdue)) _ (first (goal.at.returns c).After-front_below-overdue) c.append_prefix.ensures)
