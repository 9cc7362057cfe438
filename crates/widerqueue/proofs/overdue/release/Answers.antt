-- `widerqueue::overdue::release` meets its contract: the front is written to the delivery, and leaves with its marks. Assumes nothing.
use Prim.Native.Nat.{ℕ, ◌≤◌}
use native.Mathlib.Omega.{arith}
use mathlib.Core.List.{List, []}
use lib.ListN.{length, take}
use Rattle.laws.specs.Lists.{leading}
use Rattle.model.specs.Schedule.{Schedule, modulus_of}
use Rattle.model.specs.Wider.{wider_held}
use Rattle.pairs.specs.Views.{schedule_of}
use Rattle.holdback.specs.Queue.{Written}
use Rattle.holdback.proofs.RoundTrip.{Bytes}
use Rattle.holdback.proofs.Changes.{written_in}
use Rattle.widerqueue.specs.Queue.{Spans, Stands}
use Rattle.widerqueue.specs.Overdue.{SoundBy, overdue_frames}
use Rattle.widerqueue.proofs.Forms.{spans-written}
use Rattle.widerqueue.proofs.Queues.{count_small, place-spans}
use Rattle.widerqueue.proofs.Fronts.{due_under}
use Rattle.widerqueue.proofs.Releasing.{overdue-first, released, begun-written, begun-given}
use Rattle.widerqueue.proofs.overdue.release.Goals.{After-front_before-overdue}
use Rattle.widerqueue.proofs.overdue.release.Goals as goal

pub front_before-overdue-requires : goal.front_before-overdue-requires
front_before-overdue-requires c = record { paired = c.requires.paired; sound_by = (c.requires.sound_by.0, (c.requires.sound_by.1.0, c.requires.sound_by.1.1.count-is)) }

-- the queue as it comes, and its front
module _ (c : After-front_before-overdue) where
  abbrev g : Schedule
  g = schedule_of c.args.p

  abbrev v : ℕ
  v = c.args.clock

  abbrev b : List ℕ
  b = c.args.buf.now

  abbrev d : List ℕ
  d = c.args.delivery.now

  abbrev sound : SoundBy g v b
  sound = c.requires.sound_by.0

  stands : Stands g b (leading (due_under g v (modulus_of g)) (wider_held g b)) c.front_before-overdue.result.index c.front_before-overdue.result.at
  stands = c.front_before-overdue.ensures

  clean : Bytes b
  clean i = omega (arith, c.slice_known-1.given i)

  spans : Spans g b c.args.count c.args.end c.front_before-overdue.result.index c.front_before-overdue.result.at
  spans = place-spans g v sound.least b sound.sound (due_under g v (modulus_of g)) c.requires.sound_by.1.0 c.requires.sound_by.1.1 stands

  written : Written (wider_held g b) b c.args.count c.args.end c.front_before-overdue.result.index c.front_before-overdue.result.at
  written = spans-written spans clean

  long : 2 ≤ length d
  long = omega (arith, c.requires.sound_by.1.0, c.requires.seen_value.1)

  few : c.args.count ≤ 1792
  few = omega (arith, count_small g v sound.least b sound.sound c.requires.paired.0, c.requires.sound_by.1.1.count-is)

pub put_u16-requires : goal.put_u16-requires
put_u16-requires c = (omega (arith, long (goal.at.put_u16-requires c).After-front_before-overdue), omega arith)

pub append_frames-requires : goal.append_frames-requires
append_frames-requires c = let place = written_in (written (goal.at.append_frames-requires c).After-front_before-overdue) in record { le_at = (omega arith, (omega arith, omega arith)); at_in_bounds = (omega (arith, place, c.requires.seen_value.1, c.put_u16.auto.buf), omega (arith, (spans (goal.at.append_frames-requires c).After-front_before-overdue).inside, few (goal.at.append_frames-requires c).After-front_before-overdue)) }

pub unmark-requires : goal.unmark-requires
unmark-requires c = record { paired = c.requires.paired; sound_by = (sound (goal.at.unmark-requires c).After-front_before-overdue, (c.requires.sound_by.1.0, omega (arith, (spans (goal.at.unmark-requires c).After-front_before-overdue).inside, c.requires.sound_by.1.1.count-is))); seen_value = c.requires.seen_value.0 }

pub drop_frames-requires : goal.drop_frames-requires
drop_frames-requires c =
    let place = written_in (written (goal.at.drop_frames-requires c).After-front_before-overdue) in
    record { le_at = (omega arith, (omega arith, omega arith)); index_le_count = ((spans (goal.at.drop_frames-requires c).After-front_before-overdue).inside, omega (arith, few (goal.at.drop_frames-requires c).After-front_before-overdue)) }

pub returns : goal.returns
returns c =
    let all = wider_held (g (goal.at.returns c).After-front_before-overdue) (b (goal.at.returns c).After-front_before-overdue) in
    released c.requires.paired.0 (sound (goal.at.returns c).After-front_before-overdue) (clean (goal.at.returns c).After-front_before-overdue) c.requires.sound_by.1.1 (stands (goal.at.returns c).After-front_before-overdue) (c.drop_frames.ensures all (written (goal.at.returns c).After-front_before-overdue)) (d (goal.at.returns c).After-front_before-overdue) c.unmark.ensures
    (begun-given (d (goal.at.returns c).After-front_before-overdue) _ (long (goal.at.returns c).After-front_before-overdue) c.put_u16.ensures (overdue_frames (g (goal.at.returns c).After-front_before-overdue) (v (goal.at.returns c).After-front_before-overdue) (b (goal.at.returns c).After-front_before-overdue)) (take c.front_before-overdue.result.index all)
    (overdue-first c.requires.paired.0 (sound (goal.at.returns c).After-front_before-overdue) (clean (goal.at.returns c).After-front_before-overdue) c.requires.sound_by.1.1 (stands (goal.at.returns c).After-front_before-overdue))
    (c.append_frames.ensures all [] c.args.count c.args.end (written (goal.at.returns c).After-front_before-overdue) (begun-written (d (goal.at.returns c).After-front_before-overdue) _ (long (goal.at.returns c).After-front_before-overdue) c.put_u16.ensures)))
