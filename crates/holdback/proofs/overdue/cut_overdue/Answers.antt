-- `holdback::overdue::cut_overdue` meets its contract: the marks go, the entries fall, and the front is cut off. Assumes nothing.
use Rattle.std.proofs.Common.{◌≡◌, ℕ, ◌+◌, ◌-◌, ◌*◌, ◌<◌, ◌≤◌, List, length, drop, refl, ap, ◌∙◌, ap₂, arith}
use Rattle.laws.specs.Lists.{overlay}
use Rattle.model.specs.Setup.{Setup}
use Rattle.model.specs.Frame.{Frame, two_at}
use Rattle.model.specs.Holdback.{held, encode_frames}
use Rattle.setup.specs.Views.{setup_of}
use Rattle.lemmas.proofs.Bounds.{Limits}
use Rattle.lemmas.proofs.Questions.{limits-from}
use Rattle.holdback.specs.Queue.{frame_start, Spans}
use Rattle.holdback.specs.Seen.{seen_table}
use Rattle.holdback.specs.Starts.{start_unit, lowered_starts}
use Rattle.holdback.specs.Overdue.{SoundBy, OverdueFront, overdue_frames, other_frames, released_buffer}
use Rattle.holdback.proofs.RoundTrip.{Bytes}
use Rattle.holdback.proofs.Changes.{located}
use Rattle.holdback.proofs.Cut.{count_small}
use Rattle.holdback.proofs.Started.{used-most, starts-long, starts-at}
use Rattle.holdback.proofs.Releasing.{index_in, overdue-others, overdue-small, overdue-spans, start-lowered, starts-left}
use Rattle.holdback.proofs.overdue.cut_overdue.Goals.{After-slice_known-1}
use Rattle.holdback.proofs.overdue.cut_overdue.Goals as goal

-- the queue as it comes, and its front
module _ (c : After-slice_known-1) where
  abbrev s : Setup
  s = setup_of c.args.setup

  abbrev v : ℕ
  v = c.args.clock

  abbrev b : List ℕ
  b = c.args.buf.now

  abbrev sound : SoundBy s v b
  sound = c.requires.sound_by.0

  abbrev front : OverdueFront s v b c.args.overdue.index c.args.overdue.at
  front = c.requires.end_value.1

  limits : Limits s
  limits = limits-from s c.requires.setup_value.0

  clean : Bytes b
  clean i = omega (arith, c.slice_known-1.given i)

  inside : c.args.overdue.index ≤ two_at b 0
  inside = omega (arith, front.number, index_in s v sound.least b sound.sound limits clean c.requires.sound_by.1.0)

  at-is : c.args.overdue.at ≡ frame_start s.epsilon b (length (overdue_frames s v b))
  at-is = front.starts ∙ ap (frame_start s.epsilon b) front.number

  spans : Spans s.epsilon b c.args.count c.args.end c.args.overdue.index c.args.overdue.at
  spans =
      overdue-spans s v sound.least b sound.sound limits clean c.requires.sound_by.1.0 c.requires.sound_by.1.1 c.requires.end_value.0 front

  small : (c.args.overdue.index ≤ 1792) × ((2 ≤ c.args.overdue.at) × (c.args.overdue.at < start_unit))
  small =
      let few = overdue-small s v sound.least b sound.sound limits clean c.requires.sound_by.1.0 in
      let low = located spans clean in
      (omega (arith, front.number, few.0), (low.0, omega (arith, at-is, few.1)))

  step_is : c.args.overdue.index * start_unit + (c.args.overdue.at - 2) ≡ length (overdue_frames s v b) * start_unit + (frame_start s.epsilon b (length (overdue_frames s v b)) - 2)
  step_is = ap₂ (λ (i at : ℕ). i * start_unit + (at - 2)) front.number at-is

pub unmark-requires : goal.unmark-requires
unmark-requires c = record { setup_value = c.requires.setup_value; sound_by = (sound (goal.at.unmark-requires c).After-slice_known-1, (c.requires.sound_by.1.0, inside (goal.at.unmark-requires c).After-slice_known-1)); seen_value = c.requires.seen_value.0 }

pub used_entries-to-requires : goal.used_entries-to-requires
used_entries-to-requires c = c.requires.setup_value.0

pub overflow_mul-amount : goal.overflow_mul-amount
overflow_mul-amount c = omega (arith, small (goal.at.overflow_mul-amount c).After-slice_known-1)

pub overflow_sub-amount : goal.overflow_sub-amount
overflow_sub-amount c = omega (arith, small (goal.at.overflow_sub-amount c).After-slice_known-1)

pub overflow_add-amount : goal.overflow_add-amount
overflow_add-amount c = omega (arith, small (goal.at.overflow_add-amount c).After-slice_known-1)

pub overflow_cast-amount : goal.overflow_cast-amount
overflow_cast-amount c = omega (arith, small (goal.at.overflow_cast-amount c).After-slice_known-1)

pub lower_starts-requires : goal.lower_starts-requires
lower_starts-requires c =
    let tabled = c.requires.seen_value.1 in
    let used = c.used_entries-to.ensures in record {
      starts_len = (starts-long (s (goal.at.lower_starts-requires c).After-slice_known-1) (v (goal.at.lower_starts-requires c).After-slice_known-1) (b (goal.at.lower_starts-requires c).After-slice_known-1) tabled, omega (arith, used, used-most (s (goal.at.lower_starts-requires c).After-slice_known-1) (limits (goal.at.lower_starts-requires c).After-slice_known-1)));
      by_index = λ k h.
          omega (
            arith,
            step_is (goal.at.lower_starts-requires c).After-slice_known-1,
            starts-at (s (goal.at.lower_starts-requires c).After-slice_known-1) (v (goal.at.lower_starts-requires c).After-slice_known-1) (b (goal.at.lower_starts-requires c).After-slice_known-1) (limits (goal.at.lower_starts-requires c).After-slice_known-1) tabled k (omega (arith, used)),
            start-lowered (s (goal.at.lower_starts-requires c).After-slice_known-1) (v (goal.at.lower_starts-requires c).After-slice_known-1) (sound (goal.at.lower_starts-requires c).After-slice_known-1).least (b (goal.at.lower_starts-requires c).After-slice_known-1) (sound (goal.at.lower_starts-requires c).After-slice_known-1).sound (limits (goal.at.lower_starts-requires c).After-slice_known-1) (clean (goal.at.lower_starts-requires c).After-slice_known-1) c.requires.sound_by.1.0 (released_buffer (s (goal.at.lower_starts-requires c).After-slice_known-1) (v (goal.at.lower_starts-requires c).After-slice_known-1) (b (goal.at.lower_starts-requires c).After-slice_known-1)) refl k,
          );
    }

pub cut_front-requires : goal.cut_front-requires
cut_front-requires c = record { spans = spans (goal.at.cut_front-requires c).After-slice_known-1; count_bound = omega (arith, count_small (s (goal.at.cut_front-requires c).After-slice_known-1) (v (goal.at.cut_front-requires c).After-slice_known-1) (sound (goal.at.cut_front-requires c).After-slice_known-1).least (b (goal.at.cut_front-requires c).After-slice_known-1) (sound (goal.at.cut_front-requires c).After-slice_known-1).sound c.args.count (limits (goal.at.cut_front-requires c).After-slice_known-1) c.requires.sound_by.1.1) }

pub returns : goal.returns
returns c =
    let rest : drop c.args.overdue.index (held (s (goal.at.returns c).After-slice_known-1).epsilon (b (goal.at.returns c).After-slice_known-1)) ≡ other_frames (s (goal.at.returns c).After-slice_known-1) (v (goal.at.returns c).After-slice_known-1) (b (goal.at.returns c).After-slice_known-1) =
    ap (λ (n : ℕ). drop n (held (s (goal.at.returns c).After-slice_known-1).epsilon (b (goal.at.returns c).After-slice_known-1))) (front (goal.at.returns c).After-slice_known-1).number ∙ overdue-others (s (goal.at.returns c).After-slice_known-1) (v (goal.at.returns c).After-slice_known-1) (sound (goal.at.returns c).After-slice_known-1).least (b (goal.at.returns c).After-slice_known-1) (sound (goal.at.returns c).After-slice_known-1).sound in
    let cut = c.cut_front.ensures ∙ ap (λ (l : List Frame). overlay (encode_frames l) (b (goal.at.returns c).After-slice_known-1)) rest in
    record {
      queue-is = cut;
      table_is = c.unmark.ensures ∙ ap (seen_table (s (goal.at.returns c).After-slice_known-1) (v (goal.at.returns c).After-slice_known-1)) rest;
      starts_is =
          starts-left (s (goal.at.returns c).After-slice_known-1) (v (goal.at.returns c).After-slice_known-1) (sound (goal.at.returns c).After-slice_known-1).least (b (goal.at.returns c).After-slice_known-1) (sound (goal.at.returns c).After-slice_known-1).sound (limits (goal.at.returns c).After-slice_known-1) (clean (goal.at.returns c).After-slice_known-1) c.requires.sound_by.1.0 _ cut c.requires.seen_value.1
          (c.lower_starts.ensures ∙ ap₂ (λ (to n : ℕ). lowered_starts to n c.args.starts.now) c.used_entries-to.ensures (step_is (goal.at.returns c).After-slice_known-1));
    }
