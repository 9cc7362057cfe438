-- `rehearsal::step::call_step` meets its contract. Assumes nothing.
use Prim.Native.Nat.{ℕ, ◌≤◌, ◌<◌}
use mathlib.Core.Path.{◌≡◌, sym, ap, ◌∙◌, subst}
use native.Mathlib.Omega.{arith}
use lib.ListN.{length, take}
use lib.Seq.{length-take-le}
use borrow.Author.Rules.{rules}
use Rattle.text.specs.Text.{Put}
use Rattle.setup.specs.Views.{setup_of}
use Rattle.rehearsal.specs.Step.{station_of}
use Rattle.rehearsal.specs.Group.{labelled}
use Rattle.rehearsal.specs.Standing.{moved_by}
use Rattle.rehearsal.proofs.OneStep.{place, lines-within, sent-within, number-known, stands, outcome-is, left_is}
use Rattle.rehearsal.proofs.step.call_step.Goals.{After-play_step-played, After-station_of-at}
use Rattle.rehearsal.proofs.step.call_step.Goals as goal

pub play_step-played-requires : goal.play_step-played-requires
play_step-played-requires c = record { called = c.requires.called; text_room_in_bounds = omega arith }

-- its lines stand in their buffer
within : (c : After-play_step-played) → c.play_step-played.result.size ≤ length c.play_step-played.new.lines
within c =
    let a = c.args in
    lines-within (setup_of a.setup) a.group a.holdbacks.now a.slots.now a.bytes.now c.requires.called c.play_step-played.result c.play_step-played.new.holdbacks _ _ c.play_step-played.ensures.lines_after

-- its frame has a slot
long : (c : After-play_step-played) → length c.play_step-played.result.outgoing ≡ 71
long c = search (rules, c.play_step-played.type_inv)

in_buffer : (c : After-play_step-played) → c.play_step-played.result.sent ≤ length c.play_step-played.result.outgoing
in_buffer c =
    let a = c.args in
    sent-within (setup_of a.setup) a.group a.holdbacks.now a.slots.now a.bytes.now c.requires.called c.play_step-played.result c.play_step-played.new.holdbacks _ _ c.play_step-played.ensures.lines_after

-- its station has a place in the list
place_here : (c : After-station_of-at) → c.station_of-at.result < 16
place_here c = omega (arith, c.station_of-at.ensures.0, place _ _ _ _ _ c.requires.called)

pub slice_bounds-lines-end : goal.slice_bounds-lines-end
slice_bounds-lines-end c = within (goal.at.slice_bounds-lines-end c).After-play_step-played

pub slice_bounds-put_labelled-end : goal.slice_bounds-put_labelled-end
slice_bounds-put_labelled-end c = sym (length-take-le _ _ (within (goal.at.slice_bounds-put_labelled-end c).After-play_step-played))

pub put_labelled-size-requires : goal.put_labelled-size-requires
put_labelled-size-requires c = (
  omega (arith, place_here (goal.at.put_labelled-size-requires c).After-station_of-at),
  omega (
    arith,
    length-take-le c.play_step-played.result.size c.play_step-played.new.lines (within (goal.at.put_labelled-size-requires c).After-play_step-played),
    within (goal.at.put_labelled-size-requires c).After-play_step-played,
    c.play_step-played.auto.lines,
    c.requires.text_room_in_bounds,
  ),
)

pub slice_bounds-keep_frame-end : goal.slice_bounds-keep_frame-end
slice_bounds-keep_frame-end c = sym (long (goal.at.slice_bounds-keep_frame-end c).After-play_step-played)

pub keep_frame-requires : goal.keep_frame-requires
keep_frame-requires c = (c.requires.called.standing.kept, (c.requires.called.most, (omega (arith, in_buffer (goal.at.keep_frame-requires c).After-play_step-played, long (goal.at.keep_frame-requires c).After-play_step-played), in_buffer (goal.at.keep_frame-requires c).After-play_step-played)))

pub moved-requires : goal.moved-requires
moved-requires c = (place_here (goal.at.moved-requires c).After-station_of-at, c.requires.called.most)

pub returns : goal.returns
returns c =
    let a = c.args in
    let s = setup_of a.setup in
    let moves : c.moved.result ≡ moved_by a.group (station_of a.bytes.now) c.play_step-played.result.station
    = c.moved.ensures ∙ ap (λ (j : ℕ). moved_by a.group j c.play_step-played.result.station) c.station_of-at.ensures.0 in
    let fits : c.play_step-played.result.sent ≤ 71 = omega (arith, in_buffer (goal.at.returns c).After-play_step-played, long (goal.at.returns c).After-play_step-played) in
    let labels = subst (λ (j : ℕ). Put a.text.now 0 (labelled j (take c.play_step-played.result.size c.play_step-played.new.lines)) c.put_labelled-size.new.out c.put_labelled-size.result) c.station_of-at.ensures.0 c.put_labelled-size.ensures in record {
      text_after = left_is s a.group a.holdbacks.now a.slots.now a.bytes.now c.requires.called c.play_step-played.result c.play_step-played.new.holdbacks _ c.play_step-played.new.lines c.play_step-played.ensures.lines_after
          c.play_step-played.ensures.ticks_value c.play_step-played.ensures.holdbacks_after c.play_step-played.auto.holdbacks fits c.keep_frame.ensures moves c.heard_count.ensures.0 labels;
      text_after_2 = outcome-is s a.group a.holdbacks.now a.slots.now a.bytes.now c.requires.called c.play_step-played.result c.play_step-played.new.holdbacks _ c.play_step-played.new.lines c.play_step-played.ensures.lines_after
          c.play_step-played.ensures.ticks_value c.play_step-played.ensures.holdbacks_after c.play_step-played.auto.holdbacks fits c.keep_frame.ensures moves c.heard_count.ensures.0 labels;
      standing = stands s a.group a.holdbacks.now a.slots.now a.bytes.now c.requires.called c.play_step-played.result c.play_step-played.new.holdbacks _ c.play_step-played.new.lines c.play_step-played.ensures.lines_after
          c.play_step-played.ensures.ticks_value c.play_step-played.ensures.holdbacks_after c.play_step-played.auto.holdbacks fits c.keep_frame.ensures moves;
      heard_bound = c.heard_count.ensures.1;
      number_value = number-known s a.group a.holdbacks.now a.slots.now a.bytes.now c.requires.called c.play_step-played.result c.play_step-played.new.holdbacks _ c.play_step-played.new.lines c.play_step-played.ensures.lines_after;
    }
