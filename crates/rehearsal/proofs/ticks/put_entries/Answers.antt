-- `rehearsal::ticks::put_entries` meets its contract. The invariant of its loop: the entries from the next frame on are still to be written. Assumes nothing.
use Prim.Native.Nat.{◌+◌, ◌<◌}
use native.Mathlib.Omega.{arith}
use Rattle.laws.specs.Lists.{joined}
use Rattle.text.specs.Text.{Put}
use Rattle.text.proofs.Putting.{ahead, ahead-as, ahead-first, ahead-next, put-nothing, put-length}
use Rattle.rehearsal.specs.Step.{heard_count, frame_by, heard_frames}
use Rattle.rehearsal.specs.Views.{sent_of, entry_of}
use Rattle.rehearsal.proofs.Entries.{entries_from, entries-turn, entries-all, entries-end, hears-each}
use Rattle.rehearsal.proofs.ticks.put_entries.Goals.{After-loop-i}
use Rattle.rehearsal.proofs.ticks.put_entries.Goals as goal

-- nothing is left
all-put : (c : After-loop-i)
    → Put c.args.out.now c.args.at (joined entry_of (heard_frames (sent_of c.args.steps c.args.slots.now) c.args.s.now)) c.loop-i.out c.loop-i.end
all-put c =
    let args = c.args in
    let none = entries-end (sent_of args.steps args.slots.now) args.s.now c.loop-i.i (omega (arith, c.heard_count-count.ensures.0)) in
    (ahead-as none c.loop-i.invariant.0).done (put-nothing c.loop-i.out c.loop-i.end)

pub loop-i-init : goal.loop-i-init
loop-i-init c =
    let sent = sent_of c.args.steps c.args.slots.now in
    let bytes = c.args.s.now in
    (ahead-as (entries-all sent bytes) (ahead c.args.out.now c.args.at (joined entry_of (heard_frames sent bytes)) c.requires.s_in_bounds), omega arith)

pub put_entry-end-requires : goal.put_entry-end-requires
put_entry-end-requires c =
    let sent = sent_of c.args.steps c.args.slots.now in
    let bytes = c.args.s.now in
    let more : c.loop-i.i < heard_count bytes = omega (arith, c.heard_count-count.ensures.0, c.loop-i-test.true) in record { kept = (c.requires.kept.0, hears-each sent bytes c.requires.kept.1 c.loop-i.i c.heard_number.result more c.heard_number.ensures.0); number_in_bounds = ahead-first (entry_of (frame_by sent c.heard_number.result)) (entries_from sent bytes (c.loop-i.i + 1)) (ahead-as (entries-turn sent bytes c.loop-i.i c.heard_number.result more c.heard_number.ensures.0) c.loop-i.invariant.0) }

pub loop-i-preserved : goal.loop-i-preserved
loop-i-preserved c =
    let sent = sent_of c.args.steps c.args.slots.now in
    let bytes = c.args.s.now in
    let more : c.loop-i.i < heard_count bytes = omega (arith, c.heard_count-count.ensures.0, c.loop-i-test.true) in (
      ahead-next (entry_of (frame_by sent c.heard_number.result)) (entries_from sent bytes (c.loop-i.i + 1)) (ahead-as (entries-turn sent bytes c.loop-i.i c.heard_number.result more c.heard_number.ensures.0) c.loop-i.invariant.0) c.put_entry-end.ensures,
      omega arith,
    )

pub shape_of-out : goal.shape_of-out
shape_of-out c = put-length c.requires.s_in_bounds (all-put (goal.at.shape_of-out c).After-loop-i)

pub returns : goal.returns
returns c = all-put (goal.at.returns c).After-loop-i
