-- `rehearsal::ticks::put_tick` meets its contract. Assumes nothing.
use mathlib.Core.Path.{◌≡◌, sym, ap, ◌∙◌}
use mathlib.Core.List.{List, ◌++◌}
use Prim.Native.Nat.{ℕ, ◌≤◌}
use native.Mathlib.Omega.{arith}
use lib.ListN.{length}
use Rattle.laws.specs.Lists.{joined}
use Rattle.splice.specs.Bytes.{part}
use Rattle.text.proofs.Putting.{Ahead, ahead, ahead-as, ahead-first, ahead-next}
use Rattle.rehearsal.specs.Step.{heard_at, heard_frames, tick_with}
use Rattle.rehearsal.specs.Views.{sent_of, entry_of}
use Rattle.rehearsal.proofs.Entries.{frame-most, tick-parts, tick-most}
use Rattle.rehearsal.proofs.ticks.put_tick.Goals.{After-part}
use Rattle.rehearsal.proofs.ticks.put_tick.Goals as goal

-- there is room
fits : (c : After-part) → length (tick_with (sent_of c.args.steps c.args.slots.now) c.args.s.now) ≤ 18620
fits c =
    tick-most (sent_of c.args.steps c.args.slots.now) c.args.s.now c.requires.kept.1 (frame-most c.requires.kept.0)
    (λ i. omega (arith, c.shared_slice_known-1.given i))

-- the step's own bytes come first
begun : (c : After-part)
    → Ahead c.args.out.now 0 (tick_with (sent_of c.args.steps c.args.slots.now) c.args.s.now)
    c.args.out.now 0
    (c.part.result.now ++ joined entry_of (heard_frames (sent_of c.args.steps c.args.slots.now) c.args.s.now))
begun c =
    let sent = sent_of c.args.steps c.args.slots.now in
    let bytes = c.args.s.now in
    let own : c.part.result.now ≡ part bytes 1 (heard_at bytes) = c.part.ensures ∙ ap (part bytes 1) c.heard_at.ensures.0 in
    ahead-as (tick-parts sent bytes c.requires.kept.1 ∙ ap (λ (l : List ℕ). l ++ joined entry_of (heard_frames sent bytes)) (sym own))
    (ahead c.args.out.now 0 (tick_with sent bytes) (omega (arith, fits c, c.requires.longest_turn_in_bounds)))

pub put_word-end-requires : goal.put_word-end-requires
put_word-end-requires c =
    let args = c.args in
    ahead-first c.part.result.now (joined entry_of (heard_frames (sent_of args.steps args.slots.now) args.s.now)) (begun (goal.at.put_word-end-requires c).After-part)

pub put_entries-requires : goal.put_entries-requires
put_entries-requires c =
    let rest = joined entry_of (heard_frames (sent_of c.args.steps c.args.slots.now) c.args.s.now) in
    record { kept = c.requires.kept; s_in_bounds = (ahead-next c.part.result.now rest (begun (goal.at.put_entries-requires c).After-part) c.put_word-end.ensures).room }

pub returns : goal.returns
returns c =
    let rest = joined entry_of (heard_frames (sent_of c.args.steps c.args.slots.now) c.args.s.now) in
    let put = (ahead-next c.part.result.now rest (begun (goal.at.returns c).After-part) c.put_word-end.ensures).done c.put_entries.ensures in
    (put, omega (arith, put.ends, fits (goal.at.returns c).After-part))
