-- `widerpolling::front::next_due` meets its contract: the frame at the front is the first of a search. Assumes nothing.
use Prim.Native.Nat.{ℕ, ◌<◌}
use native.Mathlib.Omega.{arith}
use mathlib.Core.Path.{◌∙◌, sym, ap}
use mathlib.Core.Bool.{true}
use mathlib.Core.List.{List}
use mathlib.Core.Option.{some}
use Rattle.model.specs.Setup.{Setup}
use Rattle.model.specs.Order.{reading_clock}
use Rattle.model.specs.Wider.{wider_decode, wider_end, wider_passes, wider_due}
use Rattle.setup.specs.Views.{setup_of}
use Rattle.pairs.specs.Views.{schedule_of}
use Rattle.lemmas.proofs.FrameWalk.{Seeking, seek-starts, seek-next, seek-passes}
use Rattle.widerqueue.proofs.Shared.{own-in-limits, own_below}
use Rattle.widerqueue.proofs.Queues.{sound-stand}
use Rattle.widerqueue.proofs.Releasing.{part-is}
use Rattle.widerpolling.proofs.Asking.{next-empty, next-front}
use Rattle.widerpolling.proofs.front.next_due.Goals.{Else-count-eq0, Start}
use Rattle.widerpolling.proofs.front.next_due.Goals as goal

-- a search that has not begun
led : (c : Start) → Seeking (wider_end (schedule_of c.args.p)) (wider_decode (schedule_of c.args.p)) (wider_passes (schedule_of c.args.p)) (λ _. true) c.args.buf.now 2 c.args.count 0 2
led c = seek-starts (sound-stand (schedule_of c.args.p) c.args.clock c.requires.sound_by.0.least c.args.buf.now c.requires.sound_by.0.sound c.requires.sound_by.1.0 c.requires.sound_by.1.1)

-- there is a frame
more : (c : Else-count-eq0) → 0 < c.args.count
more c = omega (arith, c.if-count-eq0.false)

pub returns-then-count-eq0 : goal.returns-then-count-eq0
returns-then-count-eq0 c = next-empty (schedule_of c.args.p) c.requires.paired.0 c.args.clock c.requires.sound_by.0.least c.args.buf.now c.requires.sound_by.0.sound (sym c.requires.sound_by.1.1 ∙ c.if-count-eq0.true)

pub frame_end-end-requires : goal.frame_end-end-requires
frame_end-end-requires c = c.requires.paired.0

pub overflow_add-end : goal.overflow_add-end
overflow_add-end c = omega (arith, seek-next (led (goal.at.overflow_add-end c).Start) (more (goal.at.overflow_add-end c).Else-count-eq0) c.frame_end-end.ensures)

pub slice_bounds-due_of-end : goal.slice_bounds-due_of-end
slice_bounds-due_of-end c = omega (arith, seek-next (led (goal.at.slice_bounds-due_of-end c).Start) (more (goal.at.slice_bounds-due_of-end c).Else-count-eq0) c.frame_end-end.ensures)

pub due_of-due-requires : goal.due_of-due-requires
due_of-due-requires c = record { paired = c.requires.paired; frame_value = seek-passes (led (goal.at.due_of-due-requires c).Start) (more (goal.at.due_of-due-requires c).Else-count-eq0) c.frame_end-end.ensures }

pub reading_clock-requires : goal.reading_clock-requires
reading_clock-requires c =
    let g = schedule_of c.args.p in
    let s = setup_of c.own_limits.result in
    (own-in-limits g s c.own_limits.ensures c.requires.paired.0, (own_below g s c.own_limits.ensures c.requires.paired.0 c.requires.paired.1, omega (arith, c.due_of-due.ensures.1)))

pub returns : goal.returns
returns c =
    let g = schedule_of c.args.p in
    let b = c.args.buf.now in
    ap some (c.reading_clock.ensures ∙ ap (λ (u : Setup). reading_clock u c.args.clock c.due_of-due.result) c.own_limits.ensures)
    ∙ next-front g c.requires.paired.0 c.args.clock c.requires.sound_by.0.least b c.requires.sound_by.0.sound (λ e. c.if-count-eq0.false (c.requires.sound_by.1.1 ∙ e))
    (c.due_of-due.ensures.0 ∙ ap (λ (l : List ℕ). wider_due g c.args.clock (wider_decode g l)) (part-is (wider_end g) b 2 c.frame_end-end.result c.frame_end-end.ensures))
