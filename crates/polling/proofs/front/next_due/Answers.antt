-- `polling::front::next_due` meets its contract: the frame at the front is the first of a search. Assumes nothing.
use Prim.Native.Nat.{◌<◌}
use native.Mathlib.Omega.{arith}
use mathlib.Core.Path.{◌∙◌, sym, ap}
use mathlib.Core.Bool.{true}
use mathlib.Core.Option.{some}
use Rattle.lemmas.proofs.Questions.{limits-from}
use Rattle.model.specs.Frame.{decode, frame_end}
use Rattle.model.specs.Holdback.{passes}
use Rattle.model.specs.Order.{due_near}
use Rattle.model.specs.Poll.{next_due}
use Rattle.setup.specs.Views.{setup_of}
use Rattle.lemmas.proofs.FrameWalk.{Seeking, seek-starts, seek-next, seek-passes}
use Rattle.holdback.proofs.Searching.{sound-stand, seek-frame}
use Rattle.polling.proofs.Fronts.{next-none, held_none, next-front, some-frame}
use Rattle.polling.proofs.front.next_due.Goals.{Else-count-eq0, Start}
use Rattle.polling.proofs.front.next_due.Goals as goal

-- a search that has not begun
led : (c : Start) → Seeking (frame_end c.args.setup.epsilon) (decode c.args.setup.epsilon) (passes (setup_of c.args.setup)) (λ _. true) c.args.buf.now 2 c.args.count 0 2
led c = seek-starts (sound-stand (setup_of c.args.setup) c.args.clock c.args.setup.modulus c.args.buf.now c.requires.buf_value.0 c.requires.buf_value.1.0 c.requires.buf_value.1.1)

-- there is a frame
more : (c : Else-count-eq0) → 0 < c.args.count
more c = some-frame c.args.count c.if-count-eq0.false

pub returns-then-count-eq0 : goal.returns-then-count-eq0
returns-then-count-eq0 c =
    sym (ap (next_due (setup_of c.args.setup) c.args.clock) (held_none (setup_of c.args.setup) c.args.clock c.args.buf.now (sym c.requires.buf_value.1.1 ∙ c.if-count-eq0.true))
    ∙ next-none (setup_of c.args.setup) c.args.clock)

pub frame_end-end-requires : goal.frame_end-end-requires
frame_end-end-requires c = (limits-from (setup_of c.args.setup) c.requires.setup_value.0).epsilon-most

pub overflow_add-end : goal.overflow_add-end
overflow_add-end c = omega (arith, seek-next (led (goal.at.overflow_add-end c).Start) (more (goal.at.overflow_add-end c).Else-count-eq0) c.frame_end-end.ensures)

pub slice_bounds-due_of-end : goal.slice_bounds-due_of-end
slice_bounds-due_of-end c = omega (arith, seek-next (led (goal.at.slice_bounds-due_of-end c).Start) (more (goal.at.slice_bounds-due_of-end c).Else-count-eq0) c.frame_end-end.ensures)

pub due_of-due-requires : goal.due_of-due-requires
due_of-due-requires c = record { setup_value = c.requires.setup_value; frame_value = seek-passes (led (goal.at.due_of-due-requires c).Start) (more (goal.at.due_of-due-requires c).Else-count-eq0) c.frame_end-end.ensures }

pub returns : goal.returns
returns c =
    let s = setup_of c.args.setup in
    let front = seek-frame s (led (goal.at.returns c).Start) c.frame_end-end.ensures in
    ap some c.reading_clock.ensures
    ∙ next-front s c.args.clock c.args.buf.now s.modulus c.requires.buf_value.0 (λ e. c.if-count-eq0.false (c.requires.buf_value.1.1 ∙ e))
    (c.due_of-due.ensures.0 ∙ ap (due_near s c.args.clock) front)
