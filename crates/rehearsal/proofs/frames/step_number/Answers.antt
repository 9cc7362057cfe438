-- `rehearsal::frames::step_number` meets its contract. Assumes nothing.
use mathlib.Core.Path.{sym, ◌∙◌}
use borrow.Author.Tests.{not-true, not-false}
use Rattle.rehearsal.specs.Views.{sent_of}
use Rattle.rehearsal.proofs.Slots.{step_cut, step-foreign, step-deaf, step-good}
use Rattle.rehearsal.proofs.frames.step_number.Goals as goal

pub returns-then-step_end-s : goal.returns-then-step_end-s
returns-then-step_end-s c =
    let args = c.args in
    step_cut args.n (sent_of args.steps args.slots.now) args.s.now c.step_end.result c.step_end.ensures.0 c.if-step_end-s.true

pub returns-then-n-station_of : goal.returns-then-n-station_of
returns-then-n-station_of c =
    let args = c.args in
    step-foreign args.n (sent_of args.steps args.slots.now) args.s.now c.step_end.result c.station_of.result c.step_end.ensures.0 c.if-step_end-s.false c.station_of.ensures.0 c.if-n-station_of.true

pub returns-then-not-all_sent : goal.returns-then-not-all_sent
returns-then-not-all_sent c =
    let args = c.args in
    step-deaf args.n (sent_of args.steps args.slots.now) args.s.now c.step_end.result c.station_of.result c.step_end.ensures.0 c.if-step_end-s.false c.station_of.ensures.0 c.if-n-station_of.false
    (sym c.all_sent.ensures ∙ not-true c.all_sent.result c.if-not-all_sent.true-raw)

pub returns : goal.returns
returns c =
    let args = c.args in
    step-good args.n (sent_of args.steps args.slots.now) args.s.now c.step_end.result c.station_of.result c.step_end.ensures.0 c.if-step_end-s.false c.station_of.ensures.0 c.if-n-station_of.false
    (sym c.all_sent.ensures ∙ not-false c.all_sent.result c.if-not-all_sent.false-raw)
