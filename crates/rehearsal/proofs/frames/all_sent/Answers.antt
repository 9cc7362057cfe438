-- `rehearsal::frames::all_sent` meets its contract. Assumes nothing.
use native.Mathlib.Omega.{arith}
use Rattle.rehearsal.proofs.Slots.{tried-none, tried-turn, tried-fails, sent-some, sent-nothing, heard-are}
use mathlib.Core.Path.{sym, ap, ◌∙◌}
use Rattle.rehearsal.specs.Step.{is_sent, heard_number}
use Rattle.rehearsal.specs.Views.{sent_of}
use Rattle.rehearsal.proofs.frames.all_sent.Goals as goal

pub loop-i-init : goal.loop-i-init
loop-i-init c =
    let args = c.args in
    (omega arith, tried-none (is_sent (sent_of args.steps args.slots.now)) (heard_number args.s.now))

pub returns-then-sent_size-eq0 : goal.returns-then-sent_size-eq0
returns-then-sent_size-eq0 c =
    let start = c.args in
    let sent = sent_of start.steps start.slots.now in
    tried-fails (is_sent sent) (heard_number start.s.now) c.heard_count-count.result c.loop-i.i c.loop-i-test.true
    (ap (is_sent sent) (sym c.heard_number.ensures.0) ∙ sent-nothing sent c.heard_number.result c.sent_size.result c.sent_size.ensures.0 c.if-sent_size-eq0.true)
    ∙ heard-are (is_sent sent) start.s.now c.heard_count-count.result c.heard_count-count.ensures.0

pub loop-i-preserved : goal.loop-i-preserved
loop-i-preserved c =
    let start = c.args in
    let sent = sent_of start.steps start.slots.now in (
      omega arith,
      tried-turn (is_sent sent) (heard_number start.s.now) c.loop-i.i c.loop-i.invariant.1
          (ap (is_sent sent) (sym c.heard_number.ensures.0) ∙ sent-some sent c.heard_number.result c.sent_size.result c.sent_size.ensures.0 c.if-sent_size-eq0.false),
    )

pub returns : goal.returns
returns c =
    let start = c.args in
    sym c.loop-i.invariant.1
    ∙ heard-are (is_sent (sent_of start.steps start.slots.now)) start.s.now c.loop-i.i (omega (arith, c.heard_count-count.ensures.0))
