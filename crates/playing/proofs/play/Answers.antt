-- `playing::play` meets its contract. Assumes nothing.
use mathlib.Core.Path.{◌≡◌, refl, sym, ap, ◌∙◌}
use Prim.Native.Nat.{ℕ}
use mathlib.Core.List.{List}
use native.Mathlib.Omega.{arith}
use Rattle.model.specs.Tick.{Output, tick}
use Rattle.timestamp.specs.Views.{stamp_of}
use Rattle.setup.specs.Views.{setup_of}
use Rattle.trace.specs.Views.{node_setup_of}
use Rattle.node.specs.Answers.{answer_of, call_output}
use Rattle.trace.specs.declared.lines.TickNumbers.{TickNumbers}
use Rattle.trace.specs.Text.{tick_lines, text_written, text_end}
use Rattle.trace.specs.Trace.{tick_number}
use Rattle.trace.specs.Replay.{call_of}
use Rattle.playing.specs.declared.Played.{Played}
use Rattle.playing.specs.Playing.{result_of}
use Rattle.playing.proofs.Fits.{Figured}
use Rattle.playing.proofs.Turns.{call-is, turn-cut, turn-refused, turn-given, turn-played}
use Rattle.playing.proofs.play.Goals.{After-tick-answer, Else-answer-ne0}
use Rattle.playing.proofs.play.Goals as goal

pub returns-then-call-ne0 : goal.returns-then-call-ne0
returns-then-call-ne0 c =
    let a = c.args in record {
      ticks_value = ap (λ (p : Played). p.station.ticks) c.refused.ensures;
      text_after = ap (λ (p : Played). result_of p a.holdback.now a.text.now) c.refused.ensures
          ∙ turn-cut (node_setup_of a.node) (stamp_of a.station.tables) a.holdback.now a.bytes.now a.text.now
          c.read_call-call.result.number c.read_call-call.ensures.0 c.if-call-ne0.true;
    }

one-tick : (c : After-tick-answer) → 0 ≡ tick_number c.args.bytes.now
one-tick c = sym c.if-call-ne0.false ∙ c.read_call-call.ensures.0

-- what the call answered and left
abbrev output : After-tick-answer → Output
output c = call_output c.tick-answer.result c.tick-answer.new.holdback c.tick-answer.new.outgoing c.tick-answer.new.verdicts c.tick-answer.new.delivery

same : (c : After-tick-answer)
    → output c ≡ tick (call_of (node_setup_of c.args.node) (stamp_of c.args.station.tables) c.args.holdback.now c.args.bytes.now)
same c =
    let a = c.args in
    c.tick-answer.ensures
    ∙ ap tick
    (call-is (node_setup_of a.node) (stamp_of a.station.tables) a.holdback.now a.bytes.now
    c.read_call-call.ensures.1.0 c.read_call-call.ensures.1.1
    c.batch_of.ensures c.payload_of.ensures)

pub returns-then-answer-ne0 : goal.returns-then-answer-ne0
returns-then-answer-ne0 c =
    let a = c.args in record {
      ticks_value = ap (λ (p : Played). p.station.ticks) c.refused-then-answer-ne0.ensures;
      text_after = ap (λ (p : Played). result_of p c.tick-answer.new.holdback a.text.now) c.refused-then-answer-ne0.ensures
          ∙ turn-refused (node_setup_of a.node) (stamp_of a.station.tables) a.holdback.now a.bytes.now a.text.now (output (goal.at.returns-then-answer-ne0 c).After-tick-answer) (one-tick (goal.at.returns-then-answer-ne0 c).After-tick-answer) (same (goal.at.returns-then-answer-ne0 c).After-tick-answer) c.if-answer-ne0.true;
    }

pub put_lines-size-requires : goal.put_lines-size-requires
put_lines-size-requires c =
    turn-given (node_setup_of c.args.node) (stamp_of c.args.station.tables) c.args.holdback.now c.args.bytes.now c.args.text.now (output (goal.at.put_lines-size-requires c).After-tick-answer)
    c.tick_numbers_of.result.clock c.requires.ready (same (goal.at.put_lines-size-requires c).After-tick-answer) c.if-answer-ne0.false
    (ap (λ (f : TickNumbers). f.clock) c.tick_numbers_of.ensures ∙ c.read_call-call.ensures.1.0)

-- the figures of the line have 64 bits
figured : (c : Else-answer-ne0) → Figured c.read_call-call.result.clock (answer_of c.tick-answer.result)
figured c =
    record {
      clock-small = omega (arith, c.struct_known-1.given);
      repair-small = omega (arith, c.struct_known-2-1.given);
      c-small = omega (arith, c.struct_known-2-1.given);
      taken-small = omega (arith, c.struct_known-2-1.given);
      delivered-small = omega (arith, c.struct_known-2-1.given);
    }

pub returns : goal.returns
returns c =
    let a = c.args in
    let line : TickNumbers → List ℕ = λ f. tick_lines f.clock f.repair f.c f.taken f.sent f.delivered (setup_of a.node.setup) (output (goal.at.returns c).After-tick-answer).delivery in
    record {
      ticks_value = refl;
      text_after = turn-played (node_setup_of a.node) (stamp_of a.station.tables) a.holdback.now a.bytes.now a.text.now (output (goal.at.returns c).After-tick-answer) c.read_call-call.result.clock
          c.requires.ready c.requires.room (one-tick (goal.at.returns c).After-tick-answer) (same (goal.at.returns c).After-tick-answer) c.if-answer-ne0.false c.read_call-call.ensures.1.0 (figured (goal.at.returns c).Else-answer-ne0)
          (c.put_lines-size.ensures.value ∙ ap (λ (f : TickNumbers). text_end a.text.now 0 (line f)) c.tick_numbers_of.ensures)
          (c.put_lines-size.ensures.buf_after ∙ ap (λ (f : TickNumbers). text_written a.text.now 0 (line f)) c.tick_numbers_of.ensures);
    }
