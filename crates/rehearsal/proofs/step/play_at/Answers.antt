-- `rehearsal::step::play_at` meets its contract. Assumes nothing.
use mathlib.Core.Path.{◌≡◌, ap, ◌∙◌}
use mathlib.Core.List.{List}
use Prim.Native.Nat.{ℕ}
use native.Mathlib.Omega.{arith}
use Rattle.lemmas.proofs.Questions.{limits-from}
use Rattle.setup.specs.Views.{setup_of}
use Rattle.timestamp.specs.Views.{stamp_of}
use Rattle.trace.specs.Replay.{Turn, turn_at}
use Rattle.playing.specs.Playing.{result_of, result_by}
use Rattle.rehearsal.specs.Standing.{queue_of}
use Rattle.rehearsal.proofs.Lending.{lent-within, lent-small, lent_is, lent-ready, back-here, back-pasted}
use Rattle.rehearsal.proofs.step.play_at.Goals as goal

pub holdback_length-size-requires : goal.holdback_length-size-requires
holdback_length-size-requires c =
    let limits = limits-from (setup_of c.args.setup) c.requires.lent.limits in
    (limits.n-most, (limits.epsilon-most, limits.delta-most))

pub overflow_mul-from : goal.overflow_mul-from
overflow_mul-from c =
    let a = c.args in
    omega (arith, lent-small (setup_of a.setup) a.at c.holdback_length-size.result a.holdbacks.now a.lines.now c.requires.lent c.holdback_length-size.ensures)

pub overflow_add-from : goal.overflow_add-from
overflow_add-from c =
    let a = c.args in
    omega (arith, lent-small (setup_of a.setup) a.at c.holdback_length-size.result a.holdbacks.now a.lines.now c.requires.lent c.holdback_length-size.ensures)

pub slice_bounds-play_next-end : goal.slice_bounds-play_next-end
slice_bounds-play_next-end c =
    let a = c.args in
    lent-within (setup_of a.setup) a.at c.holdback_length-size.result a.holdbacks.now a.lines.now c.requires.lent c.holdback_length-size.ensures

pub play_next-requires : goal.play_next-requires
play_next-requires c =
    let a = c.args in
    record { prepared = lent-ready (setup_of a.setup) a.at c.holdback_length-size.result a.holdbacks.now a.lines.now c.requires.lent c.holdback_length-size.ensures; ticks_bound = c.requires.ticks_bound }

pub returns : goal.returns
returns c =
    let a = c.args in
    let s = setup_of a.setup in
    let here = back-here s a.at c.holdback_length-size.result a.holdbacks.now a.lines.now c.requires.lent c.holdback_length-size.ensures c.play_next.new.holdback c.play_next.auto.holdback in
    let turn : List ℕ → Turn = λ l. turn_at a.station.ticks (record { setup = s; own = a.at }) (stamp_of a.station.tables) l a.tick.now in
    let turned : result_of c.play_next.result c.play_next.new.holdback c.play_next.new.text ≡ result_by (turn (queue_of s a.holdbacks.now a.at)) a.lines.now
    = c.play_next.ensures.text_after
    ∙ ap (λ (l : List ℕ). result_by (turn l) a.lines.now) (lent_is s a.at c.holdback_length-size.result a.holdbacks.now a.lines.now c.requires.lent c.holdback_length-size.ensures) in record {
      ticks_value = c.play_next.ensures.ticks_value;
      lines_after = ap (λ (l : List ℕ). result_of c.play_next.result l c.play_next.new.text) here ∙ turned;
      holdbacks_after = back-pasted s a.at c.holdback_length-size.result a.holdbacks.now a.lines.now c.requires.lent c.holdback_length-size.ensures c.play_next.new.holdback c.play_next.auto.holdback
          c.play_next.result (turn (queue_of s a.holdbacks.now a.at)) c.play_next.new.text turned;
    }
