-- `rehearsal::step::play_step` meets its contract. Assumes nothing.
use Prim.Native.Nat.{ℕ, suc, ◌*◌}
use mathlib.Core.Path.{sym, ap, ap₂, ◌∙◌}
use native.Mathlib.Omega.{arith}
use lib.Seq.{length-take-le}
use Rattle.model.specs.Tick.{holdback_size}
use Rattle.splice.specs.Bytes.{pasted}
use Rattle.setup.specs.Views.{setup_of}
use Rattle.trace.specs.Replay.{Turn}
use Rattle.playing.specs.Playing.{result_of, result_by}
use Rattle.rehearsal.specs.Standing.{queue_of, station_at}
use Rattle.rehearsal.proofs.Slots.{step-playable}
use Rattle.rehearsal.proofs.OneStep.{put_front, place, place-lent, few-ticks, turn_is}
use Rattle.rehearsal.proofs.step.play_step.Goals as goal

pub put_tick-end-requires : goal.put_tick-end-requires
put_tick-end-requires c = record { kept = (c.requires.called.standing.kept, step-playable _ _ _ c.requires.called.good); longest_turn_in_bounds = omega arith }

pub bounds-stations-at : goal.bounds-stations-at
bounds-stations-at c = omega (arith, c.station_of-at.ensures.0, place _ _ _ _ _ c.requires.called)

pub slice_bounds-play_at-end : goal.slice_bounds-play_at-end
slice_bounds-play_at-end c = sym (length-take-le c.put_tick-end.result c.put_tick-end.new.out (omega (arith, c.put_tick-end.ensures.1, c.put_tick-end.auto.out)))

pub play_at-requires : goal.play_at-requires
play_at-requires c = let a = c.args in record { lent = place-lent (setup_of a.setup) a.group a.holdbacks.now a.slots.now a.bytes.now c.requires.called c.station_of-at.result a.lines.now c.station_of-at.ensures.0 c.requires.text_room_in_bounds; ticks_bound = omega (arith, few-ticks (setup_of a.setup) a.group a.holdbacks.now a.slots.now a.bytes.now c.requires.called c.station_of-at.result c.station_of-at.ensures.0) }

pub returns : goal.returns
returns c =
    let a = c.args in
    let s = setup_of a.setup in
    let turn-same = turn_is s a.group a.holdbacks.now a.slots.now a.bytes.now c.requires.called c.station_of-at.result _ c.station_of-at.ensures.0 (put_front c.put_tick-end.ensures.0) in record {
      ticks_value = c.play_at.ensures.ticks_value ∙ ap (λ (j : ℕ). suc (station_at a.group j).ticks) c.station_of-at.ensures.0;
      lines_after = ap (λ (j : ℕ). result_of c.play_at.result (queue_of s c.play_at.new.holdbacks j) c.play_at.new.lines) (sym c.station_of-at.ensures.0)
          ∙ c.play_at.ensures.lines_after
          ∙ ap (λ (t : Turn). result_by t a.lines.now) turn-same;
      holdbacks_after = c.play_at.ensures.holdbacks_after ∙ ap₂ (λ (j : ℕ) (t : Turn). pasted a.holdbacks.now (j * holdback_size s) t.holdback) c.station_of-at.ensures.0 turn-same;
    }
