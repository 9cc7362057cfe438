-- `replay::play_ticks` meets its contract. The invariant of its loop: what the ticks so far left is that of playing them by turns. Assumes nothing.
use Prim.Native.Nat.{ℕ, ◌≤◌}
use native.Mathlib.Omega.{arith}
use mathlib.Core.Path.{◌≡◌, refl, sym, ap, subst, ◌∙◌}
use mathlib.Core.Bool.{true}
use lib.ListN.{length}
use lib.Seq.{length-take-le}
use Rattle.lemmas.proofs.Questions.{setup-from}
use Rattle.trace.specs.Views.{node_setup_of}
use Rattle.playing.specs.Playing.{among, run_numbers}
use Rattle.playing.proofs.Refusals.{end-among}
use Rattle.playing.proofs.Turns.{result-within, result-among}
use Rattle.playing.proofs.Empty.{empty-long}
use Rattle.replay.proofs.Running.{Turned, turned_none, turned-next, ran_to, ran-all}
use Rattle.replay.proofs.play_ticks.Given.{Over}
use Rattle.replay.proofs.play_ticks.Goals.{After-play_next-played}
use Rattle.replay.proofs.play_ticks.Goals as goal

-- the tick is the next
next : (g : Over) (p : After-play_next-played g) → Turned (node_setup_of p.args.node) p.play_next-played.result.number p.play_next-played.result.station p.play_next-played.new.holdback
next g p =
    turned-next (node_setup_of p.args.node) p.loop-station.station p.play_next-played.result p.loop-station.holdback _ p.loop-station.text _ _
    p.loop-station.invariant.turned p.play_next-played.ensures.ticks_value p.play_next-played.ensures.text_after

-- and was not refused
good : (g : Over) (p : After-play_next-played g) → p.play_next-played.result.number ≡ 0 → Turned (node_setup_of p.args.node) 0 p.play_next-played.result.station p.play_next-played.new.holdback
good g p e = subst (λ (n : ℕ). Turned (node_setup_of p.args.node) n p.play_next-played.result.station p.play_next-played.new.holdback) e (next g p)

few : (g : Over) (p : After-play_next-played g) → p.play_next-played.result.station.ticks ≤ p.args.ticks
few g p = omega (arith, p.play_next-played.ensures.ticks_value, p.loop-station-test.true)

known : (g : Over) (p : After-play_next-played g) → among run_numbers p.play_next-played.result.number ≡ true
known g p = result-among _ _ _ _ _ _ _ p.requires.ready p.loop-station.invariant.size p.play_next-played.ensures.text_after

-- the buffers are as long as they were
queue_long : (g : Over) (p : After-play_next-played g) → length p.play_next-played.new.holdback ≡ length p.args.holdback.now
queue_long g p = p.play_next-played.auto.holdback ∙ p.loop-station.invariant.same_queue

bytes-long : (g : Over) (p : After-play_next-played g) → length p.read_tick-used.new.bytes ≡ length p.args.bytes.now
bytes-long g p = p.read_tick-used.auto.bytes ∙ p.loop-station.invariant.same_bytes

text-long : (g : Over) (p : After-play_next-played g) → length p.play_next-played.new.text ≡ length p.args.text.now
text-long g p = p.play_next-played.auto.text ∙ p.loop-station.invariant.same_text

pub loop-station-init : goal.loop-station-init
loop-station-init g c =
    let s = node_setup_of c.args.node in
    record {
      turned = turned_none s _ _ refl (c.replaced-tables.ensures s.setup.epsilon (setup-from s.setup s.own c.requires.ready.valid).0.epsilon-most) c.requires.empty;
      most = omega arith;
      size = ap length c.requires.empty ∙ empty-long s.setup;
      same_queue = refl;
      same_bytes = refl;
      same_text = refl;
    }

pub read_tick-used-requires : goal.read_tick-used-requires
read_tick-used-requires g c = omega (arith, c.requires.space, c.loop-station.invariant.same_bytes)

pub slice_bounds-play_next-end-in-loop-station : goal.slice_bounds-play_next-end-in-loop-station
slice_bounds-play_next-end-in-loop-station g c = sym (length-take-le _ _ c.read_tick-used.ensures.within)

pub play_next-played-requires : goal.play_next-played-requires
play_next-played-requires g c = record { prepared = record { ready = c.requires.ready; size = c.loop-station.invariant.size; room = omega (arith, c.requires.room, c.loop-station.invariant.same_text) }; ticks_bound = omega (arith, c.loop-station-test.true) }

pub shape_of-holdback-then-played-ne0 : goal.shape_of-holdback-then-played-ne0
shape_of-holdback-then-played-ne0 g c = queue_long g (goal.at.shape_of-holdback-then-played-ne0 g c).After-play_next-played

pub shape_of-bytes-then-played-ne0 : goal.shape_of-bytes-then-played-ne0
shape_of-bytes-then-played-ne0 g c = bytes-long g (goal.at.shape_of-bytes-then-played-ne0 g c).After-play_next-played

pub shape_of-text-then-played-ne0 : goal.shape_of-text-then-played-ne0
shape_of-text-then-played-ne0 g c = text-long g (goal.at.shape_of-text-then-played-ne0 g c).After-play_next-played

pub returns-then-played-ne0 : goal.returns-then-played-ne0
returns-then-played-ne0 g c = record { ran = ran_to _ _ _ _ (next g (goal.at.returns-then-played-ne0 g c).After-play_next-played) (few g (goal.at.returns-then-played-ne0 g c).After-play_next-played); number_value = known g (goal.at.returns-then-played-ne0 g c).After-play_next-played }

pub slice_bounds-write_all-end : goal.slice_bounds-write_all-end
slice_bounds-write_all-end g c = result-within _ _ _ c.play_next-played.ensures.text_after

pub slice_bounds-write_all-end-in-loop-station : goal.slice_bounds-write_all-end-in-loop-station
slice_bounds-write_all-end-in-loop-station g c = sym (length-take-le _ _ (result-within _ _ _ c.play_next-played.ensures.text_after))

pub shape_of-holdback-then-is_err : goal.shape_of-holdback-then-is_err
shape_of-holdback-then-is_err g c = queue_long g (goal.at.shape_of-holdback-then-is_err g c).After-play_next-played

pub shape_of-bytes-then-is_err : goal.shape_of-bytes-then-is_err
shape_of-bytes-then-is_err g c = bytes-long g (goal.at.shape_of-bytes-then-is_err g c).After-play_next-played

pub shape_of-text-then-is_err : goal.shape_of-text-then-is_err
shape_of-text-then-is_err g c = text-long g (goal.at.shape_of-text-then-is_err g c).After-play_next-played

pub returns-then-is_err : goal.returns-then-is_err
returns-then-is_err g c = record { ran = ran_to _ _ _ _ (good g (goal.at.returns-then-is_err g c).After-play_next-played c.if-played-ne0.false) (few g (goal.at.returns-then-is_err g c).After-play_next-played); number_value = ap (among run_numbers) (sym c.if-played-ne0.false) ∙ known g (goal.at.returns-then-is_err g c).After-play_next-played }

pub loop-station-smaller : goal.loop-station-smaller
loop-station-smaller g c = omega (arith, c.play_next-played.ensures.ticks_value, c.loop-station-test.true)

pub loop-station-preserved : goal.loop-station-preserved
loop-station-preserved g c =
    record {
      turned = good g (goal.at.loop-station-preserved g c).After-play_next-played c.if-played-ne0.false;
      most = few g (goal.at.loop-station-preserved g c).After-play_next-played;
      size = c.play_next-played.auto.holdback ∙ c.loop-station.invariant.size;
      same_queue = queue_long g (goal.at.loop-station-preserved g c).After-play_next-played;
      same_bytes = bytes-long g (goal.at.loop-station-preserved g c).After-play_next-played;
      same_text = text-long g (goal.at.loop-station-preserved g c).After-play_next-played;
    }

pub shape_of-holdback : goal.shape_of-holdback
shape_of-holdback g c = c.loop-station.invariant.same_queue

pub shape_of-bytes : goal.shape_of-bytes
shape_of-bytes g c = c.loop-station.invariant.same_bytes

pub shape_of-text : goal.shape_of-text
shape_of-text g c = c.loop-station.invariant.same_text

pub returns : goal.returns
returns g c = record { ran = ran-all _ _ _ _ c.read_next.result c.loop-station.invariant.turned c.loop-station.invariant.most c.loop-station-test.false c.end_number.ensures; number_value = ap (among run_numbers) c.end_number.ensures ∙ end-among c.read_next.result }
