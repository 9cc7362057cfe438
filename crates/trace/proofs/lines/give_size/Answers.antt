-- `trace::lines::give_size` meets its contract. Assumes nothing.
use Prim.Native.Nat.{ℕ}
use mathlib.Core.Path.{ap}
use mathlib.Core.List.{List}
use native.Mathlib.Omega.{arith}
use lib.ListN.{length}
use Rattle.lemmas.proofs.Questions.{limits-from}
use Rattle.setup.specs.Views.{setup_of}
use Rattle.timestamp.specs.Ranks.{comparison_of}
use Rattle.trace.proofs.Putting.{length-give}
use Rattle.trace.proofs.Giving.{give_at, payload-most}
use Rattle.trace.proofs.lines.give_size.Goals as goal

pub frame_at-frame-requires : goal.frame_at-frame-requires
frame_at-frame-requires c = (limits-from (setup_of c.args.setup) c.requires.limits).epsilon-most

pub payload_part-payload-requires : goal.payload_part-payload-requires
payload_part-payload-requires c = (limits-from (setup_of c.args.setup) c.requires.limits).epsilon-most

pub overflow_add-size-3 : goal.overflow_add-size-3
overflow_add-size-3 c =
    omega (
      arith,
      c.frame_at-frame.ensures.1,
      payload-most c.args.setup.epsilon c.frame_at-frame.result.now c.payload_part-payload.result.now c.payload_part-payload.ensures,
      c.payload_size.ensures.1,
      c.digit_count.ensures.1,
      c.digit_count-2.ensures.1,
    )

pub overflow_add-result : goal.overflow_add-result
overflow_add-result c =
    omega (
      arith,
      c.frame_at-frame.ensures.1,
      payload-most c.args.setup.epsilon c.frame_at-frame.result.now c.payload_part-payload.result.now c.payload_part-payload.ensures,
      c.decided_size.ensures.1,
      c.payload_size.ensures.1,
      c.digit_count.ensures.1,
      c.digit_count-2.ensures.1,
    )

pub returns : goal.returns
returns c =
    let a = c.args in
    let text =
    give_at (setup_of a.setup) a.clock a.delivery.now a.last a.at c.station_of-station.result c.r_of-r.result c.frame_at-frame.result.now c.payload_part-payload.result.now
    (comparison_of c.compared_at-comparison.result) c.compared_at-comparison.ensures c.frame_at-frame.ensures.0 (c.station_of-station.ensures a.setup.epsilon) (c.r_of-r.ensures a.setup.epsilon) c.payload_part-payload.ensures in
    omega (
      arith,
      c.digit_count.ensures.0,
      c.digit_count-2.ensures.0,
      c.payload_size.ensures.0,
      c.decided_size.ensures.0,
      length-give c.station_of-station.result c.r_of-r.result c.payload_part-payload.result.now (comparison_of c.compared_at-comparison.result).reason,
      ap (λ (l : List ℕ). length l) text,
    )
