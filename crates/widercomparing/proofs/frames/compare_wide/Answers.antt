-- `widercomparing::frames::compare_wide` meets its contract: the ranks are read by the limits of v, and the counts are lent. Assumes nothing.
use Prim.Native.Nat.{◌+◌, ◌≤◌, ◌^◌}
use mathlib.Core.Path.{refl, sym, ap, ◌∙◌}
use native.Mathlib.Omega.{arith}
use Rattle.model.specs.Frame.{payload_count_at}
use Rattle.model.specs.Comparison.{at_clocks, count_clock}
use Rattle.model.specs.Setup.{Setup}
use Rattle.model.specs.Wider.{wider_decode, half_in}
use Rattle.setup.specs.Views.{setup_of}
use Rattle.timestamp.specs.Ranks.{comparison_of}
use Rattle.holdback.proofs.Frames.{counts_end}
use Rattle.comparing.proofs.Naming.{counted-keys}
use Rattle.pairs.specs.Views.{schedule_of}
use Rattle.widercomparing.proofs.Sums.{ready, rank-asked, rank-read, rank-fits, sum_low, sum-high, by-ranks, counts-read, compared-most, compared-among}
use Rattle.widercomparing.proofs.frames.compare_wide.Goals.{After-rank_of-rank_f, Start}
use Rattle.widercomparing.proofs.frames.compare_wide.Goals as goal

-- the pairs, and the facts of each frame
abbrev old : Start → Setup
old c = setup_of c.args.p.before

abbrev new : Start → Setup
new c = setup_of c.args.p.after

-- the first frame's sum
sum-most : (c : After-rank_of-rank_f) → c.rank_of-rank_f.result.reading + c.rank_of-rank_f.result.c ≤ 2 ^ 18
sum-most c =
    sum-high (old c.before.before.before.before.before) (new c.before.before.before.before.before) c.args.p.change c.requires.paired.0 (setup_of c.own_limits-own.result) c.args.clock c.own_limits-own.ensures
    c.args.f.now c.requires.f_value.0 c.rank_of-rank_f.result c.rank_of-rank_f.ensures

pub rank_of-rank_f-requires : goal.rank_of-rank_f-requires
rank_of-rank_f-requires c = let t = rank-asked (old (goal.at.rank_of-rank_f-requires c).Start) (new (goal.at.rank_of-rank_f-requires c).Start) c.args.p.change c.requires.paired.0 (setup_of c.own_limits-own.result) c.args.clock c.own_limits-own.ensures c.args.f.now c.requires.f_value.0 c.requires.paired.1 in record { setup_value = t.0; frame_bound = t.1 }

pub rank_of-rank_g-requires : goal.rank_of-rank_g-requires
rank_of-rank_g-requires c = let t = rank-asked (old (goal.at.rank_of-rank_g-requires c).Start) (new (goal.at.rank_of-rank_g-requires c).Start) c.args.p.change c.requires.paired.0 (setup_of c.own_limits-own.result) c.args.clock c.own_limits-own.ensures c.args.g.now c.requires.f_value.1 c.requires.paired.1 in record { setup_value = t.0; frame_bound = t.1 }

pub counts_part-kf-requires : goal.counts_part-kf-requires
counts_part-kf-requires c =
    let r = ready (old (goal.at.counts_part-kf-requires c).Start) (new (goal.at.counts_part-kf-requires c).Start) c.args.p.change c.requires.paired.0 c.args.f.now c.requires.f_value.0 in
    (omega (arith, c.half_in-half_f.ensures, r.narrow), omega (arith, ap payload_count_at c.half_in-half_f.ensures, counts_end (half_in (schedule_of c.args.p) c.args.f.now) c.args.f.now r.formed))

pub counts_part-kg-requires : goal.counts_part-kg-requires
counts_part-kg-requires c =
    let r = ready (old (goal.at.counts_part-kg-requires c).Start) (new (goal.at.counts_part-kg-requires c).Start) c.args.p.change c.requires.paired.0 c.args.g.now c.requires.f_value.1 in
    (omega (arith, c.half_in-half_g.ensures, r.narrow), omega (arith, ap payload_count_at c.half_in-half_g.ensures, counts_end (half_in (schedule_of c.args.p) c.args.g.now) c.args.g.now r.formed))

pub overflow_add-sum : goal.overflow_add-sum
overflow_add-sum c = omega (arith, sum-most (goal.at.overflow_add-sum c).After-rank_of-rank_f)

pub compared_along-most-requires : goal.compared_along-most-requires
compared_along-most-requires c = omega (arith, sum-most (goal.at.compared_along-most-requires c).After-rank_of-rank_f)

pub compare_by-comparison-requires : goal.compare_by-comparison-requires
compare_by-comparison-requires c =
    let most = compared-most (old (goal.at.compare_by-comparison-requires c).Start) (new (goal.at.compare_by-comparison-requires c).Start) c.args.p.change c.requires.paired.0 (c.rank_of-rank_f.result.reading + c.rank_of-rank_f.result.c) in (
      omega (arith, c.compared_along-most.ensures, most),
      (
        rank-fits (old (goal.at.compare_by-comparison-requires c).Start) (new (goal.at.compare_by-comparison-requires c).Start) c.args.p.change c.requires.paired.0 (setup_of c.own_limits-own.result) c.args.clock c.own_limits-own.ensures c.args.f.now c.requires.f_value.0
            c.rank_of-rank_f.result c.rank_of-rank_f.ensures c.half_in-half_f.result c.half_in-half_f.ensures,
        rank-fits (old (goal.at.compare_by-comparison-requires c).Start) (new (goal.at.compare_by-comparison-requires c).Start) c.args.p.change c.requires.paired.0 (setup_of c.own_limits-own.result) c.args.clock c.own_limits-own.ensures c.args.g.now c.requires.f_value.1
            c.rank_of-rank_g.result c.rank_of-rank_g.ensures c.half_in-half_g.result c.half_in-half_g.ensures,
      ),
    )

pub at_clocks-requires : goal.at_clocks-requires
at_clocks-requires c =
    let total = c.rank_of-rank_f.result.reading + c.rank_of-rank_f.result.c in
    let low = sum_low (old (goal.at.at_clocks-requires c).Start) (new (goal.at.at_clocks-requires c).Start) c.args.p.change c.requires.paired.0 (setup_of c.own_limits-own.result) c.args.clock c.own_limits-own.ensures c.args.f.now c.requires.f_value.0 c.rank_of-rank_f.result c.rank_of-rank_f.ensures in
    let among = compared-among (old (goal.at.at_clocks-requires c).Start) (new (goal.at.at_clocks-requires c).Start) c.args.p.change c.requires.paired.0 total low in record { setup_value = (rank-asked (old (goal.at.at_clocks-requires c).Start) (new (goal.at.at_clocks-requires c).Start) c.args.p.change c.requires.paired.0 (setup_of c.own_limits-own.result) c.args.clock c.own_limits-own.ensures c.args.f.now c.requires.f_value.0 c.requires.paired.1).0; counted = (counted-keys c.compared_along-most.result total _ _ _ c.compare_by-comparison.ensures (omega (arith, c.compared_along-most.ensures, among)), sum-most (goal.at.at_clocks-requires c).After-rank_of-rank_f) }

pub returns : goal.returns
returns c =
    let g = schedule_of c.args.p in
    let total = c.rank_of-rank_f.result.reading + c.rank_of-rank_f.result.c in
    let r = ready (old (goal.at.returns c).Start) (new (goal.at.returns c).Start) c.args.p.change c.requires.paired.0 c.args.f.now c.requires.f_value.0 in
    let r' = ready (old (goal.at.returns c).Start) (new (goal.at.returns c).Start) c.args.p.change c.requires.paired.0 c.args.g.now c.requires.f_value.1 in
    c.at_clocks.ensures
    ∙ (ap (λ (s : Setup). at_clocks (count_clock s c.args.clock total) (comparison_of c.compare_by-comparison.result)) c.own_limits-own.ensures
    ∙ by-ranks g c.args.clock (wider_decode g c.args.f.now) (wider_decode g c.args.g.now) c.rank_of-rank_f.result c.rank_of-rank_g.result c.half_in-half_f.result c.half_in-half_g.result
    c.counts_part-kf.result.now c.counts_part-kg.result.now c.compared_along-most.result total
    (rank-read (old (goal.at.returns c).Start) (new (goal.at.returns c).Start) c.args.p.change c.requires.paired.0 (setup_of c.own_limits-own.result) c.args.clock c.own_limits-own.ensures c.args.f.now c.requires.f_value.0 c.rank_of-rank_f.result c.rank_of-rank_f.ensures)
    (counts-read g c.args.f.now c.half_in-half_f.result c.counts_part-kf.result.now c.half_in-half_f.ensures c.counts_part-kf.ensures) (c.half_in-half_f.ensures ∙ sym r.half)
    (rank-read (old (goal.at.returns c).Start) (new (goal.at.returns c).Start) c.args.p.change c.requires.paired.0 (setup_of c.own_limits-own.result) c.args.clock c.own_limits-own.ensures c.args.g.now c.requires.f_value.1 c.rank_of-rank_g.result c.rank_of-rank_g.ensures)
    (counts-read g c.args.g.now c.half_in-half_g.result c.counts_part-kg.result.now c.half_in-half_g.ensures c.counts_part-kg.ensures) (c.half_in-half_g.ensures ∙ sym r'.half)
    refl c.compared_along-most.ensures (comparison_of c.compare_by-comparison.result) c.compare_by-comparison.ensures)
