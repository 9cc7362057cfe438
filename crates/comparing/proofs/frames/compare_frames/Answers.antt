-- `comparing::frames::compare_frames` meets its contract: the ranks are read, and the counts are lent. Assumes nothing.
use Prim.Native.Nat.{◌+◌}
use mathlib.Core.Path.{ap, ◌∙◌}
use native.Mathlib.Omega.{arith}
use Rattle.setup.specs.Views.{setup_of}
use Rattle.model.specs.Setup.{Setup}
use Rattle.model.specs.Frame.{decode}
use Rattle.timestamp.specs.declared.ordering.Rank.{Rank}
use Rattle.timestamp.specs.Ranks.{Ranked}
use Rattle.lemmas.proofs.Bounds.{Limits}
use Rattle.lemmas.proofs.Questions.{limits-from}
use Rattle.lemmas.proofs.Queue.{reading-high}
use Rattle.lemmas.proofs.Comparing.{reading-low}
use Rattle.holdback.proofs.RoundTrip.{passing}
use Rattle.holdback.proofs.Frames.{counts_end, counts-decoded}
use Rattle.holdback.proofs.Testing.{ranked}
use Rattle.comparing.proofs.Naming.{counted-keys, by-ranks}
use Rattle.comparing.proofs.frames.compare_frames.Goals.{After-counts_part-kg, Start}
use Rattle.comparing.proofs.frames.compare_frames.Goals as goal

abbrev setup : Start → Setup
setup c = setup_of c.args.setup

limits : (c : Start) → Limits (setup c)
limits c = limits-from (setup c) c.requires.setup_value.0

pub rank_of-rank_f-requires : goal.rank_of-rank_f-requires
rank_of-rank_f-requires c = record { setup_value = c.requires.setup_value; frame_bound = (passing (setup (goal.at.rank_of-rank_f-requires c).Start) c.args.f.now c.requires.f_value.0).r-below }

pub rank_of-rank_g-requires : goal.rank_of-rank_g-requires
rank_of-rank_g-requires c = record { setup_value = c.requires.setup_value; frame_bound = (passing (setup (goal.at.rank_of-rank_g-requires c).Start) c.args.g.now c.requires.f_value.1).r-below }

pub counts_part-kf-requires : goal.counts_part-kf-requires
counts_part-kf-requires c = ((limits (goal.at.counts_part-kf-requires c).Start).epsilon-most, counts_end c.args.setup.epsilon c.args.f.now (passing (setup (goal.at.counts_part-kf-requires c).Start) c.args.f.now c.requires.f_value.0).well)

pub counts_part-kg-requires : goal.counts_part-kg-requires
counts_part-kg-requires c = ((limits (goal.at.counts_part-kg-requires c).Start).epsilon-most, counts_end c.args.setup.epsilon c.args.g.now (passing (setup (goal.at.counts_part-kg-requires c).Start) c.args.g.now c.requires.f_value.1).well)

ranked-f : (c : After-counts_part-kg) → Ranked c.args.setup.epsilon c.rank_of-rank_f.result c.counts_part-kf.result.now
ranked-f c =
    ranked (setup c.before.before.before.before.before.before.before.before) c.args.clock c.args.f.now c.counts_part-kf.result.now c.rank_of-rank_f.result
    (limits c.before.before.before.before.before.before.before.before) c.requires.f_value.0 (counts-decoded c.args.setup.epsilon c.args.f.now c.counts_part-kf.ensures) c.rank_of-rank_f.ensures

ranked-g : (c : After-counts_part-kg) → Ranked c.args.setup.epsilon c.rank_of-rank_g.result c.counts_part-kg.result.now
ranked-g c =
    ranked (setup c.before.before.before.before.before.before.before.before) c.args.clock c.args.g.now c.counts_part-kg.result.now c.rank_of-rank_g.result
    (limits c.before.before.before.before.before.before.before.before) c.requires.f_value.1 (counts-decoded c.args.setup.epsilon c.args.g.now c.counts_part-kg.ensures) c.rank_of-rank_g.ensures

pub compare_ranked-comparison-requires : goal.compare_ranked-comparison-requires
compare_ranked-comparison-requires c = record { ranked = ranked-f (goal.at.compare_ranked-comparison-requires c).After-counts_part-kg; ranked_2 = ranked-g (goal.at.compare_ranked-comparison-requires c).After-counts_part-kg }

pub overflow_add-rank_f : goal.overflow_add-rank_f
overflow_add-rank_f c = omega (arith, (ranked-f (goal.at.overflow_add-rank_f c).After-counts_part-kg).small, (ranked-f (goal.at.overflow_add-rank_f c).After-counts_part-kg).lead, (limits (goal.at.overflow_add-rank_f c).Start).epsilon-most)

pub at_clocks-requires : goal.at_clocks-requires
at_clocks-requires c =
    let rank : Rank = c.rank_of-rank_f.result in
    let low = reading-low (setup (goal.at.at_clocks-requires c).Start) c.args.clock (decode c.args.setup.epsilon c.args.f.now) (limits (goal.at.at_clocks-requires c).Start) in
    let high = reading-high (setup (goal.at.at_clocks-requires c).Start) c.args.clock (decode c.args.setup.epsilon c.args.f.now) (limits (goal.at.at_clocks-requires c).Start) in
    let reading = ap (λ (q : Rank). q.reading) c.rank_of-rank_f.ensures in record {
      setup_value = c.requires.setup_value;
      counted = (
        counted-keys c.args.setup.epsilon (rank.reading + rank.c) _ _ _ c.compare_ranked-comparison.ensures (omega (arith, low, reading)),
        omega (arith, high, reading, (ranked-f (goal.at.at_clocks-requires c).After-counts_part-kg).lead, (limits (goal.at.at_clocks-requires c).Start).epsilon-most, (limits (goal.at.at_clocks-requires c).Start).modulus-most),
      );
    }

pub returns : goal.returns
returns c =
    let epsilon = c.args.setup.epsilon in
    c.at_clocks.ensures
    ∙ by-ranks (setup (goal.at.returns c).Start) c.args.clock (decode epsilon c.args.f.now) (decode epsilon c.args.g.now)
    c.rank_of-rank_f.result c.rank_of-rank_g.result c.counts_part-kf.result.now c.counts_part-kg.result.now
    c.rank_of-rank_f.ensures (counts-decoded epsilon c.args.f.now c.counts_part-kf.ensures)
    c.rank_of-rank_g.ensures (counts-decoded epsilon c.args.g.now c.counts_part-kg.ensures)
    _ c.compare_ranked-comparison.ensures
