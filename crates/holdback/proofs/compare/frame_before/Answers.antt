-- `holdback::compare::frame_before` meets its contract: the frame's rank is read, and both are compared by their counts as they stand. Assumes nothing.
use Rattle.std.proofs.Common.{ℕ, List, ap, ◌∙◌, ap₂}
use Rattle.timestamp.specs.declared.ordering.Rank.{Rank}
use Rattle.setup.specs.Views.{setup_of}
use Rattle.model.specs.Frame.{counts_of, decode}
use Rattle.lemmas.proofs.Questions.{limits-from}
use Rattle.holdback.specs.Queue.{rank_before}
use Rattle.holdback.proofs.RoundTrip.{passing}
use Rattle.holdback.proofs.Frames.{counts_end, counts-inside, counts-decoded}
use Rattle.holdback.proofs.Testing.{ranked}
use Rattle.holdback.proofs.compare.frame_before.Goals as goal

pub rank_of-rank-requires : goal.rank_of-rank-requires
rank_of-rank-requires c = record { setup_value = c.requires.setup_value; frame_bound = (passing (setup_of c.args.setup) c.args.f.now c.requires.f_value.0).r-below }

pub counts_part-kf-requires : goal.counts_part-kf-requires
counts_part-kf-requires c =
    let setup = setup_of c.args.setup in
    ((limits-from setup c.requires.setup_value.0).epsilon-most, counts_end c.args.setup.epsilon c.args.f.now (passing setup c.args.f.now c.requires.f_value.0).well)

pub counts_part-kg-requires : goal.counts_part-kg-requires
counts_part-kg-requires c =
    let epsilon = c.args.setup.epsilon in
    let limits = limits-from (setup_of c.args.setup) c.requires.setup_value.0 in
    (limits.epsilon-most, counts-inside epsilon c.args.sg.now limits.epsilon-pos c.requires.f_value.1.long)

pub comes_before-requires : goal.comes_before-requires
comes_before-requires c =
    let setup = setup_of c.args.setup in
    let rank = c.rank_of-rank in
    record { ranked = ranked setup c.args.clock c.args.f.now _ rank.result (limits-from setup c.requires.setup_value.0) c.requires.f_value.0 (counts-decoded c.args.setup.epsilon c.args.f.now c.counts_part-kf.ensures) rank.ensures; ranked_2 = rw c.counts_part-kg.ensures c.requires.f_value.1 }

pub returns : goal.returns
returns c =
    let epsilon = c.args.setup.epsilon in
    let rank = c.rank_of-rank in
    c.comes_before.ensures
    ∙ (ap₂ (λ (k l : List ℕ). rank_before epsilon rank.result k c.args.g l) (counts-decoded epsilon c.args.f.now c.counts_part-kf.ensures) c.counts_part-kg.ensures
    ∙ ap (λ (q : Rank). rank_before epsilon q (decode epsilon c.args.f.now).stamp.kn c.args.g (counts_of epsilon c.args.sg.now)) rank.ensures)
