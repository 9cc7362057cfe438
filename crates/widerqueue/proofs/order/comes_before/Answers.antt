-- `widerqueue::order::comes_before` meets its contract: the comparison of the two keys answers First. Assumes nothing.
use native.Mathlib.Omega.{arith}
use mathlib.Core.Path.{◌≡◌, refl, ap, ◌∙◌}
use denote.Enum.Declared
use Prim.Native.Nat.{◌+◌, ◌≤◌, ◌^◌}
use Rattle.model.specs.Schedule.{Schedule}
use Rattle.model.specs.Wider.{half_in, wider_decode}
use Rattle.pairs.specs.Views.{schedule_of}
use Rattle.timestamp.specs.declared.ordering.Rank.{Rank}
use Rattle.timestamp.proofs.Ordered.{Tags}
use Rattle.holdback.specs.Queue.{rank_at}
use Rattle.widerqueue.proofs.Shared.{rank-at-same}
use Rattle.widerqueue.proofs.Forms.{passes-formed}
use Rattle.widerqueue.proofs.Orders.{counts-there, compared-most, rank-small, is-before, not-before}
use borrow.Enum.Refused.{opened}
use Rattle.widerqueue.proofs.order.comes_before.Goals.{After-rank_at-b}
use Rattle.widerqueue.proofs.order.comes_before.Goals as goal

abbrev tags : Tags
tags =
    record {
      tag = Declared.tag_of Rattle.timestamp.specs.contracts.ordering.Comparison.the_type;
      at_first = λ _. refl;
      at_second = λ _. refl;
      at-alike = refl;
    }

-- the two ranks
module _ (c : After-rank_at-b) where
  abbrev g : Schedule
  g = schedule_of c.args.p

  first : c.rank_at-a.result ≡ rank_at c.args.x (wider_decode g c.args.f.now)
  first = c.rank_at-a.ensures 0 ∙ rank-at-same g 0 c.args.x c.args.f.now

  second : c.rank_at-b.result ≡ rank_at c.args.y (wider_decode g c.args.h.now)
  second = c.rank_at-b.ensures 0 ∙ rank-at-same g 0 c.args.y c.args.h.now

  sum_low : c.rank_at-a.result.reading + c.rank_at-a.result.c ≤ 2 ^ 17 + 2 ^ 16
  sum_low =
      let small = rank-small g c.requires.paired.0 c.args.f.now c.args.x (half_in g c.args.f.now) c.rank_at-a.result c.requires.f_value.0 c.requires.paired.1.0 first refl in
      let er : c.rank_at-a.result.reading ≡ c.args.x = ap (λ (q : Rank). q.reading) first in
      omega (arith, small.lead, c.requires.paired.1.0)

pub overflow_add-a : goal.overflow_add-a
overflow_add-a c = omega (arith, sum_low (goal.at.overflow_add-a c).After-rank_at-b)

pub compared_along-most-requires : goal.compared_along-most-requires
compared_along-most-requires c = omega (arith, sum_low (goal.at.compared_along-most-requires c).After-rank_at-b)

pub counts_part-kf-requires : goal.counts_part-kf-requires
counts_part-kf-requires c = counts-there (g (goal.at.counts_part-kf-requires c).After-rank_at-b) c.requires.paired.0 c.args.f.now c.requires.f_value.0 c.half_in-half_f.ensures

pub counts_part-kh-requires : goal.counts_part-kh-requires
counts_part-kh-requires c = counts-there (g (goal.at.counts_part-kh-requires c).After-rank_at-b) c.requires.paired.0 c.args.h.now c.requires.f_value.1 c.half_in-half_h.ensures

pub compare_by-comparison-requires : goal.compare_by-comparison-requires
compare_by-comparison-requires c = (
  omega (arith, c.compared_along-most.ensures, compared-most (g (goal.at.compare_by-comparison-requires c).After-rank_at-b) c.requires.paired.0 (c.rank_at-a.result.reading + c.rank_at-a.result.c)),
  (
    rank-small (g (goal.at.compare_by-comparison-requires c).After-rank_at-b) c.requires.paired.0 c.args.f.now c.args.x c.half_in-half_f.result c.rank_at-a.result c.requires.f_value.0 c.requires.paired.1.0 (first (goal.at.compare_by-comparison-requires c).After-rank_at-b) c.half_in-half_f.ensures,
    rank-small (g (goal.at.compare_by-comparison-requires c).After-rank_at-b) c.requires.paired.0 c.args.h.now c.args.y c.half_in-half_h.result c.rank_at-b.result c.requires.f_value.1 c.requires.paired.1.1 (second (goal.at.compare_by-comparison-requires c).After-rank_at-b) c.half_in-half_h.ensures,
  ),
)

pub returns-in_default : goal.returns-in_default
returns-in_default c =
    not-before (g (goal.at.returns-in_default c).After-rank_at-b) c.args.x c.args.y c.args.f.now c.args.h.now _ _ c.rank_at-a.result c.rank_at-b.result _ _ _ c.compare_by-comparison.result
    (passes-formed (g (goal.at.returns-in_default c).After-rank_at-b) c.args.f.now c.requires.f_value.0) (passes-formed (g (goal.at.returns-in_default c).After-rank_at-b) c.args.h.now c.requires.f_value.1) (first (goal.at.returns-in_default c).After-rank_at-b) (second (goal.at.returns-in_default c).After-rank_at-b)
    c.half_in-half_f.ensures c.half_in-half_h.ensures c.counts_part-kf.ensures c.counts_part-kh.ensures
    c.compared_along-most.ensures c.compare_by-comparison.ensures tags (opened c.in_default.in_default-own.keys2)

pub returns : goal.returns
returns c =
    is-before (g (goal.at.returns c).After-rank_at-b) c.args.x c.args.y c.args.f.now c.args.h.now _ _ c.rank_at-a.result c.rank_at-b.result _ _ _ c.compare_by-comparison.result
    (passes-formed (g (goal.at.returns c).After-rank_at-b) c.args.f.now c.requires.f_value.0) (passes-formed (g (goal.at.returns c).After-rank_at-b) c.args.h.now c.requires.f_value.1) (first (goal.at.returns c).After-rank_at-b) (second (goal.at.returns c).After-rank_at-b)
    c.half_in-half_f.ensures c.half_in-half_h.ensures c.counts_part-kf.ensures c.counts_part-kh.ensures
    c.compared_along-most.ensures c.compare_by-comparison.ensures tags c.in-First.in-First-own.keys1
