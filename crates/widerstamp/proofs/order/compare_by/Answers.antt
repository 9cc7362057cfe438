-- `widerstamp::order::compare_by` meets its contract: the counts asked for are those of each frame's half width. Assumes nothing.
use mathlib.Core.Path.{◌∙◌}
use borrow.Author.Rules.{rules}
use Rattle.model.specs.Timestamp.{count_at}
use Rattle.widerstamp.proofs.Orders.{compared-in-turn}
use Rattle.widerstamp.proofs.order.compare_by.Goals as goal

pub returns : goal.returns
returns c =
    let a = c.args in
    c.compare_by_counts.ensures (λ k. count_at a.half_f k a.kf.now a.f.c) (λ k. count_at a.half_g k a.kg.now a.g.c)
    (λ k n h p. search rules) (λ k n h p. search rules)
    ∙ compared-in-turn a.most a.half_f a.half_g a.f a.g a.kf.now a.kg.now
