-- `timestamp::ordering::compare_ranked` meets its contract: the counts asked for are the ε newest.
-- Assumes nothing.
use Prim.Native.Nat.{◌+◌, ◌-◌}
use mathlib.Core.Path.{◌∙◌}
use lib.ListN.{get_or}
use borrow.Author.Rules.{rules}
use Rattle.timestamp.proofs.Ordered.{ranked-in-turn}
use Rattle.timestamp.proofs.ordering.compare_ranked.Goals as goal

pub returns : goal.returns
returns c =
    let a = c.args in
    c.compare_by_counts.ensures (λ k. get_or a.kf.now (a.epsilon + a.f.c - k) 0) (λ k. get_or a.kg.now (a.epsilon + a.g.c - k) 0)
    (λ k n h p. search rules) (λ k n h p. search rules)
    ∙ ranked-in-turn a.epsilon a.f a.g a.kf.now a.kg.now
