-- `timestamp::stamp::counts_at_most` meets its contract: the loop's invariant: the test of the whole part is that of the largest count passed and of what is left.
-- Assumes nothing.
use mathlib.Core.Path.{sym, ap, ◌∙◌}
use lib.Dec.{leb}
use Prim.Native.Nat.{ℕ}
use mathlib.Core.List.{List}
use Rattle.model.specs.Timestamp.{at_most}
use Rattle.timestamp.proofs.Counts.{at-most-next, at-most-end, part-from}
use Rattle.timestamp.proofs.stamp.counts_at_most.Goals as goal

pub loop-count-preserved : goal.loop-count-preserved
loop-count-preserved c = c.loop-count.invariant ∙ at-most-next _ _ _ _ _ c.loop-count-test.true c.max-most.ensures

pub returns : goal.returns
returns c =
    let a = c.args in
    ap (λ (n : ℕ). leb n a.bound) c.from.ensures
    ∙ sym (c.loop-count.invariant ∙ at-most-end _ _ _ _ c.loop-count-test.false)
    ∙ ap (λ (l : List ℕ). at_most a.bound l) (part-from a.from a.to c.min.result a.kn.now c.requires c.min.ensures)
