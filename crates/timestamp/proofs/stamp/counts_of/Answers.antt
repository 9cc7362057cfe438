-- `timestamp::stamp::counts_of` meets its contract: the counts are copied, the other places are 0.
-- Assumes nothing.
use Prim.Native.Nat.{◌+◌, ◌-◌}
use mathlib.Core.Path.{◌≡◌, ap, ◌∙◌}
use mathlib.Core.List.{List, ◌++◌}
use native.Mathlib.Omega.{arith}
use lib.ListN.{drop, replicate}
use Prim.Native.Nat.{ℕ}
use Rattle.timestamp.proofs.Counts.{copied-padded}
use Rattle.timestamp.proofs.stamp.counts_of.Goals as goal

pub returns : goal.returns
returns c =
    let a = c.args in
    let e : a.from + a.count - a.from ≡ a.count = omega arith in
    ap (λ (l : List ℕ). l ++ drop a.count (replicate 32 0)) (rw e at c.copy_from_slice.ensures.after)
    ∙ copied-padded 32 a.from a.count a.s.now c.requires.0
