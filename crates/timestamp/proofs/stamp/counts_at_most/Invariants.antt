-- `timestamp::stamp::counts_at_most` meets its contract: the loop's invariant: the test of the whole part is that of the largest count passed and of what is left.
-- Assumes nothing.
use mathlib.Core.Path.{◌≡◌}
use mathlib.Core.Bool.{◌&&◌}
use lib.Dec.{leb}
use lib.ListN.{drop}
use Rattle.model.specs.Timestamp.{at_most}
use Rattle.timestamp.proofs.stamp.counts_at_most.Given as goal

abbrev pub invariant-loop-count : goal.invariant-loop-count
invariant-loop-count l = at_most l.bound l.count-items ≡ (leb l.most l.bound && at_most l.bound (drop l.count-index l.count-items))
