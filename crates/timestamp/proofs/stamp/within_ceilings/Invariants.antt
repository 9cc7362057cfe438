-- `timestamp::stamp::within_ceilings` meets its contract: the loop's invariant: the answer so far is that of the counts passed.
-- Assumes nothing.
use mathlib.Core.Path.{◌≡◌}
use lib.ListN.{take}
use Rattle.timestamp.specs.Views.{within_ceilings}
use Rattle.timestamp.proofs.stamp.within_ceilings.Given as goal

abbrev pub invariant-loop-index : goal.invariant-loop-index
invariant-loop-index l = l.fine ≡ within_ceilings l.n l.top (take l.index l.kn)
