-- `timestamp::stamp::raise` meets its contract: the loop's invariant: the counts are raised by those of the others that are passed.
-- Assumes nothing.
use mathlib.Core.Path.{◌≡◌}
use lib.ListN.{take, drop}
use Rattle.laws.specs.Lists.{tab}
use Rattle.timestamp.specs.Views.{raised_at}
use Rattle.timestamp.proofs.stamp.raise.Given as goal

abbrev pub invariant-loop-i : goal.invariant-loop-i
invariant-loop-i l = l.own ≡ tab 32 (raised_at l.to l.initial.own (take l.i (drop l.from l.other)))
