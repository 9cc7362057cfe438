-- `holdback::origins::clear_marks` meets its contract. The invariant of its loop: `k` zeros are pasted. The measure is how many are left. Assumes nothing.
use Rattle.std.proofs.Common.{◌-◌}
use Rattle.splice.specs.Bytes.{zeros}
use Rattle.splice.proofs.Laws.{Pasting}
use Rattle.holdback.specs.Seen.{table_length}
use Rattle.holdback.proofs.origins.clear_marks.Given as goal

abbrev pub invariant-loop-k : goal.invariant-loop-k
invariant-loop-k l = Pasting l.initial.seen 0 (zeros table_length) 0 l.k l.seen

abbrev pub decreases-loop-k : goal.decreases-loop-k
decreases-loop-k l = table_length - l.k
