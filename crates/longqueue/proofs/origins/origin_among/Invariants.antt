-- `longqueue::origins::origin_among` meets its contract. The invariant of the loop: one of all frames has the origin if one of those left has. The measure is how many are left. Assumes nothing.
use Rattle.laws.specs.Lists.{any}
use Rattle.model.specs.Holdback.{same_origin}
use Rattle.model.specs.Long.{long_decode}
use Rattle.longqueue.proofs.Searching.{Asked}
use Rattle.longqueue.proofs.origins.origin_among.Given as goal

abbrev pub invariant-loop-rest : goal.invariant-loop-rest
invariant-loop-rest l = Asked l.epsilon (any (same_origin (long_decode l.epsilon l.frame))) l.buf l.at l.left l.from l.rest

abbrev pub decreases-loop-rest : goal.decreases-loop-rest
decreases-loop-rest l = l.rest
