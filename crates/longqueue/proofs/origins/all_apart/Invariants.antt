-- `longqueue::origins::all_apart` meets its contract. The invariant of the loop: all frames are apart if those left are. The measure is how many are left. Assumes nothing.
use Rattle.laws.specs.Lists.{apart}
use Rattle.model.specs.Holdback.{same_origin}
use Rattle.longqueue.proofs.Searching.{Asked}
use Rattle.longqueue.proofs.origins.all_apart.Given as goal

abbrev pub invariant-loop-left : goal.invariant-loop-left
invariant-loop-left l = Asked l.epsilon (apart same_origin) l.buf 2 l.count l.at l.left

abbrev pub decreases-loop-left : goal.decreases-loop-left
decreases-loop-left l = l.left
