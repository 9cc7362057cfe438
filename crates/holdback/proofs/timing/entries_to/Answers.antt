-- `holdback::timing::entries_to` meets its contract: a sum that is due before v has no place. Assumes nothing.
use Rattle.std.proofs.Common.{arith}
use Rattle.holdback.specs.Starts.{entries_to}
use Rattle.holdback.proofs.timing.entries_to.Goals as goal

pub returns-then-next-modulus : goal.returns-then-next-modulus
unfolding entries_to
returns-then-next-modulus c = let low = c.if-next-modulus.true in omega (arith, c.sum_due-next.ensures)

pub returns : goal.returns
unfolding entries_to
returns c = omega (arith, c.sum_due-next.ensures)
