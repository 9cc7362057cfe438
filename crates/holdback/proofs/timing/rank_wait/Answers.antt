-- `holdback::timing::rank_wait` meets its contract: the due clock is not before v. Assumes nothing.
use Rattle.std.proofs.Common.{arith}
use Rattle.setup.specs.Views.{setup_of}
use Rattle.model.specs.Timestamp.{sum}
use Rattle.model.specs.Order.{due}
use Rattle.holdback.specs.Starts.{rank_wait}
use Rattle.holdback.proofs.Testing.{rank-past}
use Rattle.holdback.proofs.timing.rank_wait.Goals as goal

pub overflow_sub-result : goal.overflow_sub-result
overflow_sub-result c = omega (arith, c.sum_due.ensures, rank-past (setup_of c.args.setup) c.args.setup.modulus c.args.rank c.requires.reading_bound.1.1)

pub returns : goal.returns
unfolding rank_wait due sum
returns c = omega (arith, c.sum_due.ensures)
