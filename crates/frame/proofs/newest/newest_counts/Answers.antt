-- `frame::newest::newest_counts` meets its contract: eight bytes are read, and those that are none of the counts are shifted out. Assumes nothing.
use native.Mathlib.Omega.{arith}
use Rattle.model.specs.Setup.{width}
use Rattle.model.specs.Frame.{payload_count_at}
use Rattle.frame.proofs.Digits.{newest-read}
use Rattle.frame.proofs.newest.newest_counts.Goals as goal

pub eight_at-requires : goal.eight_at-requires
unfolding payload_count_at width
eight_at-requires c = omega (arith, c.requires.epsilon_bound.1, c.requires.c_lt_epsilon.0, c.requires.c_lt_epsilon.1)

pub returns : goal.returns
returns c = newest-read c.args.epsilon c.args.c c.args.k c.eight_at.result c.left_out.result c.args.s.now c.requires.c_lt_epsilon.0 c.requires.c_lt_epsilon.1 (λ i. omega (arith, c.shared_slice_known-1.given i)) c.eight_at.ensures c.left_out.ensures
