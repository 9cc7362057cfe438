-- `trace::parse::read_setup` meets its contract. Assumes nothing.
use Rattle.trace.proofs.Ticks.{two-small, setup-read}
use native.Mathlib.Omega.{arith}
use Rattle.trace.proofs.parse.read_setup.Goals as goal

pub overflow_cast-setup-4 : goal.overflow_cast-setup-4
overflow_cast-setup-4 c = omega (arith, c.two_at.ensures, two-small c.args.s.now 3 (λ i. omega (arith, c.shared_slice_known-1.given i)))

pub returns : goal.returns
returns c = setup-read c.args.s.now c.byte_at.ensures c.byte_at-2.ensures c.byte_at-3.ensures c.two_at.ensures c.byte_at-4.ensures
