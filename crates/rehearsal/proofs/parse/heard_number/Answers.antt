-- `rehearsal::parse::heard_number` meets its contract. Assumes nothing.
use Prim.Native.Nat.{◌+◌, ◌*◌}
use native.Mathlib.Omega.{arith}
use Rattle.trace.proofs.Ticks.{two-small}
use Rattle.rehearsal.proofs.Steps.{heard-number-is}
use Rattle.rehearsal.proofs.parse.heard_number.Goals as goal

pub returns : goal.returns
returns c =
    let args = c.args in (
      heard-number-is args.s.now c.heard_at.result args.i c.two_at.result c.heard_at.ensures.0 c.two_at.ensures,
      omega (arith, c.two_at.ensures, two-small args.s.now (c.heard_at.result + 1 + 2 * args.i) (λ i. omega (arith, c.shared_slice_known-1.given i))),
    )
