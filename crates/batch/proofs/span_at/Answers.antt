-- `batch::span_at` meets its contract. Assumes nothing.
use native.Mathlib.Omega.{arith}
use mathlib.Core.Path.{◌≡◌}
use Prim.Native.Nat.{◌+◌, min}
use lib.ListN.{length}
use Rattle.batch.specs.Walk.{entry_span_at}
use Rattle.batch.proofs.span_at.Goals as goal

pub returns : goal.returns
unfolding entry_span_at
returns c =
    let start : c.min.result ≡ min (c.args.at + 1) (length c.args.batch.now) = omega arith in
    λ i. record { start = start i; end = c.next_at.ensures i }
