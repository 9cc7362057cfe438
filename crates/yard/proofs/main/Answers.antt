-- `yard::main` is safe and ends. Assumes nothing.
use Prim.Native.Nat.{◌≤◌}
use mathlib.Core.Path.{sym}
use mathlib.Core.List.{[]}
use native.Mathlib.Omega.{arith}
use lib.ListN.{length, replicate}
use lib.Seq.{length-take-le}
use Rattle.trace.specs.Replay.{stopped}
use Rattle.trace.proofs.Putting.{end-within}
use Rattle.yard.proofs.main.Goals.{After-put_stopped-size}
use Rattle.yard.proofs.main.Goals as goal

within : (c : After-put_stopped-size) → c.put_stopped-size.result ≤ length c.put_stopped-size.new.buf
within c = omega (arith, c.put_stopped-size.ensures.value, end-within (replicate 16 0) 0 (stopped c.rehearse.result []), c.put_stopped-size.auto.buf)

pub slice_bounds-line-end : goal.slice_bounds-line-end
slice_bounds-line-end c = within (goal.at.slice_bounds-line-end c).After-put_stopped-size

pub slice_bounds-write_all-end : goal.slice_bounds-write_all-end
slice_bounds-write_all-end c = sym (length-take-le _ _ (within (goal.at.slice_bounds-write_all-end c).After-put_stopped-size))
