-- `batch::exact` meets its contract. The invariant: the whole batch is exact if `rest` ends after as many entries as are left. Assumes nothing.
use Prim.Native.Nat.{◌-◌}
use mathlib.Core.Path.{◌≡◌}
use Rattle.model.specs.Batch.{exact_batch, ends_after}
use Rattle.batch.proofs.exact.Given as goal

abbrev pub invariant-loop : goal.invariant-loop
invariant-loop l = exact_batch l.batch ≡ ends_after (l.end - l.counter) l.rest
