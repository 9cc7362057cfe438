-- `batch::entry_at` meets its contract. Assumes nothing.
use native.Mathlib.Omega.{arith}
use mathlib.Core.Path.{◌∙◌}
use Rattle.batch.proofs.Walk.{entry-from}
use Rattle.batch.proofs.entry_at.Goals as goal

pub returns : goal.returns
returns c =
    c.part.ensures
    ∙ rw (← c.byte_at-size.ensures, ← c.from.ensures) at (entry-from c.args.batch.now c.args.at c.saturating_add.result (λ h. omega arith))
