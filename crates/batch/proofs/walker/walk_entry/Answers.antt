-- `batch::walker::walk_entry` meets its contract: the entry starts where the walker's step says, and ends where it goes on. Assumes nothing.
use Rattle.std.proofs.Common.{ap, ap₂}
use Rattle.batch.specs.Walk.{entry_span_at}
use Rattle.batch.proofs.walker.walk_entry.Goals as goal

pub returns : goal.returns
unfolding entry_span_at
returns c = ap₂ (λ s e. record { start = s; end = e }) (ap (λ s. s.start) c.step-start.ensures.entry) (ap (λ w. w.at) c.step-start.ensures.next)
