-- `batch::walker::Walker::step` meets its contract. Assumes nothing.
use Rattle.std.proofs.Common.{ap}
use Rattle.batch.specs.Walk.{entry_span_at}
use Rattle.batch.proofs.walker.Walker.step.Goals as goal

pub returns-clause-next : goal.returns-clause-next
unfolding entry_span_at
returns-clause-next c = ap (λ s. record { src = c.args.self.now.src; at = s.end }) c.span_at-span.ensures
