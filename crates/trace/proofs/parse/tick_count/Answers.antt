-- `trace::parse::tick_count` meets its contract. Assumes nothing.
use Rattle.trace.specs.Trace.{tick_count}
use Rattle.trace.proofs.parse.tick_count.Goals as goal

pub returns : goal.returns
unfolding tick_count
returns c = c.two_at.ensures
