-- `holdback::change::empty` meets its contract: `splice::clear` over the whole buffer leaves the empty queue. Assumes nothing.
use Rattle.std.proofs.Common.{◌∙◌}
use Rattle.holdback.proofs.Changes.{cleared-empty}
use Rattle.holdback.proofs.change.empty.Goals as goal

pub returns : goal.returns
returns c = c.clear.ensures ∙ cleared-empty c.args.buf.now c.requires
