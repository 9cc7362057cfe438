-- `holdback::keys::older_counts` meets its contract: where ε is at most 8, there are no older counts. Assumes nothing.
use Rattle.std.proofs.Common.{sym}
use Rattle.model.specs.Frame.{counts_of}
use Rattle.holdback.proofs.Newest.{none-older}
use Rattle.holdback.proofs.keys.older_counts.Goals as goal

pub returns-then-epsilon-le8 : goal.returns-then-epsilon-le8
returns-then-epsilon-le8 c = sym (none-older c.args.epsilon c.args.c (counts_of c.args.epsilon c.args.frame.now) c.if-epsilon-le8.true)
