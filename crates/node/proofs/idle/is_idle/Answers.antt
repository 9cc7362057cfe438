-- `node::idle::is_idle` meets its contract. Assumes nothing.
use Rattle.node.proofs.Nothing.{idle-frames, idle-entries}
use Rattle.node.proofs.idle.is_idle.Goals as goal

pub returns-then-two_at-ne0 : goal.returns-then-two_at-ne0
returns-then-two_at-ne0 c = idle-frames c.args.batch.now c.args.holdback.now c.two_at.ensures c.if-two_at-ne0.true

pub returns : goal.returns
returns c = idle-entries c.args.batch.now c.args.holdback.now c.two_at.ensures c.if-two_at-ne0.false c.count_of.ensures
