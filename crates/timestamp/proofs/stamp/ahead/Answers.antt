-- `timestamp::stamp::ahead` meets its contract: for clocks below B one turn of B is enough.
-- Assumes nothing.
use Rattle.timestamp.proofs.Readings.{ahead-from, ahead-round}
use Rattle.timestamp.proofs.stamp.ahead.Goals as goal

pub returns-then-clock-r : goal.returns-then-clock-r
returns-then-clock-r c = ahead-from c.args.modulus c.args.clock c.args.r c.if-clock-r.true c.requires.1.1

pub returns-else-clock-r : goal.returns-else-clock-r
returns-else-clock-r c = ahead-round c.args.modulus c.args.clock c.args.r c.if-clock-r.false c.requires.1.0
