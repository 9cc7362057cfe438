-- `long::opening::clock_sound` meets its contract. Assumes nothing.
use Rattle.long.proofs.Tables.{clock-past, clock-ahead, clock-near}
use Rattle.long.proofs.opening.clock_sound.Goals as goal

pub returns-then-r-ge-BOUND : goal.returns-then-r-ge-BOUND
returns-then-r-ge-BOUND c = clock-past c.args.epsilon c.args.clock c.args.r c.if-r-ge-BOUND.true

pub returns-then-clock-r : goal.returns-then-clock-r
returns-then-clock-r c = clock-ahead c.args.epsilon c.args.clock c.args.r c.if-clock-r.true

pub returns : goal.returns
returns c = clock-near c.args.epsilon c.args.clock c.args.r c.if-r-ge-BOUND.false c.if-clock-r.false
