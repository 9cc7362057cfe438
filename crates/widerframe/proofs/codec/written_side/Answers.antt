-- `widerframe::codec::written_side` meets its contract. Assumes nothing.
use Rattle.widerframe.proofs.codec.written_side.Goals as goal

pub returns-then-wide : goal.returns-then-wide
returns-then-wide c = rw c.if-wide.true c.wider_setup.ensures

pub returns : goal.returns
returns c = rw c.if-wide.false
