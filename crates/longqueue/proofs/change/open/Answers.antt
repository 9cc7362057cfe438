-- `longqueue::change::open` meets its contract: the queue as it is, or emptied. Assumes nothing.
use native.Mathlib.Omega.{arith}
use Rattle.setup.specs.Views.{setup_of}
use Rattle.longqueue.proofs.Extents.{size-two}
use Rattle.longqueue.proofs.Judging.{opening-sound, opening-emptied}
use Rattle.longqueue.proofs.change.open.Goals as goal

pub returns-then-walk : goal.returns-then-walk
returns-then-walk c = opening-sound (setup_of c.args.setup) c.args.clock c.args.least c.args.buf.now c.sound-walk.ensures c.if-walk.true

pub empty-requires : goal.empty-requires
empty-requires c = omega (arith, c.requires.buf_len, size-two (setup_of c.args.setup))

pub returns : goal.returns
returns c = opening-emptied (setup_of c.args.setup) c.args.clock c.args.least c.args.buf.now c.sound-walk.ensures c.if-walk.false c.requires.buf_len _ c.empty.ensures
