-- `node::queue::judge_queue` meets its contract. Assumes nothing.
use mathlib.Core.Path.{sym, ◌∙◌}
use native.Mathlib.Omega.{arith}
use lib.ListN.{length}
use Rattle.setup.specs.Views.{setup_of}
use Rattle.node.proofs.Places.{size-two, judged-sound, judged-empty}
use Rattle.node.proofs.queue.judge_queue.Goals as goal

pub sound-walk-requires : goal.sound-walk-requires
sound-walk-requires c = record { setup_value = (c.requires.timed.0.limits, (c.requires.timed.0.below, c.requires.timed.1)); setup_in_bounds = (omega (arith, c.requires.stored.size), c.requires.seen_value) }

pub returns-then-walk : goal.returns-then-walk
returns-then-walk c = judged-sound (setup_of c.args.setup) c.args.clock c.args.least c.args.holdback.now c.requires.timed.0 c.requires.timed.1 c.requires.stored.size (sym c.sound-walk.ensures.sound-is ∙ c.if-walk.true) c.sound-walk.ensures.count-is c.sound-walk.ensures.stop_is c.sound-walk.ensures.table_is c.sound-walk.ensures.starts_is

pub empty-requires : goal.empty-requires
empty-requires c = size-two (setup_of c.args.setup) (length c.args.holdback.now) c.requires.stored.size

pub returns : goal.returns
returns c = judged-empty (setup_of c.args.setup) c.args.clock c.args.least c.args.holdback.now c.requires.timed.0 c.requires.timed.1 c.requires.stored.size (sym c.sound-walk.ensures.sound-is ∙ c.if-walk.false) c.sound-walk.ensures.count-is c.sound-walk.ensures.stop_is c.sound-walk.ensures.table_is c.sound-walk.ensures.starts_is c.empty.ensures
