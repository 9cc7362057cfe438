-- `widernode::queue::judge_queue` meets its contract. Assumes nothing.
use native.Mathlib.Omega.{arith}
use mathlib.Core.Path.{sym, ◌∙◌}
use lib.ListN.{length}
use Rattle.setup.specs.Views.{setup_of}
use Rattle.pairs.specs.Views.{schedule_of}
use Rattle.node.proofs.Places.{size-two}
use Rattle.widernode.proofs.Places.{judged-sound, judged-empty}
use Rattle.widernode.proofs.queue.judge_queue.Goals as goal

pub sound-walk-requires : goal.sound-walk-requires
sound-walk-requires c = record { paired = (c.requires.timed.0.good, (c.requires.timed.0.below, c.requires.timed.1)); p_in_bounds = (omega (arith, c.requires.holdback_len.0), c.requires.holdback_len.1) }

pub returns-then-walk : goal.returns-then-walk
returns-then-walk c = judged-sound (schedule_of c.args.p) c.args.clock c.args.least c.args.holdback.now c.requires.timed.0 c.requires.holdback_len.0 c.sound-walk.ensures (sym c.sound-walk.ensures.sound-is ∙ c.if-walk.true)

pub empty-requires : goal.empty-requires
empty-requires c = size-two (setup_of c.args.p.after) (length c.args.holdback.now) c.requires.holdback_len.0

pub returns : goal.returns
returns c = judged-empty (schedule_of c.args.p) c.args.clock c.args.least c.args.holdback.now c.requires.timed.0 c.requires.holdback_len.0 c.sound-walk.ensures (sym c.sound-walk.ensures.sound-is ∙ c.if-walk.false) c.empty.ensures
