-- `widernode::queue::open_queue` meets its contract: judged, and then without what is overdue. Assumes nothing.
use Prim.Native.Nat.{◌+◌, ◌≤◌}
use native.Mathlib.Omega.{arith}
use Rattle.setup.specs.Views.{setup_of}
use Rattle.node.proofs.Places.{size-two}
use Rattle.widernode.proofs.Places.{opened, overdue-given, opened-fits}
use Rattle.widernode.proofs.queue.open_queue.Goals.{After-release-overdue}
use Rattle.widernode.proofs.queue.open_queue.Goals as goal

pub release-overdue-requires : goal.release-overdue-requires
release-overdue-requires c = record { paired = (c.requires.timed.0.good, c.requires.timed.0.below); sound_by = (record { least = c.args.least; recent = c.requires.timed.1; sound = c.judge_queue-judged.ensures.sound }, (size-two (setup_of c.args.p.after) _ c.judge_queue-judged.ensures.size, c.judge_queue-judged.ensures.extent)); seen_value = (c.judge_queue-judged.ensures.table_is, omega (arith, c.judge_queue-judged.ensures.size, c.requires.holdback_len.1)) }

-- the figures are in reach
fits : (c : After-release-overdue) → (c.release-overdue.result.index ≤ c.judge_queue-judged.result.count) × ((c.release-overdue.result.at ≤ c.judge_queue-judged.result.end + 2) × (c.judge_queue-judged.result.end ≤ 127234))
fits c = opened-fits c.requires.timed.0 c.judge_queue-judged.ensures c.release-overdue.ensures

pub overflow_sub-result : goal.overflow_sub-result
overflow_sub-result c = omega (arith, fits (goal.at.overflow_sub-result c).After-release-overdue)

pub overflow_add-result : goal.overflow_add-result
overflow_add-result c = omega (arith, fits (goal.at.overflow_add-result c).After-release-overdue)

pub overflow_sub-result-2 : goal.overflow_sub-result-2
overflow_sub-result-2 c = omega (arith, fits (goal.at.overflow_sub-result-2 c).After-release-overdue)

pub returns : goal.returns
returns c = record { queue_opened = opened c.requires.timed.0 c.judge_queue-judged.ensures c.release-overdue.ensures; overdue_given = overdue-given c.requires.timed.0 c.judge_queue-judged.ensures c.release-overdue.ensures }
