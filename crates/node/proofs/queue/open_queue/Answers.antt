-- `node::queue::open_queue` meets its contract: judged, and then without what is overdue. Assumes nothing.
use Prim.Native.Nat.{◌+◌, ◌≤◌, ◌<◌}
use native.Mathlib.Omega.{arith}
use mathlib.Core.Path.{sym, ◌∙◌, ap}
use Rattle.holdback.specs.Queue.{frame_start}
use Rattle.holdback.specs.Starts.{start_unit}
use Rattle.setup.specs.Views.{setup_of}
use Rattle.node.proofs.Places.{size-two, opened, overdue-given, opened-fits}
use Rattle.node.proofs.queue.open_queue.Goals.{After-release-overdue}
use Rattle.node.proofs.queue.open_queue.Goals as goal

pub judge_queue-judged-requires : goal.judge_queue-judged-requires
judge_queue-judged-requires c = record { timed = c.requires.timed; stored = c.requires.stored.0; seen_value = c.requires.seen_value }

pub release-overdue-requires : goal.release-overdue-requires
release-overdue-requires c = record { setup_value = (c.requires.timed.0.limits, c.requires.timed.0.below); sound_by = (c.judge_queue-judged.ensures.sound, (size-two (setup_of c.args.setup) _ c.judge_queue-judged.ensures.size, c.judge_queue-judged.ensures.extent.count-is)); end_value = (c.judge_queue-judged.ensures.extent.ends ∙ ap (frame_start c.args.setup.epsilon _) (sym c.judge_queue-judged.ensures.extent.count-is), omega (arith, c.judge_queue-judged.ensures.size, c.requires.stored.1)); seen_value = (c.judge_queue-judged.ensures.table_is, c.judge_queue-judged.ensures.starts_is) }

-- the figures are in reach
fits : (c : After-release-overdue) → (c.release-overdue.result.index ≤ c.judge_queue-judged.result.count) × ((c.release-overdue.result.at ≤ c.judge_queue-judged.result.end + 2) × (c.judge_queue-judged.result.end < start_unit))
fits c = opened-fits c.requires.timed.0 c.judge_queue-judged.ensures c.release-overdue.ensures

pub overflow_sub-result : goal.overflow_sub-result
overflow_sub-result c = omega (arith, fits (goal.at.overflow_sub-result c).After-release-overdue)

pub overflow_add-result : goal.overflow_add-result
overflow_add-result c = omega (arith, fits (goal.at.overflow_add-result c).After-release-overdue)

pub overflow_sub-result-2 : goal.overflow_sub-result-2
overflow_sub-result-2 c = omega (arith, fits (goal.at.overflow_sub-result-2 c).After-release-overdue)

pub returns : goal.returns
returns c = record { queue_opened = opened c.requires.timed.0 c.judge_queue-judged.ensures c.release-overdue.ensures; overdue_given = overdue-given c.requires.timed.0 c.judge_queue-judged.ensures c.release-overdue.ensures }
