-- `replay::play_ticks` meets its contract. The invariant of its loop: what the ticks so far left is that of playing them by turns. Assumes nothing.
use Rattle.std.proofs.Common.{◌-◌}
use Rattle.trace.specs.Views.{node_setup_of}
use Rattle.replay.proofs.Running.{Going}
use Rattle.replay.proofs.play_ticks.Given as goal

abbrev pub invariant-loop-station : goal.invariant-loop-station
invariant-loop-station g l =
    Going (node_setup_of l.node) l.ticks l.initial.holdback l.initial.bytes l.initial.text l.holdback l.bytes l.text l.station

abbrev pub decreases-loop-station : goal.decreases-loop-station
decreases-loop-station g l = l.ticks - l.station.ticks
