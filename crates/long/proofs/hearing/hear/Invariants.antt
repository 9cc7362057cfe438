-- `long::hearing::hear` meets its contract. Assumes nothing.
use Prim.Native.Nat.{◌-◌}
use Rattle.model.specs.Long.{long_held}
use Rattle.setup.specs.Views.{setup_of}
use Rattle.timestamp.specs.Views.{stamp_of}
use Rattle.node.proofs.StampTurns.{StampTurning}
use Rattle.long.specs.States.{heard_with}
use Rattle.long.proofs.Turns.{QueueTurning, share}
use Rattle.long.proofs.hearing.hear.Given as goal

-- the two halves: what is held, and what goes into the stamp
abbrev pub invariant-loop-i : goal.invariant-loop-i
invariant-loop-i l =
    QueueTurning (setup_of l.setup) l.clock l.batch l.initial.holdback l.initial.verdicts l.taken l.held l.stop l.at l.i l.holdback l.verdicts
    × StampTurning (share (setup_of l.setup) l.clock) l.setup.epsilon (stamp_of l.initial.absorbed) l.batch (heard_with (setup_of l.setup) l.clock (long_held l.setup.epsilon l.initial.holdback) l.batch).verdicts (stamp_of l.absorbed) l.at l.i

abbrev pub decreases-loop-i : goal.decreases-loop-i
decreases-loop-i l = l.entries - l.i
