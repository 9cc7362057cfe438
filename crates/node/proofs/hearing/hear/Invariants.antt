-- `node::hearing::hear` meets its contract. Assumes nothing.
use Prim.Native.Nat.{◌-◌}
use Rattle.setup.specs.Views.{setup_of}
use Rattle.timestamp.specs.Views.{stamp_of}
use Rattle.node.specs.States.{heard_all}
use Rattle.node.proofs.StampTurns.{StampTurning, absorbed_one}
use Rattle.node.proofs.Turns.{QueueTurning}
use Rattle.node.proofs.hearing.hear.Given as goal

-- the two halves: what goes on the queue, and what goes into the stamp
abbrev pub invariant-loop-i : goal.invariant-loop-i
invariant-loop-i l =
    QueueTurning l.listens (setup_of l.setup) l.clock l.batch l.initial.holdback l.initial.verdicts l.taken l.held l.stop l.at l.i l.holdback l.seen l.starts l.verdicts
    × StampTurning (absorbed_one l.listens (setup_of l.setup) l.clock) l.setup.epsilon (stamp_of l.initial.absorbed) l.batch (heard_all l.listens (setup_of l.setup) l.clock l.batch l.initial.holdback).verdicts (stamp_of l.absorbed) l.at l.i

abbrev pub decreases-loop-i : goal.decreases-loop-i
decreases-loop-i l = l.entries - l.i
