-- `widernode::hearing::hear` meets its contract. Assumes nothing.
use Prim.Native.Nat.{◌-◌}
use Rattle.model.specs.Schedule.{own_limits}
use Rattle.timestamp.specs.Views.{stamp_of}
use Rattle.pairs.specs.Views.{schedule_of}
use Rattle.node.proofs.StampTurns.{StampTurning}
use Rattle.widernode.specs.States.{heard_all}
use Rattle.widernode.proofs.Turns.{QueueTurning, share}
use Rattle.widernode.proofs.hearing.hear.Given as goal

-- the two halves: what goes on the queue, and what goes into the stamp
abbrev pub invariant-loop-i : goal.invariant-loop-i
invariant-loop-i l =
    QueueTurning l.listens (schedule_of l.p) l.clock l.batch l.initial.holdback l.initial.verdicts l.taken l.held l.stop l.at l.i l.holdback l.seen l.verdicts
    × StampTurning (share l.listens (schedule_of l.p) l.clock) (own_limits (schedule_of l.p)).epsilon (stamp_of l.initial.absorbed) l.batch (heard_all l.listens (schedule_of l.p) l.clock l.batch l.initial.holdback).verdicts (stamp_of l.absorbed) l.at l.i

abbrev pub decreases-loop-i : goal.decreases-loop-i
decreases-loop-i l = l.entries - l.i
