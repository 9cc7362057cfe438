-- `yard::rehearse_steps` meets its contract. The invariant of its loop: what the steps so far left is that of taking them one by one. Assumes nothing.
use Rattle.std.proofs.Common.{◌-◌}
use Rattle.setup.specs.Views.{setup_of}
use Rattle.yard.proofs.Running.{Going}
use Rattle.yard.proofs.rehearse_steps.Given as goal

abbrev pub invariant-loop-group : goal.invariant-loop-group
invariant-loop-group g l =
    Going (setup_of l.setup) l.steps l.initial.holdbacks l.initial.slots l.initial.bytes l.initial.text l.holdbacks l.slots l.bytes l.text l.group l.figures

abbrev pub decreases-loop-group : goal.decreases-loop-group
decreases-loop-group g l = l.steps - l.group.steps
