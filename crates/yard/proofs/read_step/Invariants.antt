-- `yard::read_step` meets its contract. The invariant of its loop: the bytes so far are of one step, which ends no earlier than they say. Assumes nothing.
use Rattle.std.proofs.Common.{length, ◌-◌}
use Rattle.rehearsal.specs.Step.{step_end, longest_step}
use Rattle.input.proofs.Coming.{Coming}
use Rattle.yard.proofs.read_step.Given as goal

abbrev pub invariant-loop-used : goal.invariant-loop-used
invariant-loop-used g l = Coming step_end longest_step l.initial.bytes l.bytes l.used l.end

abbrev pub decreases-loop-used : goal.decreases-loop-used
decreases-loop-used g l = length l.initial.bytes - l.used
