-- `replay::read_tick` meets its contract. The invariant of its loop: the bytes so far are of one tick, which ends no earlier than they say. Assumes nothing.
use Rattle.std.proofs.Common.{length, ◌-◌}
use Rattle.trace.specs.Trace.{tick_end, longest_tick}
use Rattle.input.proofs.Coming.{Coming}
use Rattle.replay.proofs.read_tick.Given as goal

abbrev pub invariant-loop-used : goal.invariant-loop-used
invariant-loop-used g l = Coming tick_end longest_tick l.initial.bytes l.bytes l.used l.end

abbrev pub decreases-loop-used : goal.decreases-loop-used
decreases-loop-used g l = length l.initial.bytes - l.used
