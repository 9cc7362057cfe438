-- `words::lines::put_lines` meets its contract. The invariant of its loop: the lines of the entries before `position` are written, and the walk goes on at the others. Assumes nothing.
use Prim.Native.Nat.{◌-◌}
use Rattle.setup.specs.Views.{setup_of}
use Rattle.words.proofs.Writing.{Lining}
use Rattle.words.proofs.lines.put_lines.Given as goal

abbrev pub invariant-loop-position : goal.invariant-loop-position
invariant-loop-position l = Lining (setup_of l.setup) l.batch l.verdicts l.initial.text l.position l.at l.end l.text

abbrev pub decreases-loop-position : goal.decreases-loop-position
decreases-loop-position l = l.count - l.position
