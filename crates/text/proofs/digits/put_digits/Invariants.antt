-- `text::digits::put_digits` meets its contract. The invariant of its loop: the last digits are pasted, and those left are the first ones, of the rest. Assumes nothing.
use mathlib.Core.Path.{◌≡◌}
use lib.ListN.{take}
use Rattle.splice.proofs.Laws.{Pasting}
use Rattle.text.specs.Text.{digits}
use Rattle.text.proofs.digits.put_digits.Given as goal

abbrev pub invariant-loop-i : goal.invariant-loop-i
invariant-loop-i l = Pasting l.initial.buf l.at (digits l.base l.count l.x) l.i l.count l.buf × (take l.i (digits l.base l.count l.x) ≡ digits l.base l.i l.rest)
