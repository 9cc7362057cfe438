-- `frame::form::later_formed` meets its contract. Assumes nothing.
use mathlib.Core.Path.{sym}
use native.Mathlib.Omega.{arith}
use Rattle.frame.proofs.Shape.{second-wrong, third-wrong, nothing-over}
use Rattle.frame.proofs.form.later_formed.Goals as goal

pub returns-then-byte_at-epsilon : goal.returns-then-byte_at-epsilon
returns-then-byte_at-epsilon c = sym (second-wrong c.args.epsilon c.args.s.now (omega arith))

pub returns-then-byte_at-gt-LONGEST_PAYLOAD : goal.returns-then-byte_at-gt-LONGEST_PAYLOAD
returns-then-byte_at-gt-LONGEST_PAYLOAD c = sym (third-wrong c.args.epsilon c.args.s.now (omega arith) (omega arith))

pub returns : goal.returns
returns c = rw (nothing-over c.args.epsilon c.args.s.now (omega arith) (omega arith), c.frame_end.ensures)
