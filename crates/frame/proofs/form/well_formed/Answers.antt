-- `frame::form::well_formed` meets its contract. Assumes nothing.
use native.Mathlib.Omega.{arith}
use lib.ListN.{get_or}
use borrow.Author.Tests.{eq-eqb, ne_eqb}
use Rattle.model.specs.Frame.{well_formed}
use Rattle.frame.proofs.form.well_formed.Goals as goal

pub returns-then-byte_at-ne-NODE_SIZE : goal.returns-then-byte_at-ne-NODE_SIZE
unfolding well_formed
returns-then-byte_at-ne-NODE_SIZE c = rw (ne_eqb (get_or c.args.s.now 0 0) 3 (omega arith))

pub returns : goal.returns
unfolding well_formed
returns c = rw (eq-eqb (get_or c.args.s.now 0 0) 3 (omega arith)) c.later_formed.ensures
