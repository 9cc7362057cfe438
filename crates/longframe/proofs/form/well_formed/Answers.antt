-- `longframe::form::well_formed` meets its contract. Assumes nothing.
use mathlib.Core.Path.{◌∙◌, ap}
use native.Mathlib.Omega.{arith}
use lib.ListN.{get_or}
use borrow.Author.Tests.{eq-eqb, ne_eqb}
use Rattle.model.specs.Frame.{later_formed}
use Rattle.model.specs.Long.{long_formed}
use Rattle.longframe.proofs.form.well_formed.Goals as goal

pub returns-then-byte_at-ne-NODE_SIZE : goal.returns-then-byte_at-ne-NODE_SIZE
unfolding long_formed
returns-then-byte_at-ne-NODE_SIZE c = rw (ne_eqb (get_or c.args.s.now 0 0) 9 (omega arith))

pub returns : goal.returns
unfolding long_formed
returns c =
    let a = c.args in
    rw (eq-eqb (get_or a.s.now 0 0) 9 (omega arith)) (c.later_formed.ensures ∙ ap (later_formed a.epsilon) c.six_on.ensures)
