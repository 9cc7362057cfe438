-- `widerqueue::timing::timely` meets its contract: the sum by the limits of v, then its due clock. Assumes nothing.
use native.Mathlib.Omega.{arith}
use mathlib.Core.Path.{ap, ◌∙◌}
use lib.Dec.{leb}
use Rattle.model.specs.Setup.{Setup}
use Rattle.setup.specs.Views.{setup_of}
use Rattle.pairs.specs.Views.{schedule_of}
use Rattle.widerqueue.proofs.Shared.{own-good}
use Rattle.widerqueue.proofs.Times.{timely-no, timely-by}
use Rattle.widerqueue.proofs.timing.timely.Goals as goal

pub overflow_sub-own : goal.overflow_sub-own
overflow_sub-own c =
    let g = schedule_of c.args.p in
    omega (arith, (own-good g c.requires.0).epsilon-pos, ap (λ (u : Setup). u.epsilon) c.own_limits-own.ensures)

pub returns-then-own-sum : goal.returns-then-own-sum
returns-then-own-sum c = timely-no (schedule_of c.args.p) c.requires.0 c.args.least c.args.sum (setup_of c.own_limits-own.result) c.own_limits-own.ensures c.if-own-sum.true

pub returns : goal.returns
returns c =
    ap (leb c.args.least) c.due_along.ensures
    ∙ timely-by (schedule_of c.args.p) c.requires.0 c.args.least c.args.sum (setup_of c.own_limits-own.result) c.own_limits-own.ensures c.if-own-sum.false
