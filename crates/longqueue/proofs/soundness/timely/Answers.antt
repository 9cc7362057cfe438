-- `longqueue::soundness::timely` meets its contract: by r + c, once for both tests. Assumes nothing.
use Prim.Native.Nat.{◌<◌}
use native.Mathlib.Omega.{arith}
use mathlib.Core.Path.{◌≡◌}
use Rattle.model.specs.Long.{long_bound, long_decode}
use Rattle.setup.specs.Views.{setup_of}
use Rattle.lemmas.proofs.Questions.{long-limits-from}
use Rattle.longqueue.proofs.Judging.{lead_is, passes-small, passes-there, untimely, timely-rest}
use Rattle.longqueue.proofs.soundness.timely.Goals.{After-c_of}
use Rattle.longqueue.proofs.soundness.timely.Goals as goal

pub r_of-requires : goal.r_of-requires
r_of-requires c = passes-there (setup_of c.args.setup) c.args.clock c.args.least c.args.frame.now c.requires.frame_value

-- c of the stamp, and both in their bounds
lead : (c : After-c_of) → c.c_of.result ≡ (long_decode c.args.setup.epsilon c.args.frame.now).stamp.c
lead c = lead_is c.args.setup.epsilon _ c.args.frame.now c.c_of.result c.six_on.ensures (c.c_of.ensures c.args.setup.epsilon)

small : (c : After-c_of) → (c.r_of.result < long_bound) × (c.c_of.result < c.args.setup.epsilon)
small c =
    let s = setup_of c.args.setup in
    let own = passes-small s c.args.clock c.args.least c.args.frame.now (long-limits-from s c.requires.setup_value.0).epsilon-pos c.requires.frame_value in
    (omega (arith, own.0, c.r_of.ensures c.args.setup.epsilon), omega (arith, own.1, lead c))

pub overflow_add-sum : goal.overflow_add-sum
overflow_add-sum c =
    let limits = long-limits-from (setup_of c.args.setup) c.requires.setup_value.0 in
    omega (arith, small (goal.at.overflow_add-sum c).After-c_of)

pub overflow_sub-epsilon : goal.overflow_sub-epsilon
overflow_sub-epsilon c = (long-limits-from (setup_of c.args.setup) c.requires.setup_value.0).epsilon-pos

pub overflow_add-clock : goal.overflow_add-clock
overflow_add-clock c =
    let limits = long-limits-from (setup_of c.args.setup) c.requires.setup_value.0 in
    omega arith

pub returns-then-clock-epsilon : goal.returns-then-clock-epsilon
returns-then-clock-epsilon c = untimely (setup_of c.args.setup) c.args.clock c.args.least c.args.frame.now _ _ (c.r_of.ensures c.args.setup.epsilon) (lead (goal.at.returns-then-clock-epsilon c).After-c_of) c.if-clock-epsilon.true

pub sum_due-requires : goal.sum_due-requires
sum_due-requires c =
    let limits = long-limits-from (setup_of c.args.setup) c.requires.setup_value.0 in
    omega (arith, small (goal.at.sum_due-requires c).After-c_of, limits.epsilon-most)

pub returns : goal.returns
returns c = timely-rest (setup_of c.args.setup) c.args.clock c.args.least c.args.frame.now _ _ (c.r_of.ensures c.args.setup.epsilon) (lead (goal.at.returns c).After-c_of) c.if-clock-epsilon.false c.sum_due.ensures
