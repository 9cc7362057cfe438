-- `widernode::ticking::tables_sound` meets its contract. Assumes nothing.
use Prim.Native.Nat.{◌<◌}
use native.Mathlib.Omega.{arith}
use mathlib.Core.Path.{◌≡◌, sym, ◌∙◌}
use mathlib.Core.Bool.{true}
use borrow.Author.Tests.{not-true, not-false}
use Rattle.model.specs.Timestamp.{sound_clock}
use Rattle.setup.specs.Views.{setup_of}
use Rattle.timestamp.specs.Views.{stamp_of}
use Rattle.pairs.specs.Views.{schedule_of}
use Rattle.widerqueue.proofs.Shared.{own_below}
use Rattle.widernode.proofs.Times.{Own, own-facts}
use Rattle.widernode.proofs.Tables.{last-below, half-limits, tables-late, tables-timely}
use Rattle.widernode.proofs.ticking.tables_sound.Goals.{After-own_limits-own, Else-not-clock_sound}
use Rattle.widernode.proofs.ticking.tables_sound.Goals as goal

own : (c : After-own_limits-own) → Own (schedule_of c.args.p) (setup_of c.own_limits-own.result)
own c = own-facts (schedule_of c.args.p) c.requires.good c.own_limits-own.ensures

-- v is below B
below : (c : After-own_limits-own) → c.args.clock < c.own_limits-own.result.modulus
below c = own_below (schedule_of c.args.p) (setup_of c.own_limits-own.result) c.own_limits-own.ensures c.requires.good c.requires.below

pub clock_sound-requires : goal.clock_sound-requires
clock_sound-requires c = (omega (arith, own (goal.at.clock_sound-requires c).After-own_limits-own, (own (goal.at.clock_sound-requires c).After-own_limits-own).limits.modulus-most), below (goal.at.clock_sound-requires c).After-own_limits-own)

pub returns-then-not-clock_sound : goal.returns-then-not-clock_sound
returns-then-not-clock_sound c = tables-late (schedule_of c.args.p) c.args.clock (stamp_of c.args.tables) (own (goal.at.returns-then-not-clock_sound c).After-own_limits-own) (sym c.clock_sound.ensures ∙ not-true c.clock_sound.result c.if-not-clock_sound.true-raw)

-- r lies before v
timely : (c : Else-not-clock_sound) → sound_clock c.own_limits-own.result.epsilon c.own_limits-own.result.modulus c.args.clock c.args.tables.r ≡ true
timely c = sym c.clock_sound.ensures ∙ not-false c.clock_sound.result c.if-not-clock_sound.false-raw

pub clock_step-requires : goal.clock_step-requires
clock_step-requires c = (omega (arith, own (goal.at.clock_step-requires c).After-own_limits-own, (own (goal.at.clock_step-requires c).After-own_limits-own).limits.modulus-most), (last-below c.own_limits-own.result.epsilon c.own_limits-own.result.modulus c.args.clock c.args.tables.r (timely (goal.at.clock_step-requires c).Else-not-clock_sound), below (goal.at.clock_step-requires c).After-own_limits-own))

pub sound_beside-requires : goal.sound_beside-requires
sound_beside-requires c =
    let o = own (goal.at.sound_beside-requires c).After-own_limits-own in
    let half = half-limits (schedule_of c.args.p) c.requires.good _ c.tables_half-half.ensures in
    (omega (arith, o, o.limits.n_pos), (omega (arith, o, o.limits.n-most), half))

pub returns : goal.returns
returns c = tables-timely (schedule_of c.args.p) c.args.clock (stamp_of c.args.tables) (own (goal.at.returns c).After-own_limits-own) (timely (goal.at.returns c).Else-not-clock_sound) c.clock_step.ensures c.tables_half-half.ensures c.sound_beside.ensures
