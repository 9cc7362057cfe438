-- `widernode::ticking::open_stamp` meets its contract. Assumes nothing.
use native.Mathlib.Omega.{arith}
use mathlib.Core.Path.{◌≡◌}
use mathlib.Core.Bool.{true}
use borrow.Author.Tests.{not-true, not-false}
use Rattle.model.specs.Timestamp.{sound_clock}
use Rattle.lemmas.proofs.Counts.{clock-steps}
use Rattle.setup.specs.Views.{setup_of}
use Rattle.timestamp.specs.Views.{stamp_of}
use Rattle.pairs.specs.Views.{schedule_of}
use Rattle.widerqueue.proofs.Shared.{own_below}
use Rattle.widernode.proofs.Times.{Own, own-facts}
use Rattle.widernode.proofs.Tables.{own-timed, last-below, half-limits, tables-last, stamp-replaced, stamp-stepped}
use Rattle.widernode.proofs.ticking.open_stamp.Goals.{After-own_limits-own, Else-not-sound}
use Rattle.widernode.proofs.ticking.open_stamp.Goals as goal

own : (c : After-own_limits-own) → Own (schedule_of c.args.p) (setup_of c.own_limits-own.result)
own c = own-facts (schedule_of c.args.p) c.requires.good c.own_limits-own.ensures

pub open_clock-opened-requires : goal.open_clock-opened-requires
open_clock-opened-requires c =
    let g = schedule_of c.args.p in
    (own-timed g c.args.clock c.requires c.own_limits-own.ensures, tables-last g c.args.clock (stamp_of c.args.tables) (own (goal.at.open_clock-opened-requires c).After-own_limits-own) c.tables_sound-sound.ensures)

pub returns-then-not-sound : goal.returns-then-not-sound
returns-then-not-sound c =
    let o = own (goal.at.returns-then-not-sound c).After-own_limits-own in
    stamp-replaced (schedule_of c.args.p) c.args.clock (stamp_of c.args.tables) o c.tables_sound-sound.ensures c.open_clock-opened.ensures c.own_limits-own.ensures
    (not-true c.tables_sound-sound.result c.if-not-sound.true-raw) (c.replaced-stamp.ensures c.own_limits-own.result.epsilon (omega (arith, o, o.limits.epsilon-most)))

-- their clock is sound
judged : (c : Else-not-sound) → sound_clock c.own_limits-own.result.epsilon c.own_limits-own.result.modulus c.args.clock c.args.tables.r ≡ true
judged c = (tables-last (schedule_of c.args.p) c.args.clock (stamp_of c.args.tables) (own c.before.before.before) c.tables_sound-sound.ensures).judged (not-false c.tables_sound-sound.result c.if-not-sound.false-raw)

pub clock_step-k-requires : goal.clock_step-k-requires
clock_step-k-requires c = (omega (arith, own (goal.at.clock_step-k-requires c).After-own_limits-own, (own (goal.at.clock_step-k-requires c).After-own_limits-own).limits.modulus-most), (last-below c.own_limits-own.result.epsilon c.own_limits-own.result.modulus c.args.clock c.args.tables.r (judged (goal.at.clock_step-k-requires c).Else-not-sound), own_below (schedule_of c.args.p) (setup_of c.own_limits-own.result) c.own_limits-own.ensures c.requires.good c.requires.below))

pub step_into-stamp-requires : goal.step_into-stamp-requires
step_into-stamp-requires c =
    let o = own (goal.at.step_into-stamp-requires c).After-own_limits-own in
    let few = clock-steps c.own_limits-own.result.epsilon c.own_limits-own.result.modulus c.args.clock c.args.tables.r (judged (goal.at.step_into-stamp-requires c).Else-not-sound) in
    (omega (arith, o, o.limits.epsilon-most), ((half-limits (schedule_of c.args.p) c.requires.good _ c.tables_half-half.ensures).1, omega (arith, c.clock_step-k.ensures, few.1, o, o.limits.epsilon-most)))

pub returns : goal.returns
returns c =
    stamp-stepped (setup_of c.args.p.before) (setup_of c.args.p.after) c.args.p.change c.args.clock (stamp_of c.args.tables) (own (goal.at.returns c).After-own_limits-own) c.tables_sound-sound.ensures c.open_clock-opened.ensures c.own_limits-own.ensures
    (not-false c.tables_sound-sound.result c.if-not-sound.false-raw) c.clock_step-k.ensures c.tables_half-half.ensures c.step_into-stamp.ensures
