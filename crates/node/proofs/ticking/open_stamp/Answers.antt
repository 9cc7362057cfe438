-- `node::ticking::open_stamp` meets its contract. Assumes nothing.
use mathlib.Core.Path.{◌≡◌}
use mathlib.Core.Bool.{true}
use borrow.Author.Tests.{not-true, not-false}
use Rattle.model.specs.Timestamp.{sound_clock}
use Rattle.model.specs.Tick.{tables_sound}
use Rattle.lemmas.proofs.Bounds.{Limits}
use Rattle.lemmas.proofs.Questions.{limits-from}
use Rattle.setup.specs.Views.{setup_of}
use Rattle.timestamp.specs.Views.{stamp_of}
use Rattle.node.proofs.Clocks.{clock-below, clock-far}
use Rattle.node.proofs.Finish.{tables-last, stamp-sound, stamp-replaced}
use Rattle.node.proofs.ticking.open_stamp.Goals.{After-is_sound_for-sound, Else-not-sound, Start}
use Rattle.node.proofs.ticking.open_stamp.Goals as goal

limits : (c : Start) → Limits (setup_of c.args.setup)
limits c = limits-from (setup_of c.args.setup) c.requires.limits

pub is_sound_for-sound-requires : goal.is_sound_for-sound-requires
is_sound_for-sound-requires c = let l = limits (goal.at.is_sound_for-sound-requires c).Start in record { le_n = (l.n_pos, (l.n-most, (l.epsilon-pos, l.epsilon-most))); modulus_bound = (l.modulus-most, c.requires.below) }

-- the tables judged
sound : (c : After-is_sound_for-sound) → c.is_sound_for-sound.result ≡ tables_sound (setup_of c.args.setup) c.args.clock (stamp_of c.args.tables)
unfolding tables_sound
sound c = c.is_sound_for-sound.ensures

pub open_clock-opened-requires : goal.open_clock-opened-requires
open_clock-opened-requires c = (c.requires, tables-last (setup_of c.args.setup) c.args.clock (stamp_of c.args.tables) (sound (goal.at.open_clock-opened-requires c).After-is_sound_for-sound))

pub returns-then-not-sound : goal.returns-then-not-sound
returns-then-not-sound c =
    stamp-replaced (setup_of c.args.setup) c.args.clock (stamp_of c.args.tables) (sound (goal.at.returns-then-not-sound c).After-is_sound_for-sound) c.open_clock-opened.ensures (stamp_of c.replaced-stamp.result)
    (not-true c.is_sound_for-sound.result c.if-not-sound.true-raw) (c.replaced-stamp.ensures c.args.setup.epsilon (limits (goal.at.returns-then-not-sound c).Start).epsilon-most)

-- their clock is sound
judged : (c : Else-not-sound) → sound_clock c.args.setup.epsilon c.args.setup.modulus c.args.clock c.args.tables.r ≡ true
judged c = (tables-last (setup_of c.args.setup) c.args.clock (stamp_of c.args.tables) (sound c.before.before)).judged (not-false c.is_sound_for-sound.result c.if-not-sound.false-raw)

pub clock_step-k-requires : goal.clock_step-k-requires
clock_step-k-requires c = ((limits (goal.at.clock_step-k-requires c).Start).modulus-most, (clock-below (setup_of c.args.setup) c.args.clock c.args.tables.r (limits (goal.at.clock_step-k-requires c).Start) (judged (goal.at.clock_step-k-requires c).Else-not-sound), c.requires.below))

pub step-stamp-requires : goal.step-stamp-requires
step-stamp-requires c = ((clock-far (setup_of c.args.setup) c.args.clock c.args.tables.r (limits (goal.at.step-stamp-requires c).Start) (judged (goal.at.step-stamp-requires c).Else-not-sound) c.clock_step-k.ensures).1, (limits (goal.at.step-stamp-requires c).Start).epsilon-most)

pub returns : goal.returns
returns c =
    stamp-sound (setup_of c.args.setup) c.args.clock (stamp_of c.args.tables) (sound (goal.at.returns c).After-is_sound_for-sound) c.open_clock-opened.ensures (stamp_of c.step-stamp.result)
    (not-false c.is_sound_for-sound.result c.if-not-sound.false-raw) c.clock_step-k.ensures c.step-stamp.ensures
