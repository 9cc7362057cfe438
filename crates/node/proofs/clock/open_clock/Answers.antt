-- `node::clock::open_clock` meets its contract. Assumes nothing.
use Prim.Native.Nat.{◌≤◌}
use native.Mathlib.Omega.{arith}
use mathlib.Core.Path.{◌≡◌}
use mathlib.Core.Bool.{true}
use borrow.Author.Tests.{not-true, not-false}
use Rattle.model.specs.Timestamp.{sound_clock}
use Rattle.lemmas.proofs.Bounds.{Limits}
use Rattle.lemmas.proofs.Questions.{limits-from}
use Rattle.setup.specs.Views.{setup_of}
use Rattle.node.proofs.Clocks.{clock-below, clock-far, clock-sound, clock-unsound}
use Rattle.node.proofs.clock.open_clock.Goals.{After-clock_step-k, Else-not-sound, Start}
use Rattle.node.proofs.clock.open_clock.Goals as goal

limits : (c : Start) → Limits (setup_of c.args.setup)
limits c = limits-from (setup_of c.args.setup) c.requires.0.limits

pub returns-then-not-sound : goal.returns-then-not-sound
returns-then-not-sound c = clock-unsound (setup_of c.args.setup) c.args.clock c.args.last (limits (goal.at.returns-then-not-sound c).Start) (not-true c.args.sound c.if-not-sound.true-raw)

-- the last clock is sound
called : (c : Else-not-sound) → c.args.sound ≡ true
called c = not-false c.args.sound c.if-not-sound.false-raw

judged : (c : Else-not-sound) → sound_clock c.args.setup.epsilon c.args.setup.modulus c.args.clock c.args.last ≡ true
judged c = c.requires.1.judged (called c)

pub clock_step-k-requires : goal.clock_step-k-requires
clock_step-k-requires c = ((limits (goal.at.clock_step-k-requires c).Start).modulus-most, (clock-below (setup_of c.args.setup) c.args.clock c.args.last (limits (goal.at.clock_step-k-requires c).Start) (judged (goal.at.clock_step-k-requires c).Else-not-sound), c.requires.0.below))

-- and its step is 1 to ε
steps : (c : After-clock_step-k) → (1 ≤ c.clock_step-k.result) × (c.clock_step-k.result ≤ c.args.setup.epsilon)
steps c = clock-far (setup_of c.args.setup) c.args.clock c.args.last (limits c.before.before.before) (judged c.before) c.clock_step-k.ensures

pub overflow_sub-result : goal.overflow_sub-result
overflow_sub-result c = omega (arith, (steps (goal.at.overflow_sub-result c).After-clock_step-k).1, (limits (goal.at.overflow_sub-result c).Start).modulus-least)

pub returns : goal.returns
returns c = clock-sound (setup_of c.args.setup) c.args.clock c.args.last (limits (goal.at.returns c).Start) (called (goal.at.returns c).Else-not-sound) (judged (goal.at.returns c).Else-not-sound) c.clock_step-k.ensures
