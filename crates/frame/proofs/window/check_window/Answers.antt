-- `frame::window::check_window` meets its contract. Assumes nothing.
use mathlib.Core.Bool.{true}
use mathlib.Core.Path.{◌≡◌, ◌∙◌, sym}
use native.Mathlib.Omega.{arith}
use lib.ListN.{take}
use borrow.Author.Tests.{not-true, not-false}
use Rattle.lemmas.proofs.Bounds.{Limits}
use Rattle.lemmas.proofs.Questions.{limits-from}
use Rattle.setup.specs.Views.{setup_of}
use Rattle.model.specs.Frame.{well_formed, frame_end}
use Rattle.frame.proofs.Asking.{form-no}
use Rattle.frame.proofs.Windows.{ranged, range-no, window-no, window-right, ceilings-long, window-long}
use Rattle.frame.proofs.window.check_window.Goals.{Else-not-formed_window, Else-not-ranged_window, Start}
use Rattle.frame.proofs.window.check_window.Goals as goal

limits : (c : Start) → Limits (setup_of c.args.setup)
limits c = limits-from (setup_of c.args.setup) c.requires.setup_value.0

-- what the first two tests leave
form : (c : Else-not-formed_window) → let a = c.args in well_formed a.setup.epsilon (take (frame_end a.setup.epsilon a.w.now) a.w.now) ≡ true
form c = sym c.formed_window.ensures ∙ not-false c.formed_window.result c.if-not-formed_window.false-raw

range : (c : Else-not-ranged_window) → ranged (setup_of c.args.setup) c.args.w.now ≡ true
range c = sym c.ranged_window.ensures ∙ not-false c.ranged_window.result c.if-not-ranged_window.false-raw

pub formed_window-requires : goal.formed_window-requires
formed_window-requires c = ((limits (goal.at.formed_window-requires c).Start).epsilon-most, c.requires.epsilon_in_bounds)

pub returns-then-not-formed_window : goal.returns-then-not-formed_window
returns-then-not-formed_window c =
    let a = c.args in
    sym (form-no (setup_of a.setup) (take (frame_end a.setup.epsilon a.w.now) a.w.now) (sym c.formed_window.ensures ∙ not-true c.formed_window.result c.if-not-formed_window.true-raw))

pub returns-then-not-ranged_window : goal.returns-then-not-ranged_window
returns-then-not-ranged_window c =
    sym (range-no (setup_of c.args.setup) c.args.w.now (form (goal.at.returns-then-not-ranged_window c).Else-not-formed_window)
    (sym c.ranged_window.ensures ∙ not-true c.ranged_window.result c.if-not-ranged_window.true-raw))

pub overflow_cast-c : goal.overflow_cast-c
overflow_cast-c c = omega (arith, c.shared_slice_known-3-1.given 5)

pub sound_window-requires : goal.sound_window-requires
sound_window-requires c = ((limits (goal.at.sound_window-requires c).Start).epsilon-pos, ((limits (goal.at.sound_window-requires c).Start).epsilon-most, (window-long c.args.w.now (omega arith), ceilings-long c.args.setup.n c.args.setup.epsilon c.args.ceilings.now c.requires.setup_value.1)))

pub returns-then-not-sound_window : goal.returns-then-not-sound_window
returns-then-not-sound_window c =
    sym (window-no (setup_of c.args.setup) c.args.w.now (form (goal.at.returns-then-not-sound_window c).Else-not-formed_window) (range (goal.at.returns-then-not-sound_window c).Else-not-ranged_window) (limits (goal.at.returns-then-not-sound_window c).Start).epsilon-most
    (sym (c.sound_window.ensures c.args.setup.n c.requires.setup_value.1) ∙ not-true c.sound_window.result c.if-not-sound_window.true-raw))

pub returns : goal.returns
returns c =
    sym (window-right (setup_of c.args.setup) c.args.w.now (form (goal.at.returns c).Else-not-formed_window) (range (goal.at.returns c).Else-not-ranged_window) (limits (goal.at.returns c).Start).epsilon-most
    (sym (c.sound_window.ensures c.args.setup.n c.requires.setup_value.1) ∙ not-false c.sound_window.result c.if-not-sound_window.false-raw))
