-- `timestamp::window::sound_window` meets its contract: each answer is that of the first question that decides.
-- Assumes nothing.
use Prim.Native.Nat.{◌+◌, ◌*◌, ◌<◌}
use native.Mathlib.Omega.{arith}
use borrow.Author.Rules.{rules}
use borrow.Author.Tests.{tests, lt-ltb}
use Rattle.timestamp.proofs.Windows.{window-asked}
use Rattle.timestamp.proofs.window.sound_window.Goals.{then-c-epsilon, else-c-epsilon}
use Rattle.timestamp.proofs.window.sound_window.Goals as goal

pub returns-then-within_window : goal.returns-then-within_window
returns-then-within_window c =
    let a = c.args in
    λ n e.
    rw (window-asked n a.epsilon a.c a.kn.now c.requires.1.0 c.requires.1.1.0 c.requires.0)
    (elim c.if-c-epsilon.branch [
      | then-c-epsilon w ↦
          let inside : a.epsilon + a.c < 2 * a.epsilon = omega (arith, w.if-c-epsilon.true) in
          rw (
            lt-ltb a.c a.epsilon w.if-c-epsilon.true,
            ← w.within_window.ensures n a.epsilon c.requires.1.0 inside e,
            ← w.value-is,
            c.if-within_window.true,
          )
      | else-c-epsilon w ↦ search (rules, tests)
    ])

pub returns-else-within_window : goal.returns-else-within_window
returns-else-within_window c =
    let a = c.args in
    λ n e.
    rw (window-asked n a.epsilon a.c a.kn.now c.requires.1.0 c.requires.1.1.0 c.requires.0)
    (elim c.if-c-epsilon.branch [
      | then-c-epsilon w ↦
          let inside : a.epsilon + a.c < 2 * a.epsilon = omega (arith, w.if-c-epsilon.true) in
          rw (
            lt-ltb a.c a.epsilon w.if-c-epsilon.true,
            ← w.within_window.ensures n a.epsilon c.requires.1.0 inside e,
            ← w.value-is,
            c.if-within_window.false,
          )
      | else-c-epsilon w ↦ search (rules, tests)
    ])
