-- `timestamp::window::within_window` meets its contract: the loop's invariant: nothing lies past its limit if the counts passed are within theirs.
-- Assumes nothing.
use Prim.Native.Nat.{ℕ, ◌*◌, ◌≤◌, ◌<◌}
use mathlib.Core.Path.{◌≡◌}
use lib.Dec.{eqb}
use lib.ListN.{take, length}
use Rattle.timestamp.specs.Views.{within_ceilings}
use Rattle.timestamp.specs.Window.{ceilings_of}
use Rattle.timestamp.proofs.window.within_window.Given as goal

abbrev pub invariant-loop-count : goal.invariant-loop-count
invariant-loop-count l =
    (n epsilon : ℕ) → epsilon ≤ 16 → l.top < 2 * epsilon → l.ceilings ≡ ceilings_of n epsilon
    → eqb l.over 0 ≡ within_ceilings n l.top (take (length l.yielded) (take (2 * epsilon) l.kn))
