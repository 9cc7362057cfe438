-- `setup::questions::delivery_roomy` meets its contract. Assumes nothing.
use mathlib.Core.Path.{◌≡◌}
use mathlib.Core.Bool.{Bool, false, ◌&&◌}
use Prim.Native.Nat.{ℕ, ◌≤◌, ◌<◌}
use lib.Dec.{leb}
use borrow.Author.Tests.{le-leb, lt-leb}
use Rattle.setup.proofs.questions.delivery_roomy.Goals as goal

too_short : (a b : ℕ) (rest : Bool) → b < a → false ≡ (leb a b && rest)
too_short a b rest h = rw (lt-leb a b h)

long-enough : (a b : ℕ) (rest : Bool) → a ≤ b → rest ≡ (leb a b && rest)
long-enough a b rest h = rw (le-leb a b h)

pub returns-then-verdicts-lt-VERDICT_LENGTH : goal.returns-then-verdicts-lt-VERDICT_LENGTH
returns-then-verdicts-lt-VERDICT_LENGTH c = too_short _ _ _ c.if-verdicts-lt-VERDICT_LENGTH.true

pub returns : goal.returns
returns c = long-enough _ _ _ c.if-verdicts-lt-VERDICT_LENGTH.false
