-- `timestamp::stamp::near` meets its contract: by the clock that reads ε.
-- Assumes nothing.
use Prim.Native.Nat.{ℕ, ◌+◌, ◌<◌}
use mathlib.Core.Path.{ap, ◌∙◌}
use native.Mathlib.Omega.{arith}
use Rattle.lemmas.proofs.Reading.{ahead-below}
use Rattle.timestamp.proofs.Readings.{near-from}
use Rattle.timestamp.proofs.stamp.near.Goals as goal

pub overflow_add-result : goal.overflow_add-result
overflow_add-result c =
    let some-clock : 0 < c.args.modulus = omega arith in
    omega (arith, c.ahead.ensures, ahead-below c.args.modulus c.turned-least.result c.args.r some-clock)

pub returns : goal.returns
returns c =
    ap (λ (n : ℕ). n + c.args.epsilon) c.ahead.ensures
    ∙ near-from c.args.epsilon c.args.modulus c.args.clock c.args.r c.turned-least.result c.requires.le_epsilon.0 c.requires.le_epsilon.1 c.requires.modulus_bound.1.0 c.requires.modulus_bound.1.1 c.turned-least.ensures
