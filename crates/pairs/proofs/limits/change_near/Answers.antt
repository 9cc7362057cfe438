-- `pairs::limits::change_near` meets its contract: marked, 0 ahead, and else. Assumes nothing.
use Prim.Native.Nat.{ℕ, ◌+◌, ◌-◌}
use mathlib.Core.Path.{sym, ap, ◌∙◌}
use native.Mathlib.Omega.{arith}
use Rattle.lemmas.proofs.Reading.{ahead-below}
use Rattle.pairs.specs.Views.{wider_of}
use Rattle.pairs.proofs.Sides.{change-marked, change-whole, change-part}
use Rattle.pairs.proofs.limits.change_near.Goals as goal

pub overflow_sub-result : goal.overflow_sub-result
overflow_sub-result c =
    let a = c.args in
    omega (arith, c.ahead.ensures, ahead-below a.modulus a.wider.change a.clock (omega arith))

pub returns-then-wider-eq1 : goal.returns-then-wider-eq1
returns-then-wider-eq1 c =
    let a = c.args in
    ap (λ (n : ℕ). a.modulus - n) c.ahead.ensures ∙ change-marked a.modulus a.clock (wider_of a.wider) c.if-wider-eq1.true

pub returns-then-far-eq0 : goal.returns-then-far-eq0
returns-then-far-eq0 c =
    let a = c.args in
    change-whole a.modulus a.clock (wider_of a.wider) c.if-wider-eq1.false (sym c.ahead-far.ensures ∙ c.if-far-eq0.true)

pub overflow_add-result : goal.overflow_add-result
overflow_add-result c =
    let a = c.args in
    omega (arith, c.ahead-far.ensures, ahead-below a.modulus a.clock a.wider.change (omega arith))

pub returns : goal.returns
returns c =
    let a = c.args in
    ap (λ (n : ℕ). a.modulus + n) c.ahead-far.ensures
    ∙ change-part a.modulus a.clock (wider_of a.wider) c.if-wider-eq1.false (λ e. c.if-far-eq0.false (c.ahead-far.ensures ∙ e))
