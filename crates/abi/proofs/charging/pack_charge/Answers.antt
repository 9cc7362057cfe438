-- `abi::charging::pack_charge` meets its contract. Assumes nothing.
use Prim.Native.Nat.{ℕ, ◌+◌, ◌*◌}
use native.Mathlib.Omega.{arith}
use mathlib.Core.Path.{ap}
use Rattle.abi.specs.Charging.{charge_word}
use Rattle.abi.proofs.charging.pack_charge.Goals as goal

pub overflow_add-result : goal.overflow_add-result
overflow_add-result c = omega (arith, c.entered_bit.ensures.1)

pub overflow_mul-result-2 : goal.overflow_mul-result-2
overflow_mul-result-2 c = omega (arith, c.entered_bit.ensures.1)

pub overflow_add-result-2 : goal.overflow_add-result-2
overflow_add-result-2 c = omega (arith, c.entered_bit.ensures.1)

pub returns : goal.returns
unfolding charge_word
returns c =
    let a = c.args.a in
    ap (λ (b : ℕ). a.number + 256 * (b + 16777216 * a.charge)) c.entered_bit.ensures.0
