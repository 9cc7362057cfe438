-- `widerstamp::order::count_down` meets its contract. Assumes nothing.
use Prim.Native.Nat.{ℕ}
use mathlib.Core.Path.{ap, ◌∙◌}
use native.Mathlib.Omega.{arith}
use lib.ListN.{get_or}
use Rattle.widerstamp.proofs.Orders.{count_none, count-some}
use Rattle.widerstamp.proofs.order.count_down.Goals as goal

pub returns-in_default : goal.returns-in_default
returns-in_default c = let a = c.args in count_none a.half a.k a.c a.kn.now (omega (arith, c.in_default.ensures))

pub returns : goal.returns
returns c =
    let a = c.args in
    c.byte_at.ensures
    ∙ ap (λ (i : ℕ). get_or a.kn.now i 0) c.in-Some.ensures.1
    ∙ count-some a.half a.k a.c a.kn.now c.in-Some.ensures.0
