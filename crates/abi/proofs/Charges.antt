-- 02, 2.11: a charge's answer in one number. Assumes nothing.
use Prim.Native.Nat.{ℕ, ◌≤◌}
use native.Mathlib.Omega.{arith}
use mathlib.Core.Path.{◌≡◌, ap, ◌∙◌}
use mathlib.Core.Bool.{Bool}
use mathlib.Core.List.{List, []}
use Rattle.model.specs.Ledger.{ChargeAnswer, charge_call}
use Rattle.ledger.proofs.ChargingLaws.{any-charge}
use Rattle.abi.specs.Charging.{charge_word, returned_charge, packed_charge}

pub charge-small : (rate : ℕ) (payload ledger : List ℕ) (o : ChargeAnswer) → o ≡ charge_call rate payload ledger → o.charge ≤ 600000
charge-small rate payload ledger o e =
    let same : o.charge ≡ (charge_call rate payload ledger).charge = ap (λ (a : ChargeAnswer). a.charge) e in
    omega (arith, (any-charge rate payload ledger).most)

-- the number says nothing of the ledger
pub charge-packed :
    (number charge : ℕ) (entered : Bool) (left : List ℕ) (o : ChargeAnswer) (word : ℕ) → word ≡ charge_word (record { number = number; entered = entered; charge = charge; ledger = [] })
    → record { number = number; entered = entered; charge = charge; ledger = left } ≡ o → returned_charge word left ≡ packed_charge o
unfolding packed_charge charge_word
charge-packed number charge entered left o word ew e = ap (λ (w : ℕ). returned_charge w left) ew ∙ ap packed_charge e
