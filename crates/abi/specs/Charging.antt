-- 02, 2.11: what a charge and a total answer, in one number. Assumes nothing.
use Rattle.std.specs.Prelude.{ℕ, ◌+◌, ◌*◌, cond, List}
use Rattle.model.specs.Ledger.{ChargeAnswer, TotalAnswer}

-- the number in bits 0 to 7, bit 8 set where the ledger got the bale, the charge in 32 to 63
unfoldable pub charge_word : ChargeAnswer → ℕ
charge_word a = a.number + 256 * (cond a.entered 1 0 + 16777216 * a.charge)

-- what the call gives back: one number, and the ledger as it left it
pub record ReturnedCharge : Type 0 where
  pub word : ℕ
  pub ledger : List ℕ

abbrev pub returned_charge : ℕ → List ℕ → ReturnedCharge
returned_charge word ledger = record { word = word; ledger = ledger }

unfoldable pub packed_charge : ChargeAnswer → ReturnedCharge
packed_charge a = returned_charge (charge_word a) a.ledger

-- the number in bits 0 to 7, the total from bit 8 on
unfoldable pub total_word : TotalAnswer → ℕ
total_word a = a.number + 256 * a.total
