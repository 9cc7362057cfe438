-- `abi::charging::yarngravel_charge` meets its contract. Assumes nothing.
use Rattle.abi.proofs.Charges.{charge-small, charge-packed}
use Rattle.abi.proofs.charging.yarngravel_charge.Goals as goal

pub pack_charge-requires : goal.pack_charge-requires
pack_charge-requires c =
    let a = c.args in
    charge-small a.rate a.payload.now a.ledger.now _ c.charge-charged.ensures

pub returns : goal.returns
returns c = charge-packed _ _ _ _ _ _ c.pack_charge.ensures c.charge-charged.ensures
