-- `abi::packing::pack_compared` meets its contract. Assumes nothing.
use mathlib.Core.Path.{refl}
use Rattle.abi.specs.Packing.{packed_comparison}
use Rattle.abi.proofs.packing.pack_compared.Goals as goal

pub returns : goal.returns
unfolding packed_comparison
returns c = refl
