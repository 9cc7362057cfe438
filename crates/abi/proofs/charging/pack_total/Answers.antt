-- `abi::charging::pack_total` meets its contract. Assumes nothing.
use mathlib.Core.Path.{refl}
use Rattle.abi.specs.Charging.{total_word}
use Rattle.abi.proofs.charging.pack_total.Goals as goal

pub returns : goal.returns
unfolding total_word
returns c = refl
