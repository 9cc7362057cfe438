-- `abi::charging::yarngravel_total` meets its contract. Assumes nothing.
use mathlib.Core.Path.{ap, ◌∙◌}
use Rattle.abi.specs.Charging.{total_word}
use Rattle.abi.proofs.charging.yarngravel_total.Goals as goal

pub returns : goal.returns
returns c = c.pack_total.ensures ∙ ap total_word c.total-totalled.ensures.result_value
