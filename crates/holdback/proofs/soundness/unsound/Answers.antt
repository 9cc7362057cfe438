-- `holdback::soundness::unsound` meets its contract. Assumes nothing.
use Rattle.std.proofs.Common.{ap}
use Rattle.holdback.specs.declared.keys.Key.{Key}
use Rattle.holdback.specs.declared.soundness.Judged.{Judged}
use Rattle.holdback.proofs.soundness.unsound.Goals as goal

pub returns : goal.returns
returns c = ap {B = Judged} (λ (key : Key). record { end = 0; key = key }) c.no_key.ensures
