-- `holdback::origins::has_mark` meets its contract: one look-up. Assumes nothing.
use Rattle.std.proofs.Common.{refl}
use Rattle.holdback.specs.Seen.{has_mark}
use Rattle.holdback.proofs.origins.has_mark.Goals as goal

pub returns : goal.returns
unfolding has_mark
returns c = refl
