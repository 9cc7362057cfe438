-- `frame::reader::refused` meets its contract. Assumes nothing.
use mathlib.Core.Path.{refl}
use Rattle.model.specs.Codec.{no_timestamp}
use Rattle.frame.proofs.reader.refused.Goals as goal

pub returns : goal.returns
unfolding no_timestamp
returns c = refl
