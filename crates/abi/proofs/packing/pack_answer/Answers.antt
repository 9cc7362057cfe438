-- `abi::packing::pack_answer` meets its contract. Assumes nothing.
use Rattle.abi.specs.Packing.{packed_answer}
use Rattle.abi.proofs.packing.pack_answer.Goals as goal

pub returns : goal.returns
unfolding packed_answer
returns c = c.pack_numbers.ensures
