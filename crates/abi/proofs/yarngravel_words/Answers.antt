-- `abi::yarngravel_words` meets its contract. Assumes nothing.
use Prim.Native.Nat.{◌+◌, ◌*◌}
use native.Mathlib.Omega.{arith}
use mathlib.Core.Path.{◌∙◌, ap}
use Rattle.words.specs.Words.{WordsAnswer}
use Rattle.abi.specs.Packing.{packed_words}
use Rattle.abi.proofs.yarngravel_words.Goals as goal

pub pack_written-requires : goal.pack_written-requires
pack_written-requires c = omega (arith, c.write_words-told.ensures.size_bound)

pub returns : goal.returns
unfolding packed_words
returns c = record { value = c.pack_written.ensures ∙ ap (λ (a : WordsAnswer). a.number + 256 * a.size) c.write_words-told.ensures.text_after; text_after = ap (λ (a : WordsAnswer). a.text) c.write_words-told.ensures.text_after }
