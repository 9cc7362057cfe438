-- `abi::yarngravel_words_in` meets its contract. Assumes nothing.
use Prim.Native.Nat.{ℕ, ◌+◌, ◌*◌}
use native.Mathlib.Omega.{arith}
use mathlib.Core.Path.{◌≡◌, ◌∙◌, ap}
use Rattle.model.specs.Setup.{Setup}
use Rattle.model.specs.Schedule.{Wider}
use Rattle.setup.specs.Views.{setup_of}
use Rattle.pairs.specs.Views.{wider_of}
use Rattle.words.specs.Words.{WordsAnswer}
use Rattle.widerwords.specs.Words.{words_in}
use Rattle.abi.specs.Packing.{packed_words}
use Rattle.abi.specs.Both.{setup_in, own_in, wider_in}
use Rattle.abi.proofs.widening.yarngravel_words_in.Goals.{After-write_words_in-told, Start}
use Rattle.abi.proofs.widening.yarngravel_words_in.Goals as goal

-- the answer, by the setup, the wider pair and the own number
abbrev answer : Start → Setup → Wider → ℕ → WordsAnswer
answer c s w own = words_in s w own c.args.batch.now c.args.verdicts.now c.args.text.now

-- from the numbers
made : (c : After-write_words_in-told) (x : WordsAnswer) → x ≡ answer c.before.before.before.before.before.before.before.before.before (setup_of c.setup_of-before.result) (wider_of c.wider_of-wider.result) c.own_of-own.result
    → x ≡ answer c.before.before.before.before.before.before.before.before.before (setup_in c.args.setup.now) (wider_in c.args.setup.now) (own_in c.args.setup.now)
made c x e =
    e
    ∙ (ap (λ (s : Setup). answer c.before.before.before.before.before.before.before.before.before s (wider_of c.wider_of-wider.result) c.own_of-own.result) c.setup_of-before.ensures
    ∙ (ap (λ (w : Wider). answer c.before.before.before.before.before.before.before.before.before (setup_in c.args.setup.now) w c.own_of-own.result) c.wider_of-wider.ensures
    ∙ ap (λ (k : ℕ). answer c.before.before.before.before.before.before.before.before.before (setup_in c.args.setup.now) (wider_in c.args.setup.now) k) c.own_of-own.ensures))

pub pack_written-requires : goal.pack_written-requires
pack_written-requires c = omega (arith, c.write_words_in-told.ensures.size_bound)

pub returns : goal.returns
unfolding packed_words
returns c = record { value = c.pack_written.ensures ∙ ap (λ (a : WordsAnswer). a.number + 256 * a.size) (made (goal.at.returns c).After-write_words_in-told _ c.write_words_in-told.ensures.text_after); text_after = ap (λ (a : WordsAnswer). a.text) (made (goal.at.returns c).After-write_words_in-told _ c.write_words_in-told.ensures.text_after) }
