-- `widerwords::write_words_in` meets its contract: behind 1 and 19 the words are those of the mark's side. Assumes nothing.
use mathlib.Core.Path.{sym, ap, ◌∙◌}
use native.Mathlib.Omega.{arith}
use Rattle.model.specs.Setup.{Setup}
use Rattle.setup.specs.Views.{setup_of}
use Rattle.pairs.specs.Views.{wider_of}
use Rattle.words.specs.Words.{words}
use Rattle.widerwords.proofs.Sides.{words-refused, words-side}
use Rattle.widerwords.proofs.write_words_in.Goals as goal

pub returns-then-number-ne0 : goal.returns-then-number-ne0
returns-then-number-ne0 c = let a = c.args in record { text_after = words-refused (setup_of a.setup) (wider_of a.wider) a.own a.batch.now a.verdicts.now a.text.now c.check_both-number.result c.check_both-number.ensures c.if-number-ne0.true; size_bound = omega arith }

pub returns : goal.returns
returns c =
    let a = c.args in
    record {
      text_after = c.write_words.ensures.text_after
          ∙ (ap (λ (s : Setup). words s a.own a.batch.now a.verdicts.now a.text.now) c.marked_side-side.ensures
          ∙ words-side (setup_of a.setup) (wider_of a.wider) a.own a.batch.now a.verdicts.now a.text.now (sym c.if-number-ne0.false ∙ c.check_both-number.ensures));
      size_bound = c.write_words.ensures.size_bound;
    }
