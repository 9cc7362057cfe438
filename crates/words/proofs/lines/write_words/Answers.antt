-- `words::lines::write_words` meets its contract. Assumes nothing.
use mathlib.Core.Path.{sym, ◌∙◌}
use native.Mathlib.Omega.{arith}
use Rattle.setup.specs.Views.{setup_of}
use Rattle.words.proofs.Asking.{answered, words-refused, words-written}
use Rattle.words.proofs.lines.write_words.Goals as goal

pub returns-then-number-ne0 : goal.returns-then-number-ne0
returns-then-number-ne0 c = record { text_after = words-refused (setup_of c.args.setup) c.args.own c.args.batch.now c.args.verdicts.now c.args.text.now c.check_words-number.result c.check_words-number.ensures c.if-number-ne0.true; size_bound = omega arith }

pub put_lines-size-requires : goal.put_lines-size-requires
put_lines-size-requires c = answered (setup_of c.args.setup) c.args.own c.args.batch.now c.args.verdicts.now c.args.text.now (sym c.check_words-number.ensures ∙ c.if-number-ne0.false)

pub returns : goal.returns
returns c = record { text_after = words-written (setup_of c.args.setup) c.args.own c.args.batch.now c.args.verdicts.now c.args.text.now (sym c.if-number-ne0.false ∙ c.check_words-number.ensures) c.put_lines-size.ensures.put; size_bound = c.put_lines-size.ensures.upper_bound }
