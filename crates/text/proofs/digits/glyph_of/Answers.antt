-- `text::digits::glyph_of` meets its contract. Assumes nothing.
use borrow.Author.Rules.{rules}
use Rattle.text.specs.Text.{glyph}
use Rattle.text.proofs.digits.glyph_of.Goals as goal

pub returns : goal.returns
unfolding glyph
returns c = search rules
