-- `longframe::form::r_of` meets its contract. Assumes nothing.
use mathlib.Core.Path.{◌∙◌}
use Rattle.splice.proofs.Laws.{low-first-number}
use Rattle.model.specs.Long.{long_decode}
use Rattle.longframe.proofs.form.r_of.Goals as goal

pub returns : goal.returns
unfolding long_decode
returns c = λ epsilon. c.eight_at.ensures ∙ low-first-number 8 c.args.s.now 2
