-- `batch::count_of` meets its contract. Assumes nothing.
use borrow.Author.Rules.{rules}
use Rattle.batch.specs.Walk.{count_of}
use Rattle.batch.proofs.count_of.Goals as goal

pub returns : goal.returns
unfolding count_of
returns c = search rules
