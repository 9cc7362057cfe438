-- `polling::call::tell` meets its contract. Assumes nothing.
use mathlib.Core.Path.{refl}
use Rattle.polling.proofs.call.tell.Goals as goal

pub returns : goal.returns
returns c = rw (c.next_due-next.ensures, c.number_within-within.ensures) refl
