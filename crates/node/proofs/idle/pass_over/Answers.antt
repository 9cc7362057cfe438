-- `node::idle::pass_over` meets its contract. Assumes nothing.
use mathlib.Core.Path.{refl}
use Rattle.node.proofs.Nothing.{none-given}
use Rattle.node.proofs.idle.pass_over.Goals as goal

pub returns : goal.returns
returns c = record { value = refl; holdback_after = (c.empty.ensures, none-given c.args.delivery.now c.put_u16.ensures) }
