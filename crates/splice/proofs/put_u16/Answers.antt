-- `splice::put_u16` meets its contract: its two stores are `two-stored`. Assumes nothing.
use Prim.Native.Nat.{◌%◌, ◌/◌}
use native.Mathlib.Omega.{arith}
use lib.ListN.{length-set}
use Rattle.model.specs.Frame.{two_bytes}
use Rattle.splice.proofs.Laws.{two-stored}
use Rattle.splice.proofs.put_u16.Goals as goal

pub bounds-buf-at-2 : goal.bounds-buf-at-2
bounds-buf-at-2 c = simp length-set (omega arith)

pub returns : goal.returns
unfolding two_bytes
returns c = two-stored c.args.buf.now c.args.at (c.args.value % 256) (c.args.value / 256) c.requires.0
