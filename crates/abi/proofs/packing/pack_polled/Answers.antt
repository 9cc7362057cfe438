-- `abi::packing::pack_polled` meets its contract. Assumes nothing.
use Prim.Native.Nat.{ℕ, ◌+◌, ◌*◌}
use mathlib.Core.Path.{ap}
use Rattle.abi.specs.Packing.{packed_poll}
use Rattle.abi.proofs.packing.pack_polled.Goals as goal

pub returns : goal.returns
unfolding packed_poll
returns c =
    let a = c.args.a in
    ap (λ (bits : ℕ). a.number + 256 * (bits + 16777216 * a.within)) c.pack_next.ensures.0
