-- `abi::engine::yarngravel_long_write` meets its contract. Assumes nothing.
use Prim.Native.Nat.{◌+◌, ◌*◌}
use native.Mathlib.Omega.{arith}
use mathlib.Core.Path.{◌≡◌, ◌∙◌, ap}
use Rattle.model.specs.Setup.{Setup}
use Rattle.model.specs.Timestamp.{Timestamp}
use Rattle.model.specs.Codec.{WriteAnswer}
use Rattle.model.specs.Long.{long_write}
use Rattle.timestamp.specs.Views.{stamp_of}
use Rattle.abi.specs.Packing.{long_setup_by, long_tables_in, packed_write}
use Rattle.abi.proofs.LongWords.{long-write-small}
use Rattle.abi.proofs.engine.yarngravel_long_write.Goals.{After-write-written, Start}
use Rattle.abi.proofs.engine.yarngravel_long_write.Goals as goal

abbrev setup : Start → Setup
setup c = long_setup_by c.args.n c.args.epsilon c.args.delta

pub pack_written-requires : goal.pack_written-requires
pack_written-requires c = omega (arith, ap (λ (a : WriteAnswer). a.size) c.write-written.ensures, long-write-small (setup (goal.at.pack_written-requires c).Start) c.args.own c.args.station (stamp_of c.long_tables_of-stamp.result) c.args.payload.now c.args.out.now)

same : (c : After-write-written) (x : WriteAnswer) → x ≡ long_write (setup c.before.before.before.before.before.before.before) c.args.own c.args.station (stamp_of c.long_tables_of-stamp.result) c.args.payload.now c.args.out.now → x ≡ long_write (setup c.before.before.before.before.before.before.before) c.args.own c.args.station (long_tables_in c.args.tables.now) c.args.payload.now c.args.out.now
same c x e = e ∙ ap (λ (t : Timestamp). long_write (setup c.before.before.before.before.before.before.before) c.args.own c.args.station t c.args.payload.now c.args.out.now) c.long_tables_of-stamp.ensures.result_value

pub returns : goal.returns
unfolding packed_write
returns c = record { value = c.pack_written.ensures ∙ ap (λ (a : WriteAnswer). a.number + 256 * a.size) (same (goal.at.returns c).After-write-written _ c.write-written.ensures); out_after = ap (λ (a : WriteAnswer). a.buffer) (same (goal.at.returns c).After-write-written _ c.write-written.ensures) }
