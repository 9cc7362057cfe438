-- `abi::yarngravel_write_in` meets its contract. Assumes nothing.
use Prim.Native.Nat.{ℕ, ◌+◌, ◌*◌}
use native.Mathlib.Omega.{arith}
use mathlib.Core.Path.{◌≡◌, ◌∙◌, ap}
use Rattle.model.specs.Setup.{Setup}
use Rattle.model.specs.Timestamp.{Timestamp}
use Rattle.model.specs.Codec.{WriteAnswer}
use Rattle.model.specs.Schedule.{Wider}
use Rattle.model.specs.WiderCalls.{write_in}
use Rattle.setup.specs.Views.{setup_of}
use Rattle.timestamp.specs.Views.{stamp_of}
use Rattle.pairs.specs.Views.{wider_of}
use Rattle.abi.specs.Packing.{tables_in, packed_write}
use Rattle.abi.specs.Both.{setup_in, own_in, wider_in}
use Rattle.abi.proofs.Both.{write-in-small}
use Rattle.abi.proofs.widening.yarngravel_write_in.Goals.{After-write_in-written, Start}
use Rattle.abi.proofs.widening.yarngravel_write_in.Goals as goal

-- the writer's answer, by the setup, the wider pair, the own number and the stamp
abbrev answer : Start → Setup → Wider → ℕ → Timestamp → WriteAnswer
answer c s w own t = write_in s w own c.args.station c.args.wide t c.args.payload.now c.args.out.now

-- from the numbers and the tables' bytes
made : (c : After-write_in-written) (x : WriteAnswer) → x ≡ answer c.before.before.before.before.before.before.before.before.before.before (setup_of c.setup_of-before.result) (wider_of c.wider_of-wider.result) c.own_of-own.result (stamp_of c.tables_of-stamp.result)
    → x ≡ answer c.before.before.before.before.before.before.before.before.before.before (setup_in c.args.setup.now) (wider_in c.args.setup.now) (own_in c.args.setup.now) (tables_in c.args.tables.now)
made c x e =
    e
    ∙ (ap (λ (s : Setup). answer c.before.before.before.before.before.before.before.before.before.before s (wider_of c.wider_of-wider.result) c.own_of-own.result (stamp_of c.tables_of-stamp.result)) c.setup_of-before.ensures
    ∙ (ap (λ (w : Wider). answer c.before.before.before.before.before.before.before.before.before.before (setup_in c.args.setup.now) w c.own_of-own.result (stamp_of c.tables_of-stamp.result)) c.wider_of-wider.ensures
    ∙ (ap (λ (k : ℕ). answer c.before.before.before.before.before.before.before.before.before.before (setup_in c.args.setup.now) (wider_in c.args.setup.now) k (stamp_of c.tables_of-stamp.result)) c.own_of-own.ensures
    ∙ ap (λ (t : Timestamp). answer c.before.before.before.before.before.before.before.before.before.before (setup_in c.args.setup.now) (wider_in c.args.setup.now) (own_in c.args.setup.now) t) c.tables_of-stamp.ensures.result_value)))

pub pack_written-requires : goal.pack_written-requires
pack_written-requires c =
    let a = c.args in
    omega (
      arith,
      ap (λ (x : WriteAnswer). x.size) (made (goal.at.pack_written-requires c).After-write_in-written _ c.write_in-written.ensures),
      write-in-small (setup_in a.setup.now) (wider_in a.setup.now) (own_in a.setup.now) a.station a.wide (tables_in a.tables.now) a.payload.now a.out.now,
    )

pub returns : goal.returns
unfolding packed_write
returns c = record { value = c.pack_written.ensures ∙ ap (λ (a : WriteAnswer). a.number + 256 * a.size) (made (goal.at.returns c).After-write_in-written _ c.write_in-written.ensures); out_after = ap (λ (a : WriteAnswer). a.buffer) (made (goal.at.returns c).After-write_in-written _ c.write_in-written.ensures) }
