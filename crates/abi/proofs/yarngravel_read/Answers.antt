-- `abi::yarngravel_read` meets its contract. Assumes nothing.
use Prim.Native.Nat.{ℕ, ◌+◌, ◌-◌, ◌<◌}
use native.Mathlib.Omega.{arith}
use mathlib.Core.Path.{◌≡◌, ◌∙◌, sym, ap}
use lib.ListN.{length}
use borrow.Author.Rules.{rules}
use Rattle.model.specs.Frame.{decode, payload_count_at}
use Rattle.model.specs.Question.{first_no}
use Rattle.model.specs.Codec.{ReadAnswer, read_questions, read}
use Rattle.abi.specs.Packing.{setup_by, tables_bytes, packed_read, read_tables}
use Rattle.abi.proofs.Words.{Fair, fair, read_is, refused-reading, accepted-word, accepted-tables}
use Rattle.abi.proofs.yarngravel_read.Lts.View as view
use Rattle.abi.proofs.yarngravel_read.Goals.{After-payload_of-payload, After-read-reading, Else-reading-ne0, Start}
use Rattle.abi.proofs.yarngravel_read.Goals as goal

-- the reader's answer, and where the payload of an accepted frame starts
abbrev answer : Start → ReadAnswer
answer c = read (setup_by c.args.n c.args.epsilon c.args.delta c.args.modulus) c.args.own c.args.frame.now

abbrev front : Start → ℕ
front c = payload_count_at c.args.epsilon + 1

numbered : (c : After-read-reading) → c.read-reading.result.number ≡ (answer c.before.before.before).number
numbered c = ap (λ (a : ReadAnswer). a.number) c.read-reading.ensures

pub returns-then-reading-ne0 : goal.returns-then-reading-ne0
unfolding packed_read read_tables
returns-then-reading-ne0 c =
    let s = setup_by c.args.n c.args.epsilon c.args.delta c.args.modulus in
    let number = numbered (goal.at.returns-then-reading-ne0 c).After-read-reading in
    let (word, tables) = refused-reading (front (goal.at.returns-then-reading-ne0 c).Start) tables_bytes (answer (goal.at.returns-then-reading-ne0 c).Start) (first_no (read_questions s c.args.own c.args.frame.now)) (decode c.args.epsilon c.args.frame.now) c.args.tables.now
    (read_is s c.args.own c.args.frame.now) (λ z. c.if-reading-ne0.true (number ∙ z)) in
    record { value = number ∙ word; tables_after = tables }

accepted : (c : Else-reading-ne0) → (answer c.before.before.before.before.before).number ≡ 0
accepted c = sym (numbered (view.up-After-read-reading _ _ _ _ c.before.before.before)) ∙ c.if-reading-ne0.false

good : (c : Else-reading-ne0) → Fair (front c.before.before.before.before.before) c.args.frame.now (answer c.before.before.before.before.before) × ((answer c.before.before.before.before.before).stamp.r < 65536)
good c = fair (setup_by c.args.n c.args.epsilon c.args.delta c.args.modulus) c.args.own c.args.frame.now (accepted c)

pub put_tables-requires : goal.put_tables-requires
put_tables-requires c = record { s_len = search rules; r_bound = (omega (arith, ap (λ (a : ReadAnswer). a.stamp.r) c.read-reading.ensures, (good (goal.at.put_tables-requires c).Else-reading-ne0).1), omega (arith, ap (λ (a : ReadAnswer). a.stamp.c) c.read-reading.ensures, (good (goal.at.put_tables-requires c).Else-reading-ne0).0.c-small)) }

-- the payload is the end of the frame
size : (c : After-payload_of-payload) → length c.payload_of-payload.result.now ≡ length (answer c.before.before.before.before.before.before.before.before.before).payload
size c = ap length c.payload_of-payload.ensures

pub overflow_sub-frame : goal.overflow_sub-frame
overflow_sub-frame c = omega (arith, size (goal.at.overflow_sub-frame c).After-payload_of-payload, (good (goal.at.overflow_sub-frame c).Else-reading-ne0).0.place)

pub pack_reading-requires : goal.pack_reading-requires
pack_reading-requires c =
    let fine = (good (goal.at.pack_reading-requires c).Else-reading-ne0).0 in (
      omega (arith, ap (λ (a : ReadAnswer). a.station) c.read-reading.ensures, fine.station-small),
      (omega (arith, size (goal.at.pack_reading-requires c).After-payload_of-payload, fine.place, fine.front-short), omega (arith, size (goal.at.pack_reading-requires c).After-payload_of-payload, fine.payload-short)),
    )

pub returns : goal.returns
unfolding packed_read read_tables
returns c =
    let at : length c.args.frame.now - length c.payload_of-payload.result.now ≡ front (goal.at.returns c).Start = omega (arith, size (goal.at.returns c).After-payload_of-payload, (good (goal.at.returns c).Else-reading-ne0).0.place) in record {
      value = c.pack_reading.ensures
          ∙ accepted-word (front (goal.at.returns c).Start) tables_bytes (answer (goal.at.returns c).Start) c.read-reading.result.station (length c.payload_of-payload.result.now) (length c.args.frame.now - length c.payload_of-payload.result.now) (accepted (goal.at.returns c).Else-reading-ne0)
          (ap (λ (a : ReadAnswer). a.station) c.read-reading.ensures) at (size (goal.at.returns c).After-payload_of-payload);
      tables_after = accepted-tables (front (goal.at.returns c).Start) tables_bytes (answer (goal.at.returns c).Start) c.args.tables.now _ (accepted (goal.at.returns c).Else-reading-ne0) (c.put_tables.ensures ∙ ap (λ (a : ReadAnswer). tables_bytes a.stamp) c.read-reading.ensures);
    }
