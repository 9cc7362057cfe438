-- `abi::yarngravel_read_in` meets its contract. Assumes nothing.
use Prim.Native.Nat.{ℕ, ◌+◌, ◌-◌, ◌<◌}
use native.Mathlib.Omega.{arith}
use mathlib.Core.Path.{◌≡◌, ◌∙◌, sym, ap, ap₂}
use mathlib.Core.Bool.{cond}
use lib.ListN.{length}
use borrow.Author.Rules.{rules}
use Rattle.model.specs.Setup.{Setup}
use Rattle.model.specs.Frame.{payload_count_at}
use Rattle.model.specs.Schedule.{Wider}
use Rattle.model.specs.WiderCalls.{ReadInAnswer, read_in}
use Rattle.setup.specs.Views.{setup_of}
use Rattle.pairs.specs.Views.{wider_of}
use Rattle.abi.specs.Packing.{tables_bytes, read_tables}
use Rattle.abi.specs.Both.{setup_in, own_in, wider_in, contents_of, half_read, packed_read_in, read_tables_in}
use Rattle.abi.proofs.Words.{Fair, accepted-word, accepted-tables}
use Rattle.abi.proofs.Both.{bit-most, refused-read-in, fair-in}
use Rattle.abi.proofs.widening.yarngravel_read_in.Lts.View as view
use Rattle.abi.proofs.widening.yarngravel_read_in.Goals.{After-payload_in-payload, After-read_in-reading, After-wider_of-wider, Else-contents-ne0, Start}
use Rattle.abi.proofs.widening.yarngravel_read_in.Goals as goal

-- the reader's answer, and where the payload of an accepted frame starts
abbrev answer : Start → ReadInAnswer
answer c = read_in (setup_in c.args.setup.now) (wider_in c.args.setup.now) (own_in c.args.setup.now) c.args.frame.now

abbrev front : Start → ℕ
front c = payload_count_at (half_read (setup_in c.args.setup.now) (wider_in c.args.setup.now) (answer c)) + 1

-- from the numbers
found : (c : After-wider_of-wider) → read_in (setup_of c.setup_of-before.result) (wider_of c.wider_of-wider.result) c.own_of-own.result c.args.frame.now ≡ answer c.before.before.before.before.before
found c =
    let a = c.args in
    ap (λ (s : Setup). read_in s (wider_of c.wider_of-wider.result) c.own_of-own.result a.frame.now) c.setup_of-before.ensures
    ∙ (ap (λ (w : Wider). read_in (setup_in a.setup.now) w c.own_of-own.result a.frame.now) c.wider_of-wider.ensures
    ∙ ap (λ (k : ℕ). read_in (setup_in a.setup.now) (wider_in a.setup.now) k a.frame.now) c.own_of-own.ensures)

numbered : (c : After-read_in-reading) → c.read_in-reading.result.frame.number ≡ (answer c.before.before.before.before.before.before).number
numbered c = ap (λ (a : ReadInAnswer). a.number) (c.read_in-reading.ensures ∙ found (view.up-After-wider_of-wider _ _ _ _ c.before.before))

pub returns-then-contents-ne0 : goal.returns-then-contents-ne0
returns-then-contents-ne0 c =
    let number = numbered (goal.at.returns-then-contents-ne0 c).After-read_in-reading in
    let refused = refused-read-in (setup_in c.args.setup.now) (wider_in c.args.setup.now) (own_in c.args.setup.now) c.args.frame.now c.args.tables.now (λ z. c.if-contents-ne0.true (number ∙ z)) in
    record { value = number ∙ refused.0; tables_after = refused.1 }

accepted : (c : Else-contents-ne0) → (answer c.before.before.before.before.before.before.before.before.before).number ≡ 0
accepted c = sym (numbered (view.up-After-read_in-reading _ _ _ _ c.before.before.before.before)) ∙ c.if-contents-ne0.false

good : (c : Else-contents-ne0) → Fair (front c.before.before.before.before.before.before.before.before.before) c.args.frame.now (contents_of (answer c.before.before.before.before.before.before.before.before.before)) × ((answer c.before.before.before.before.before.before.before.before.before).stamp.r < 65536)
good c = fair-in (setup_in c.args.setup.now) (wider_in c.args.setup.now) (own_in c.args.setup.now) c.args.frame.now (accepted c)

pub put_tables-requires : goal.put_tables-requires
put_tables-requires c = record { s_len = search rules; r_bound = (omega (arith, ap (λ (a : ReadInAnswer). a.stamp.r) (c.read_in-reading.ensures ∙ found (goal.at.put_tables-requires c).After-wider_of-wider), (good (goal.at.put_tables-requires c).Else-contents-ne0).1), omega (arith, ap (λ (a : ReadInAnswer). a.stamp.c) (c.read_in-reading.ensures ∙ found (goal.at.put_tables-requires c).After-wider_of-wider), (good (goal.at.put_tables-requires c).Else-contents-ne0).0.c-small)) }

-- the payload is the end of the frame
size : (c : After-payload_in-payload) → length c.payload_in-payload.result.now ≡ length (answer c.before.before.before.before.before.before.before.before.before.before.before.before.before).payload
size c = ap length (c.payload_in-payload.ensures ∙ ap (λ (a : ReadInAnswer). a.payload) (found (view.up-After-wider_of-wider _ _ _ _ c.before.before.before.before.before.before.before.before.before)))

pub overflow_sub-frame : goal.overflow_sub-frame
overflow_sub-frame c = omega (arith, size (goal.at.overflow_sub-frame c).After-payload_in-payload, (good (goal.at.overflow_sub-frame c).Else-contents-ne0).0.place)

pub pack_reading-word-requires : goal.pack_reading-word-requires
pack_reading-word-requires c =
    let fine = (good (goal.at.pack_reading-word-requires c).Else-contents-ne0).0 in (
      omega (arith, ap (λ (a : ReadInAnswer). a.station) (c.read_in-reading.ensures ∙ found (goal.at.pack_reading-word-requires c).After-wider_of-wider), fine.station-small),
      (omega (arith, size (goal.at.pack_reading-word-requires c).After-payload_in-payload, fine.place, fine.front-short), omega (arith, size (goal.at.pack_reading-word-requires c).After-payload_in-payload, fine.payload-short)),
    )

pub overflow_add-result : goal.overflow_add-result
overflow_add-result c =
    let fine = (good (goal.at.overflow_add-result c).Else-contents-ne0).0 in
    omega (
      arith,
      c.pack_reading-word.ensures,
      c.wide_bit.ensures,
      bit-most c.read_in-reading.result.wide,
      ap (λ (a : ReadInAnswer). a.station) (c.read_in-reading.ensures ∙ found (goal.at.overflow_add-result c).After-wider_of-wider),
      fine.station-small,
      size (goal.at.overflow_add-result c).After-payload_in-payload,
      fine.place,
      fine.front-short,
      fine.payload-short,
    )

pub returns : goal.returns
unfolding packed_read_in read_tables_in read_tables
returns c =
    let done = c.read_in-reading.ensures ∙ found (goal.at.returns c).After-wider_of-wider in
    let at : length c.args.frame.now - length c.payload_in-payload.result.now ≡ front (goal.at.returns c).Start = omega (arith, size (goal.at.returns c).After-payload_in-payload, (good (goal.at.returns c).Else-contents-ne0).0.place) in record {
      value = ap₂ (λ (x y : ℕ). x + y)
          (c.pack_reading-word.ensures
          ∙ accepted-word (front (goal.at.returns c).Start) tables_bytes (contents_of (answer (goal.at.returns c).Start)) c.read_in-reading.result.frame.station (length c.payload_in-payload.result.now) (length c.args.frame.now - length c.payload_in-payload.result.now) (accepted (goal.at.returns c).Else-contents-ne0)
          (ap (λ (a : ReadInAnswer). a.station) done) at (size (goal.at.returns c).After-payload_in-payload))
          (c.wide_bit.ensures ∙ ap (λ (a : ReadInAnswer). cond a.wide 281474976710656 0) done);
      tables_after = accepted-tables (front (goal.at.returns c).Start) tables_bytes (contents_of (answer (goal.at.returns c).Start)) c.args.tables.now _ (accepted (goal.at.returns c).Else-contents-ne0) (c.put_tables.ensures ∙ ap (λ (a : ReadInAnswer). tables_bytes a.stamp) done);
    }
