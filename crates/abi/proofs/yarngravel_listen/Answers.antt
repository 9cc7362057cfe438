-- `abi::yarngravel_listen` meets its contract. Assumes nothing.
use Prim.Native.Nat.{ℕ, ◌<◌}
use native.Mathlib.Omega.{arith}
use mathlib.Core.Path.{◌≡◌, ◌∙◌, sym, ap}
use lib.ListN.{length}
use borrow.Author.Rules.{rules}
use Rattle.model.specs.Frame.{two_at, two_bytes}
use Rattle.model.specs.Observer.{Listening, listen}
use Rattle.abi.specs.Packing.{setup_by, packed_listened}
use Rattle.abi.proofs.Words.{listened-small, last_written, refused-listening, accepted-listening, refused-listen}
use Rattle.abi.proofs.yarngravel_listen.Goals.{After-last_of-given, Else-heard-ne0, Start}
use Rattle.abi.proofs.yarngravel_listen.Goals as goal

abbrev input : Start → ℕ → Listening
input c last =
    record {
      setup = setup_by c.args.n c.args.epsilon c.args.delta c.args.modulus;
      clock = c.args.clock;
      last = last;
      holdback = c.args.holdback.now;
      batch = c.args.batch.now;
      verdicts = c.args.verdicts.now;
      delivery = c.args.delivery.now;
    }

pub returns-then-heard-ne0 : goal.returns-then-heard-ne0
returns-then-heard-ne0 c =
    let i = input (goal.at.returns-then-heard-ne0 c).Start (two_at c.args.last.now 0) in
    refused-listening i _ (listen i) (c.listen-heard.ensures ∙ ap (λ (l : ℕ). listen (input (goal.at.returns-then-heard-ne0 c).Start l)) c.last_of-given.ensures.0) c.args.last.now (ap two_bytes (sym c.last_of-given.ensures.0) ∙ c.last_of-given.ensures.1) (refused-listen i) c.if-heard-ne0.true

-- the last clock has two bytes
two : (c : After-last_of-given) → length c.args.last.now ≡ 2
unfolding two_bytes
two c = sym (ap length c.last_of-given.ensures.1)

small : (c : Else-heard-ne0) → (c.listen-heard.result.taken < 256) × ((c.listen-heard.result.delivered < 65536) × (c.listen-heard.result.last < 65536))
small c =
    let packed_numbers =
    listened-small (input c.before.before.before.before.before.before.before.before.before.before.before.before.before.before.before.before.before.before.before.before (two_at c.args.last.now 0)) _ (c.listen-heard.ensures ∙ ap (λ (l : ℕ). listen (input c.before.before.before.before.before.before.before.before.before.before.before.before.before.before.before.before.before.before.before.before l)) c.last_of-given.ensures.0) c.if-heard-ne0.false (omega (arith, c.shared_slice_known-1.given 0)) in
    (packed_numbers.taken-small, (packed_numbers.delivered-small, packed_numbers.last-small))

pub put_u16-requires : goal.put_u16-requires
put_u16-requires c = (search rules, (small (goal.at.put_u16-requires c).Else-heard-ne0).1.1)

pub pack_listened-requires : goal.pack_listened-requires
pack_listened-requires c = ((small (goal.at.pack_listened-requires c).Else-heard-ne0).0, (small (goal.at.pack_listened-requires c).Else-heard-ne0).1.0)

pub returns : goal.returns
unfolding packed_listened
returns c =
    let i = input (goal.at.returns c).Start (two_at c.args.last.now 0) in
    accepted-listening i _ (listen i) (c.listen-heard.ensures ∙ ap (λ (l : ℕ). listen (input (goal.at.returns c).Start l)) c.last_of-given.ensures.0) c.pack_listened.result _ c.pack_listened.ensures
    (last_written c.args.last.now _ c.listen-heard.result.last (two (goal.at.returns c).After-last_of-given) c.put_u16.ensures)
