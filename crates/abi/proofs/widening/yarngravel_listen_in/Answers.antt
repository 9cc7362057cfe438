-- `abi::yarngravel_listen_in` meets its contract. Assumes nothing.
use Prim.Native.Nat.{ℕ, ◌<◌}
use native.Mathlib.Omega.{arith}
use mathlib.Core.Path.{◌≡◌, ◌∙◌, sym, ap}
use lib.ListN.{length}
use borrow.Author.Rules.{rules}
use Rattle.model.specs.Setup.{Setup}
use Rattle.model.specs.Frame.{two_at, two_bytes}
use Rattle.model.specs.Schedule.{Wider}
use Rattle.model.specs.Observer.{Listening, Listened}
use Rattle.model.specs.WiderCalls.{listen_in}
use Rattle.setup.specs.Views.{setup_of}
use Rattle.pairs.specs.Views.{wider_of}
use Rattle.abi.specs.Packing.{packed_listened}
use Rattle.abi.specs.Both.{setup_in, wider_in}
use Rattle.abi.proofs.Words.{last_written, refused-listening, accepted-listening}
use Rattle.abi.proofs.Both.{refused-listen-in, listened-small-in}
use Rattle.abi.proofs.widening.yarngravel_listen_in.Lts.View as view
use Rattle.abi.proofs.widening.yarngravel_listen_in.Goals.{After-last_of-given, After-listen_in-heard, Else-heard-ne0, Start}
use Rattle.abi.proofs.widening.yarngravel_listen_in.Goals as goal

-- its arguments, by the setup and the last clock
abbrev input : Start → Setup → ℕ → Listening
input c s last =
    record {
      setup = s;
      clock = c.args.clock;
      last = last;
      holdback = c.args.holdback.now;
      batch = c.args.batch.now;
      verdicts = c.args.verdicts.now;
      delivery = c.args.delivery.now;
    }

-- as they stand in the bytes
abbrev given : Start → Listening
given c = input c (setup_in c.args.setup.now) (two_at c.args.last.now 0)

abbrev wider : Start → Wider
wider c = wider_in c.args.setup.now

-- what it answers, from the numbers and the bytes of its last clock
made : (c : After-listen_in-heard) (o : Listened) → o ≡ listen_in (wider_of c.wider_of-wider.result) (input c.before.before.before.before.before.before.before.before.before.before.before.before.before.before (setup_of c.setup_of-before.result) c.last_of-given.result) → o ≡ listen_in (wider c.before.before.before.before.before.before.before.before.before.before.before.before.before.before) (given c.before.before.before.before.before.before.before.before.before.before.before.before.before.before)
made c o e =
    e
    ∙ (ap (λ (w : Wider). listen_in w (input c.before.before.before.before.before.before.before.before.before.before.before.before.before.before (setup_of c.setup_of-before.result) c.last_of-given.result)) c.wider_of-wider.ensures
    ∙ (ap (λ (s : Setup). listen_in (wider c.before.before.before.before.before.before.before.before.before.before.before.before.before.before) (input c.before.before.before.before.before.before.before.before.before.before.before.before.before.before s c.last_of-given.result)) c.setup_of-before.ensures
    ∙ ap (λ (l : ℕ). listen_in (wider c.before.before.before.before.before.before.before.before.before.before.before.before.before.before) (input c.before.before.before.before.before.before.before.before.before.before.before.before.before.before (setup_in c.args.setup.now) l)) c.last_of-given.ensures.0))

pub returns-then-heard-ne0 : goal.returns-then-heard-ne0
returns-then-heard-ne0 c =
    let i = given (goal.at.returns-then-heard-ne0 c).Start in
    refused-listening i _ (listen_in (wider (goal.at.returns-then-heard-ne0 c).Start) i) (made (goal.at.returns-then-heard-ne0 c).After-listen_in-heard _ c.listen_in-heard.ensures) c.args.last.now (ap two_bytes (sym c.last_of-given.ensures.0) ∙ c.last_of-given.ensures.1) (refused-listen-in (wider (goal.at.returns-then-heard-ne0 c).Start) i) c.if-heard-ne0.true

-- the last clock has two bytes
two : (c : After-last_of-given) → length c.args.last.now ≡ 2
unfolding two_bytes
two c = sym (ap length c.last_of-given.ensures.1)

small : (c : Else-heard-ne0) → (c.listen_in-heard.result.taken < 256) × ((c.listen_in-heard.result.delivered < 65536) × (c.listen_in-heard.result.last < 65536))
small c =
    let figures = listened-small-in (wider c.before.before.before.before.before.before.before.before.before.before.before.before.before.before.before.before.before.before.before.before.before.before) (given c.before.before.before.before.before.before.before.before.before.before.before.before.before.before.before.before.before.before.before.before.before.before) _ (made (view.up-After-listen_in-heard _ _ _ c.before.before.before.before.before.before.before.before.before) _ c.listen_in-heard.ensures) c.if-heard-ne0.false (omega (arith, c.shared_slice_known-1.given 0)) in
    (figures.taken-small, (figures.delivered-small, figures.last-small))

pub put_u16-requires : goal.put_u16-requires
put_u16-requires c = (search rules, (small (goal.at.put_u16-requires c).Else-heard-ne0).1.1)

pub pack_listened-requires : goal.pack_listened-requires
pack_listened-requires c = ((small (goal.at.pack_listened-requires c).Else-heard-ne0).0, (small (goal.at.pack_listened-requires c).Else-heard-ne0).1.0)

pub returns : goal.returns
unfolding packed_listened
returns c =
    let i = given (goal.at.returns c).Start in
    accepted-listening i _ (listen_in (wider (goal.at.returns c).Start) i) (made (goal.at.returns c).After-listen_in-heard _ c.listen_in-heard.ensures) c.pack_listened.result _ c.pack_listened.ensures
    (last_written c.args.last.now _ c.listen_in-heard.result.last (two (goal.at.returns c).After-last_of-given) c.put_u16.ensures)
