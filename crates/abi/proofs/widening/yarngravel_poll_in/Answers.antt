-- `abi::yarngravel_poll_in` meets its contract. Assumes nothing.
use Prim.Native.Nat.{ℕ, ◌<◌}
use mathlib.Core.Path.{◌≡◌, ◌∙◌, sym, ap, subst}
use Rattle.model.specs.Setup.{Setup}
use Rattle.model.specs.Schedule.{Wider}
use Rattle.model.specs.Poll.{PollAnswer}
use Rattle.model.specs.WiderCalls.{poll_in}
use Rattle.setup.specs.Views.{setup_of}
use Rattle.pairs.specs.Views.{wider_of}
use Rattle.polling.specs.Answers.{SmallNext}
use Rattle.abi.specs.Packing.{packed_poll}
use Rattle.abi.specs.Both.{setup_in, own_in, wider_in}
use Rattle.abi.proofs.Both.{poll-small-in}
use Rattle.abi.proofs.widening.yarngravel_poll_in.Goals.{After-poll_in-polled}
use Rattle.abi.proofs.widening.yarngravel_poll_in.Goals as goal

-- the answer, from the numbers
made : (c : After-poll_in-polled) → let a = c.args in
    (x : PollAnswer) → x ≡ poll_in (setup_of c.setup_of-before.result) (wider_of c.wider_of-wider.result) c.own_of-own.result a.clock a.within a.holdback.now
    → x ≡ poll_in (setup_in a.setup.now) (wider_in a.setup.now) (own_in a.setup.now) a.clock a.within a.holdback.now
made c x e =
    let a = c.args in
    e
    ∙ (ap (λ (s : Setup). poll_in s (wider_of c.wider_of-wider.result) c.own_of-own.result a.clock a.within a.holdback.now) c.setup_of-before.ensures
    ∙ (ap (λ (w : Wider). poll_in (setup_in a.setup.now) w c.own_of-own.result a.clock a.within a.holdback.now) c.wider_of-wider.ensures
    ∙ ap (λ (k : ℕ). poll_in (setup_in a.setup.now) (wider_in a.setup.now) k a.clock a.within a.holdback.now) c.own_of-own.ensures))

pub pack_polled-requires : goal.pack_polled-requires
pack_polled-requires c =
    let a = c.args in
    subst (λ (x : PollAnswer). SmallNext x.next × (x.within < 65536)) (sym (made (goal.at.pack_polled-requires c).After-poll_in-polled _ c.poll_in-polled.ensures))
    (poll-small-in (setup_in a.setup.now) (wider_in a.setup.now) (own_in a.setup.now) a.clock a.within a.holdback.now)

pub returns : goal.returns
returns c = c.pack_polled.ensures ∙ ap packed_poll (made (goal.at.returns c).After-poll_in-polled _ c.poll_in-polled.ensures)
