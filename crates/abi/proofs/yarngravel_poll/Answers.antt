-- `abi::yarngravel_poll` meets its contract. Assumes nothing.
use mathlib.Core.Path.{◌∙◌, sym, ap, subst}
use Prim.Native.Nat.{◌<◌}
use Rattle.model.specs.Poll.{PollAnswer}
use Rattle.polling.specs.Answers.{SmallNext}
use Rattle.polling.proofs.Asking.{poll-small}
use Rattle.abi.specs.Packing.{setup_by, packed_poll}
use Rattle.abi.proofs.yarngravel_poll.Goals as goal

pub pack_polled-requires : goal.pack_polled-requires
pack_polled-requires c =
    let a = c.args in
    subst (λ (x : PollAnswer). SmallNext x.next × (x.within < 65536)) (sym c.poll-polled.ensures)
    (poll-small (setup_by a.n a.epsilon a.delta a.modulus) a.own a.clock a.within a.holdback.now)

pub returns : goal.returns
returns c = c.pack_polled.ensures ∙ ap packed_poll c.poll-polled.ensures
