-- `widerobserver::listening::heed` meets its contract. Assumes nothing.
use native.Mathlib.Omega.{arith}
use Rattle.model.specs.Observer.{Listening}
use Rattle.model.specs.Wider.{wider_sound_holdback}
use Rattle.setup.specs.Views.{setup_of}
use Rattle.setup.specs.declared.limits.Setup.{Setup}
use Rattle.node.proofs.Finish.{repair-small}
use Rattle.observer.specs.Views.{listen_input}
use Rattle.pairs.specs.Views.{schedule_of}
use Rattle.widernode.proofs.Times.{Own, own-facts}
use Rattle.widernode.proofs.Tables.{own-timed}
use Rattle.widerobserver.proofs.Finish.{call-attending, last-judged, accepted-output}
use Rattle.widerobserver.proofs.listening.heed.Goals.{After-own_limits-own, Start}
use Rattle.widerobserver.proofs.listening.heed.Goals as goal

-- whatever setup was asked about
abbrev input : Start → Setup → Listening
input c given = listen_input given c.args.clock c.args.last c.args.holdback.now c.args.batch.now c.args.verdicts.now c.args.delivery.now

own : (c : After-own_limits-own) → Own (schedule_of c.args.p) (setup_of c.own_limits-own.result)
own c = own-facts (schedule_of c.args.p) c.requires.timed.good c.own_limits-own.ensures

pub clock_sound-sound-requires : goal.clock_sound-sound-requires
clock_sound-sound-requires c = let o = own (goal.at.clock_sound-sound-requires c).After-own_limits-own in (omega (arith, o, o.limits.modulus-most), omega (arith, o, c.requires.timed.below))

pub open_clock-opened-requires : goal.open_clock-opened-requires
open_clock-opened-requires c =
    let g = schedule_of c.args.p in
    (own-timed g c.args.clock c.requires.timed c.own_limits-own.ensures, last-judged g (input (goal.at.open_clock-opened-requires c).Start c.args.p.before) (own (goal.at.open_clock-opened-requires c).After-own_limits-own) c.clock_sound-sound.ensures)

pub attend-attended-requires : goal.attend-attended-requires
attend-attended-requires c =
    let g = schedule_of c.args.p in
    let o = own (goal.at.attend-attended-requires c).After-own_limits-own in record { timed = (c.requires.timed, rw c.own_limits-own.ensures at c.open_clock-opened.ensures.recent); attending = call-attending g (input (goal.at.attend-attended-requires c).Start c.args.p.before) o c.requires (c.replaced-stamp.ensures c.own_limits-own.result.epsilon (omega (arith, o, o.limits.epsilon-most))) }

pub overflow_add-result : goal.overflow_add-result
overflow_add-result c = omega (arith, repair-small c.open_clock-opened.result.repair c.attend-attended.result.repair c.clock_sound-sound.result (wider_sound_holdback (schedule_of c.args.p) c.args.clock c.open_clock-opened.result.least c.args.holdback.now) c.open_clock-opened.ensures.repaired c.attend-attended.ensures.attended_queue.repaired)

pub returns : goal.returns
returns c = λ given. accepted-output (schedule_of c.args.p) (input (goal.at.returns c).Start given) (own (goal.at.returns c).After-own_limits-own) c.clock_sound-sound.ensures c.open_clock-opened.ensures c.attend-attended.ensures.attended_queue
