-- `observer::listening::heed` meets its contract. Assumes nothing.
use native.Mathlib.Omega.{arith}
use Rattle.model.specs.Holdback.{sound_holdback}
use Rattle.model.specs.Observer.{Listening}
use Rattle.node.proofs.Finish.{repair-small}
use Rattle.observer.specs.Views.{listen_input}
use Rattle.observer.proofs.Finish.{Call, call-passed, call-attending, last-judged, accepted-output}
use Rattle.observer.proofs.listening.heed.Goals.{Start}
use Rattle.observer.proofs.listening.heed.Goals as goal

abbrev input : Start → Listening
input c = listen_input c.args.setup c.args.clock c.args.last c.args.holdback.now c.args.batch.now c.args.verdicts.now c.args.delivery.now

call : (c : Start) → Call (input c)
call c = call-passed (input c) c.requires

pub clock_sound-sound-requires : goal.clock_sound-sound-requires
clock_sound-sound-requires c = let passed = call (goal.at.clock_sound-sound-requires c).Start in (passed.limits.modulus-most, passed.timed.below)

pub open_clock-opened-requires : goal.open_clock-opened-requires
open_clock-opened-requires c = ((call (goal.at.open_clock-opened-requires c).Start).timed, last-judged (input (goal.at.open_clock-opened-requires c).Start) c.clock_sound-sound.ensures)

pub attend-attended-requires : goal.attend-attended-requires
attend-attended-requires c = let passed = call (goal.at.attend-attended-requires c).Start in record { timed = (passed.timed, c.open_clock-opened.ensures.recent); attending = call-attending (input (goal.at.attend-attended-requires c).Start) passed (c.replaced-stamp.ensures c.args.setup.epsilon passed.limits.epsilon-most) }

pub overflow_add-result : goal.overflow_add-result
overflow_add-result c = omega (arith, repair-small c.open_clock-opened.result.repair c.attend-attended.result.repair c.clock_sound-sound.result (sound_holdback (input (goal.at.overflow_add-result c).Start).setup (input (goal.at.overflow_add-result c).Start).clock c.open_clock-opened.result.least (input (goal.at.overflow_add-result c).Start).holdback) c.open_clock-opened.ensures.repaired c.attend-attended.ensures.attended_queue.repaired)

pub returns : goal.returns
returns c = accepted-output (input (goal.at.returns c).Start) c.clock_sound-sound.ensures c.open_clock-opened.ensures c.requires c.attend-attended.ensures.attended_queue
