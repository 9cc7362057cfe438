-- `long::ticking::accept` meets its contract. Assumes nothing.
use native.Mathlib.Omega.{arith}
use mathlib.Core.Path.{◌≡◌}
use Rattle.model.specs.Timestamp.{widened}
use Rattle.model.specs.Tick.{Input}
use Rattle.model.specs.Long.{long_sound_holdback, long_tables_sound, long_new_stamp}
use Rattle.lemmas.proofs.LongTick.{LongPassed, long-passed, long_heard_stamp}
use Rattle.timestamp.specs.Views.{stamp_of}
use Rattle.node.specs.Views.{call_input}
use Rattle.node.proofs.Finish.{repair-small}
use Rattle.long.proofs.Finish.{call-timed, call-attending, call-stamp, own_room, heard-narrow, own-counted, send-room, accepted-output}
use Rattle.long.proofs.ticking.accept.Lts.View as view
use Rattle.long.proofs.ticking.accept.Goals.{After-attend-attended, After-count_own-stamp, Start}
use Rattle.long.proofs.ticking.accept.Goals as goal

abbrev input : Start → Input
input c = call_input c.args.setup c.args.own c.args.clock c.args.tables c.args.holdback.now c.args.batch.now c.args.send c.args.payload.now c.args.outgoing.now c.args.verdicts.now c.args.delivery.now

passed : (c : Start) → LongPassed (input c)
passed c = long-passed (input c) c.requires

pub open_stamp-opening-requires : goal.open_stamp-opening-requires
open_stamp-opening-requires c = call-timed (input (goal.at.open_stamp-opening-requires c).Start) (passed (goal.at.open_stamp-opening-requires c).Start)

pub attend-attended-requires : goal.attend-attended-requires
attend-attended-requires c = record { timed = call-timed (input (goal.at.attend-attended-requires c).Start) (passed (goal.at.attend-attended-requires c).Start); attending = call-attending (input (goal.at.attend-attended-requires c).Start) (passed (goal.at.attend-attended-requires c).Start) c.open_stamp-opening.ensures }

-- the stamp that has absorbed what was taken
absorbed : (c : After-attend-attended) → stamp_of c.attend-attended.result.stamp ≡ widened (long_heard_stamp (input c.before.before.before.before.before.before.before.before.before.before.before.before.before))
absorbed c = call-stamp (input c.before.before.before.before.before.before.before.before.before.before.before.before.before) (passed c.before.before.before.before.before.before.before.before.before.before.before.before.before) c.open_stamp-opening.ensures c.attend-attended.ensures.attended_stamp

pub count_own-stamp-requires : goal.count_own-stamp-requires
count_own-stamp-requires c =
    let limits = (passed (goal.at.count_own-stamp-requires c).Start).limits in
    let heard = absorbed (goal.at.count_own-stamp-requires c).After-attend-attended in
    record { le_epsilon = (limits.epsilon-pos, (limits.epsilon-most, own_room (input (goal.at.count_own-stamp-requires c).Start) (passed (goal.at.count_own-stamp-requires c).Start) heard)); self_value = heard-narrow (input (goal.at.count_own-stamp-requires c).Start) (passed (goal.at.count_own-stamp-requires c).Start) heard }

stamped : (c : After-count_own-stamp) → stamp_of c.count_own-stamp.result ≡ widened (long_new_stamp (input c.before.before.before.before.before.before.before.before.before.before.before.before.before.before.before.before.before.before.before.before.before.before))
stamped c = own-counted (input c.before.before.before.before.before.before.before.before.before.before.before.before.before.before.before.before.before.before.before.before.before.before) (passed c.before.before.before.before.before.before.before.before.before.before.before.before.before.before.before.before.before.before.before.before.before.before) (absorbed (view.up-After-attend-attended _ _ _ _ c.before.before.before.before.before.before.before.before.before.before)) c.count_own-stamp.ensures

pub send_frame-sent-requires : goal.send_frame-sent-requires
send_frame-sent-requires c = send-room (input (goal.at.send_frame-sent-requires c).Start) (stamp_of c.count_own-stamp.result) (passed (goal.at.send_frame-sent-requires c).Start) (stamped (goal.at.send_frame-sent-requires c).After-count_own-stamp)

pub overflow_add-result : goal.overflow_add-result
overflow_add-result c = omega (arith, repair-small c.open_stamp-opening.result.repair c.attend-attended.result.repair (long_tables_sound (input (goal.at.overflow_add-result c).Start).setup (input (goal.at.overflow_add-result c).Start).clock (input (goal.at.overflow_add-result c).Start).tables) (long_sound_holdback (input (goal.at.overflow_add-result c).Start).setup (input (goal.at.overflow_add-result c).Start).clock c.open_stamp-opening.result.least (input (goal.at.overflow_add-result c).Start).holdback) c.open_stamp-opening.ensures.repaired c.attend-attended.ensures.attended_queue.repaired)

pub returns : goal.returns
returns c = accepted-output (input (goal.at.returns c).Start) c.requires c.open_stamp-opening.ensures c.attend-attended.ensures.attended_queue (stamped (goal.at.returns c).After-count_own-stamp) c.send_frame-sent.ensures
