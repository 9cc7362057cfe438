-- `widernode::ticking::accept` meets its contract. Assumes nothing.
use native.Mathlib.Omega.{arith}
use mathlib.Core.Path.{◌≡◌}
use Rattle.model.specs.Timestamp.{widened}
use Rattle.model.specs.Tick.{Input}
use Rattle.model.specs.Wider.{wider_sound_holdback, wider_tables_sound, wider_heard_stamp, wider_new_stamp}
use Rattle.setup.specs.Views.{setup_of}
use Rattle.setup.specs.declared.limits.Setup.{Setup}
use Rattle.timestamp.specs.Views.{stamp_of}
use Rattle.node.specs.Views.{call_input}
use Rattle.node.proofs.Finish.{repair-small}
use Rattle.pairs.specs.Views.{schedule_of}
use Rattle.widernode.proofs.Times.{Own, own-facts}
use Rattle.widernode.proofs.Finish.{call-attending, call-stamp, call-repair, call-queue, own_room, heard-narrow, own-count-is, send-room, accepted-output}
use Rattle.widernode.proofs.ticking.accept.Lts.View as view
use Rattle.widernode.proofs.ticking.accept.Goals.{After-attend-attended, After-count_own-stamp, After-own_limits-limits, Start}
use Rattle.widernode.proofs.ticking.accept.Goals as goal

-- whatever setup was asked about
abbrev input : Start → Setup → Input
input c given = call_input given c.args.own c.args.clock c.args.tables c.args.holdback.now c.args.batch.now c.args.send c.args.payload.now c.args.outgoing.now c.args.verdicts.now c.args.delivery.now

pub attend-attended-requires : goal.attend-attended-requires
attend-attended-requires c = record { timed = (c.requires.timed, c.open_stamp-opening.ensures.recent); attending = call-attending (schedule_of c.args.p) (input (goal.at.attend-attended-requires c).Start c.args.p.before) c.requires c.open_stamp-opening.ensures }

-- the stamp that has absorbed what was taken
absorbed : (c : After-attend-attended) (given : Setup) → stamp_of c.attend-attended.result.stamp ≡ widened (wider_heard_stamp (schedule_of c.args.p) (input c.before.before.before.before.before.before.before.before.before.before.before.before.before given))
absorbed c given = call-stamp (schedule_of c.args.p) (input c.before.before.before.before.before.before.before.before.before.before.before.before.before given) c.requires c.open_stamp-opening.ensures c.attend-attended.ensures.stamp_value

own : (c : After-own_limits-limits) → Own (schedule_of c.args.p) (setup_of c.own_limits-limits.result)
own c = own-facts (schedule_of c.args.p) c.requires.timed.good c.own_limits-limits.ensures

pub count_own-stamp-requires : goal.count_own-stamp-requires
count_own-stamp-requires c =
    let g = schedule_of c.args.p in
    let given = c.args.p.before in
    let o = own (goal.at.count_own-stamp-requires c).After-own_limits-limits in
    let heard = absorbed (goal.at.count_own-stamp-requires c).After-attend-attended given in
    record { le_epsilon = (omega (arith, o, o.limits.epsilon-pos), (omega (arith, o, o.limits.epsilon-most), own_room g (input (goal.at.count_own-stamp-requires c).Start given) c.requires o.epsilon heard)); self_value = heard-narrow g (input (goal.at.count_own-stamp-requires c).Start given) c.requires o.epsilon heard }

stamped : (c : After-count_own-stamp) (given : Setup) → stamp_of c.count_own-stamp.result ≡ widened (wider_new_stamp (schedule_of c.args.p) (input c.before.before.before.before.before.before.before.before.before.before.before.before.before.before.before.before.before.before.before.before.before.before.before given))
stamped c given = own-count-is (schedule_of c.args.p) (input c.before.before.before.before.before.before.before.before.before.before.before.before.before.before.before.before.before.before.before.before.before.before.before given) c.requires (own (view.up-After-own_limits-limits _ _ _ _ c.before.before.before)).epsilon (absorbed (view.up-After-attend-attended _ _ _ _ c.before.before.before.before.before.before.before.before.before.before.before) given) c.count_own-stamp.ensures

pub send_frame-sent-requires : goal.send_frame-sent-requires
send_frame-sent-requires c =
    let given = c.args.p.before in
    send-room (schedule_of c.args.p) (input (goal.at.send_frame-sent-requires c).Start given) c.requires (own (goal.at.send_frame-sent-requires c).After-own_limits-limits).epsilon (stamped (goal.at.send_frame-sent-requires c).After-count_own-stamp given)

pub overflow_add-result : goal.overflow_add-result
overflow_add-result c =
    let g = schedule_of c.args.p in
    omega (arith, repair-small c.open_stamp-opening.result.repair c.attend-attended.result.repair (wider_tables_sound g c.args.clock (stamp_of c.args.tables)) (wider_sound_holdback g c.args.clock c.open_stamp-opening.result.least c.args.holdback.now) c.open_stamp-opening.ensures.repaired c.attend-attended.ensures.attended_queue.repaired)

pub returns : goal.returns
returns c =
    let g = schedule_of c.args.p in
    λ given.
    accepted-output g (input (goal.at.returns c).Start given) c.requires (own (goal.at.returns c).After-own_limits-limits).epsilon (call-queue g (input (goal.at.returns c).Start given) c.requires c.open_stamp-opening.ensures c.attend-attended.ensures.attended_queue) (stamped (goal.at.returns c).After-count_own-stamp given)
    (call-repair g (input (goal.at.returns c).Start given) c.requires c.open_stamp-opening.ensures c.attend-attended.ensures.attended_queue.repaired) c.send_frame-sent.ensures
