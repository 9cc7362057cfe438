-- `widernode::attending::attend` meets its contract. Assumes nothing.
use native.Mathlib.Omega.{arith}
use mathlib.Core.Path.{sym, ◌∙◌}
use lib.ListN.{length}
use Rattle.setup.specs.Views.{setup_of}
use Rattle.timestamp.specs.Views.{stamp_of}
use Rattle.pairs.specs.Views.{schedule_of}
use Rattle.node.proofs.Places.{size-two}
use Rattle.widernode.proofs.Shared.{closing, attended-queue, attended-stamp, idle-queue, idle-stamp}
use Rattle.widernode.proofs.attending.attend.Goals as goal

pub pass_over-requires : goal.pass_over-requires
pass_over-requires c =
    let two = size-two (setup_of c.args.p.after) (length c.args.holdback.now) c.requires.attending.size in
    (two, omega (arith, two, c.requires.attending.size, c.requires.attending.delivery-room))

pub returns-then-is_idle : goal.returns-then-is_idle
returns-then-is_idle c =
    let g = schedule_of c.args.p in
    let idle = sym c.is_idle.ensures ∙ c.if-is_idle.true in record { attended_queue = idle-queue c.args.listens g c.args.clock c.args.least c.args.batch.now c.args.holdback.now idle c.pass_over.ensures.value c.requires.attending.size c.pass_over.ensures.holdback_after.0 c.pass_over.ensures.holdback_after.1; stamp_value = idle-stamp c.args.listens g c.args.clock c.args.least c.args.batch.now c.args.holdback.now idle c.pass_over.ensures.value c.requires.attending.hearing.narrow }

pub hear-heard-requires : goal.hear-heard-requires
hear-heard-requires c = record { timed = c.requires.timed.0; queued = (c.open_queue-opened.ensures.queue_opened.queued, c.open_queue-opened.ensures.queue_opened.extent); hearing = c.requires.attending.hearing }

pub deliver-delivered-requires : goal.deliver-delivered-requires
deliver-delivered-requires c = closing c.requires.timed.0 c.requires.timed.1 c.requires.attending.delivery-room c.open_queue-opened.ensures.overdue_given c.open_queue-opened.ensures.queue_opened c.hear-heard.ensures.heard_queue

pub returns : goal.returns
returns c = record { attended_queue = attended-queue c.requires.timed.0 c.requires.timed.1 c.requires.attending.delivery-room c.open_queue-opened.ensures.overdue_given c.open_queue-opened.ensures.queue_opened c.hear-heard.ensures.heard_queue c.deliver-delivered.ensures; stamp_value = attended-stamp c.requires.timed.0 c.requires.timed.1 c.requires.attending.delivery-room c.open_queue-opened.ensures.overdue_given c.open_queue-opened.ensures.queue_opened c.args.listens c.args.batch.now (stamp_of c.args.stamp) c.hear-heard.ensures.stamp_value }
