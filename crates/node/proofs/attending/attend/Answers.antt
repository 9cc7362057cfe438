-- `node::attending::attend` meets its contract. Assumes nothing.
use native.Mathlib.Omega.{arith}
use mathlib.Core.Path.{sym, ◌∙◌, ap}
use lib.ListN.{length}
use borrow.Author.Rules.{rules}
use Rattle.holdback.proofs.Seen.{length_seen}
use Rattle.holdback.proofs.Started.{starts-long}
use Rattle.setup.specs.Views.{setup_of}
use Rattle.node.proofs.Places.{size-two}
use Rattle.node.proofs.Nothing.{idle-queue, idle-stamp}
use Rattle.node.proofs.Shared.{closing, attended-queue, attended-stamp}
use Rattle.node.proofs.attending.attend.Goals as goal

pub pass_over-requires : goal.pass_over-requires
pass_over-requires c =
    let two = size-two (setup_of c.args.setup) (length c.args.holdback.now) c.requires.attending.size in
    (two, omega (arith, two, c.requires.attending.size, c.requires.attending.delivery-room))

pub returns-then-is_idle : goal.returns-then-is_idle
returns-then-is_idle c =
    let s = setup_of c.args.setup in
    let idle = sym c.is_idle.ensures ∙ c.if-is_idle.true in record { attended_queue = idle-queue c.args.listens s c.args.clock c.args.least c.args.batch.now c.args.holdback.now idle c.pass_over.ensures.value c.requires.attending.size c.pass_over.ensures.holdback_after.0 c.pass_over.ensures.holdback_after.1; attended_stamp = idle-stamp c.args.listens s c.args.clock c.args.least c.args.batch.now c.args.holdback.now idle c.pass_over.ensures.value c.requires.attending.hearing.narrow }

pub open_queue-opened-requires : goal.open_queue-opened-requires
open_queue-opened-requires c = record { timed = c.requires.timed; stored = (record { limits = c.requires.timed.0.limits; size = c.requires.attending.size }, c.requires.attending.delivery-room); seen_value = (search rules, search rules) }

pub slice_bounds-hear-end : goal.slice_bounds-hear-end
slice_bounds-hear-end c = sym (ap length c.open_queue-opened.ensures.queue_opened.queued.table_is ∙ length_seen (setup_of c.args.setup) c.args.clock _)

pub slice_bounds-hear-end-2 : goal.slice_bounds-hear-end-2
slice_bounds-hear-end-2 c = sym (starts-long (setup_of c.args.setup) c.args.clock _ c.open_queue-opened.ensures.queue_opened.queued.starts_is)

pub hear-heard-requires : goal.hear-heard-requires
hear-heard-requires c = record { timed = c.requires.timed.0; queued = c.open_queue-opened.ensures.queue_opened.queued; extent = c.open_queue-opened.ensures.queue_opened.extent; hearing = c.requires.attending.hearing }

pub slice_bounds-deliver-end : goal.slice_bounds-deliver-end
slice_bounds-deliver-end c = sym (starts-long (setup_of c.args.setup) c.args.clock _ c.hear-heard.ensures.heard_queue.queued.starts_is)

pub deliver-delivered-requires : goal.deliver-delivered-requires
deliver-delivered-requires c = (closing c.requires.timed.0 c.requires.timed.1 c.requires.attending.delivery-room c.open_queue-opened.ensures.overdue_given c.open_queue-opened.ensures.queue_opened c.hear-heard.ensures.heard_queue, c.hear-heard.ensures.heard_queue.queued.starts_is)

pub shape_of-holdback : goal.shape_of-holdback
shape_of-holdback c = omega (arith, c.open_queue-opened.auto.holdback, c.hear-heard.auto.holdback, c.deliver-delivered.auto.holdback)

pub returns : goal.returns
returns c = record { attended_queue = attended-queue c.requires.timed.0 c.requires.timed.1 c.requires.attending.delivery-room c.open_queue-opened.ensures.overdue_given c.open_queue-opened.ensures.queue_opened c.hear-heard.ensures.heard_queue c.deliver-delivered.ensures; attended_stamp = attended-stamp c.requires.timed.0 c.requires.timed.1 c.requires.attending.delivery-room c.open_queue-opened.ensures.overdue_given c.open_queue-opened.ensures.queue_opened c.hear-heard.ensures.heard_stamp }
