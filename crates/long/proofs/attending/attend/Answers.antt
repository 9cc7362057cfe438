-- `long::attending::attend` meets its contract. Assumes nothing.
use Rattle.setup.specs.Views.{setup_of}
use Rattle.long.proofs.Finish.{attended-queue, attended-stamp}
use Rattle.long.proofs.attending.attend.Goals as goal

pub open-opened-requires : goal.open-opened-requires
open-opened-requires c = record { setup_value = (c.requires.timed.limits, c.requires.timed.below); buf_len = c.requires.attending.size }

pub hear-heard-requires : goal.hear-heard-requires
hear-heard-requires c = record { timed = c.requires.timed; holding = record { extent = c.open-opened.ensures.known; single = c.open-opened.ensures.single }; hearing = c.requires.attending.hearing }

pub deliver-delivered-requires : goal.deliver-delivered-requires
deliver-delivered-requires c = record { setup_value = c.requires.timed.limits; extent = c.hear-heard.ensures.heard_queue.holding.extent; buf_value = (c.hear-heard.ensures.heard_queue.holding.single, c.requires.attending.delivery-room) }

pub returns : goal.returns
returns c =
    let s = setup_of c.args.setup in
    record { attended_queue = attended-queue s c.args.clock c.args.least c.args.holdback.now _ c.open-opened.ensures.held-is c.open-opened.ensures.repair-is c.hear-heard.ensures.heard_queue c.deliver-delivered.ensures.value c.deliver-delivered.ensures.delivery_after c.deliver-delivered.ensures.buf_after; attended_stamp = attended-stamp s c.args.clock c.args.least c.args.holdback.now _ c.open-opened.ensures.held-is c.hear-heard.ensures.heard_stamp }
