-- `node::sending::send_frame` meets its contract. Assumes nothing.
use borrow.Author.Tests.{not-true, not-false}
use Rattle.timestamp.specs.Views.{stamp_of}
use Rattle.node.proofs.Finish.{none-sent, one-sent}
use Rattle.node.proofs.sending.send_frame.Goals as goal

pub returns-then-not-send : goal.returns-then-not-send
returns-then-not-send c = none-sent c.args.setup.epsilon c.args.own (stamp_of c.args.stamp) c.args.send c.args.payload.now c.args.outgoing.now (not-true c.args.send c.if-not-send.true-raw)

pub lay-requires : goal.lay-requires
lay-requires c = c.requires

pub returns : goal.returns
returns c = one-sent c.args.setup.epsilon c.args.own (stamp_of c.args.stamp) c.args.send c.args.payload.now c.args.outgoing.now c.lay.result _ (not-false c.args.send c.if-not-send.false-raw) c.lay.ensures
