-- `frame::writer::write` meets its contract. Assumes nothing.
use mathlib.Core.Path.{◌∙◌, sym}
use Rattle.frame.proofs.Asking.{room_of, write-accepted, write-refused}
use Rattle.setup.specs.Views.{setup_of}
use Rattle.timestamp.specs.Views.{stamp_of}
use Rattle.model.specs.Codec.{frame_of}
use Rattle.frame.proofs.writer.write.Goals as goal

pub returns-then-number-ne0 : goal.returns-then-number-ne0
returns-then-number-ne0 c = rw (write-refused (setup_of c.args.setup) c.args.own (frame_of c.args.setup.epsilon c.args.station (stamp_of c.args.stamp) c.args.payload.now) c.args.out.now c.check_write-number.result c.check_write-number.ensures c.if-number-ne0.true)

pub lay-size-requires : goal.lay-size-requires
lay-size-requires c = room_of (setup_of c.args.setup) c.args.own c.args.station (stamp_of c.args.stamp) c.args.payload.now c.args.out.now (sym c.check_write-number.ensures ∙ c.if-number-ne0.false)

pub returns : goal.returns
returns c =
    rw (write-accepted (setup_of c.args.setup) c.args.own (frame_of c.args.setup.epsilon c.args.station (stamp_of c.args.stamp) c.args.payload.now) c.args.out.now c.check_write-number.result c.check_write-number.ensures c.if-number-ne0.false)
    (cc (c.lay-size.ensures.long, c.lay-size.ensures.bytes))
