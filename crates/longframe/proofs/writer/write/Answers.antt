-- `longframe::writer::write` meets its contract. Assumes nothing.
use mathlib.Core.Path.{◌∙◌, sym}
use Rattle.longframe.proofs.Asking.{room_of, write-accepted, write-refused}
use Rattle.setup.specs.Views.{setup_of}
use Rattle.timestamp.specs.Views.{stamp_of}
use Rattle.model.specs.Codec.{frame_of}
use Rattle.longframe.proofs.writer.write.Goals as goal

pub returns-then-number-ne0 : goal.returns-then-number-ne0
returns-then-number-ne0 c =
    let a = c.args in
    rw (write-refused (setup_of a.setup) a.own (frame_of a.setup.epsilon a.station (stamp_of a.stamp) a.payload.now) a.out.now c.check_write-number.result c.check_write-number.ensures c.if-number-ne0.true)

pub lay-size-requires : goal.lay-size-requires
lay-size-requires c =
    let a = c.args in
    room_of (setup_of a.setup) a.own a.station (stamp_of a.stamp) a.payload.now a.out.now (sym c.check_write-number.ensures ∙ c.if-number-ne0.false)

pub returns : goal.returns
returns c =
    let a = c.args in
    rw (write-accepted (setup_of a.setup) a.own (frame_of a.setup.epsilon a.station (stamp_of a.stamp) a.payload.now) a.out.now
    c.check_write-number.result c.check_write-number.ensures c.if-number-ne0.false)
    (cc (c.lay-size.ensures.long, c.lay-size.ensures.bytes))
