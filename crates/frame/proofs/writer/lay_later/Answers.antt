-- `frame::writer::lay_later` meets its contract: the second section is laid down, and what is left of the buffer is lent on to the payload's writer. Assumes nothing.
use native.Mathlib.Omega.{arith}
use Rattle.frame.proofs.Laying.{later-laid, length-later}
use Rattle.timestamp.specs.Views.{stamp_of}
use Rattle.frame.proofs.writer.lay_later.Goals as goal

pub returns : goal.returns
returns c =
    let a = c.args in
    let t = stamp_of a.stamp in
    record {
      long = omega (arith, length-later a.epsilon 0 t a.payload.now);
      bytes =
          later-laid a.out.now a.epsilon t a.payload.now c.put_stamp.new.out c.put_payload.new.rest
          (omega (arith, c.requires.room)) c.put_stamp.ensures c.put_payload.ensures;
    }
