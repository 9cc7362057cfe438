-- `longframe::writer::build` meets its contract: what is left of the buffer six bytes on is lent on to the writer of the later sections. Assumes nothing.
use native.Mathlib.Omega.{arith}
use Rattle.frame.proofs.Laying.{length-later}
use Rattle.longframe.proofs.Asking.{frame-laid, length-frame}
use Rattle.timestamp.specs.Views.{stamp_of}
use Rattle.longframe.proofs.writer.build.Goals as goal

pub overflow_add-result : goal.overflow_add-result
overflow_add-result c = omega (arith, c.lay_later.ensures.long, length-later c.args.epsilon 0 (stamp_of c.args.stamp) c.args.payload.now, c.requires.narrow, c.requires.payload-fits)

pub returns : goal.returns
returns c =
    let a = c.args in
    let t = stamp_of a.stamp in
    record {
      long = omega (arith, c.lay_later.ensures.long, length-later a.epsilon 0 t a.payload.now, length-frame a.epsilon a.station t a.payload.now);
      bytes =
          frame-laid a.out.now a.epsilon a.station t a.payload.now c.put_node.new.out c.lay_later.new.out
          (omega (arith, c.requires.room)) c.put_node.ensures c.put_node.auto.out c.lay_later.ensures.bytes;
    }
