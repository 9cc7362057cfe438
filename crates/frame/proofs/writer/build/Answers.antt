-- `frame::writer::build` meets its contract: the later sections are laid down behind the first. Assumes nothing.
use native.Mathlib.Omega.{arith}
use Rattle.frame.proofs.Laying.{frame-laid, length-frame, length-later}
use Rattle.timestamp.specs.Views.{stamp_of}
use Rattle.frame.proofs.writer.build.Goals as goal

pub lay_later-requires : goal.lay_later-requires
lay_later-requires c =
    record {
      narrow = c.requires.narrow;
      c-fits = c.requires.c-fits;
      payload-fits = omega (arith, c.requires.payload-fits);
      room = omega (arith, c.requires.room, c.put_node.auto.out);
    }

pub returns : goal.returns
returns c =
    let a = c.args in
    let t = stamp_of a.stamp in
    let payload = a.payload.now in
    let later = c.lay_later.ensures in
    record {
      long = omega (arith, later.long, length-later a.epsilon 0 t payload, length-frame a.epsilon a.station t payload);
      bytes =
          frame-laid a.out.now a.epsilon a.station t payload c.put_node.new.out
          c.lay_later.new.out c.put_node.ensures later.bytes;
    }
