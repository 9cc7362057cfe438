-- `widerframe::codec::write_in` meets its contract: behind 1 and 19 it is the plain writer of the pair that has the width. Assumes nothing.
use mathlib.Core.Path.{sym, ap, ◌∙◌}
use Rattle.model.specs.Setup.{Setup}
use Rattle.model.specs.Codec.{write}
use Rattle.setup.specs.Views.{setup_of}
use Rattle.timestamp.specs.Views.{stamp_of}
use Rattle.pairs.specs.Views.{wider_of}
use Rattle.widerframe.proofs.Codecs.{write-in-refused, write-in-side}
use Rattle.widerframe.proofs.codec.write_in.Goals as goal

pub returns-then-number-ne0 : goal.returns-then-number-ne0
returns-then-number-ne0 c =
    let a = c.args in
    sym (write-in-refused (setup_of a.setup) (wider_of a.wider) a.own a.station a.wide (stamp_of a.stamp) a.payload.now a.out.now c.check_both-number.result c.check_both-number.ensures c.if-number-ne0.true)

pub returns : goal.returns
returns c =
    let a = c.args in
    c.write.ensures
    ∙ (ap (λ (pair : Setup). write pair a.own a.station (stamp_of a.stamp) a.payload.now a.out.now) c.written_side-side.ensures
    ∙ sym (write-in-side (setup_of a.setup) (wider_of a.wider) a.own (sym c.if-number-ne0.false ∙ c.check_both-number.ensures) a.station a.wide (stamp_of a.stamp) a.payload.now a.out.now))
