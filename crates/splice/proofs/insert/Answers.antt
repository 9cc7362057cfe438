-- `splice::insert` meets its contract: `move_right` and then `copy_into` make what is inserted. Assumes nothing.
use Rattle.splice.proofs.Laws.{inserted-made}
use Rattle.splice.proofs.insert.Goals as goal

pub returns : goal.returns
returns c =
    inserted-made c.args.buf.now c.args.used c.args.at c.args.src.now c.requires.0 c.requires.1
    c.move_right.ensures
    c.copy_into.ensures
