-- `splice::cut` meets its contract: `move_left` and then `clear` make what is cut. Assumes nothing.
use Rattle.splice.proofs.Laws.{cut_out-made}
use Rattle.splice.proofs.cut.Goals as goal

pub returns : goal.returns
returns c =
    cut_out-made c.args.buf.now c.args.used c.args.at c.args.len c.requires.0 c.requires.1
    c.move_left.ensures
    c.clear.ensures
