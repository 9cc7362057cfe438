-- `holdback::change::insert_frame` meets its contract: `splice::insert` at the place, and the count one higher. Assumes nothing.
use Rattle.holdback.proofs.Changes.{frame-put}
use Rattle.holdback.proofs.change.insert_frame.Goals as goal

pub returns : goal.returns
returns c = λ queue f w e. frame-put w f c.args.frame.now _ _ e c.insert.ensures c.put_u16.ensures
