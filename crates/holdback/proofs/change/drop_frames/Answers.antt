-- `holdback::change::drop_frames` meets its contract: the others move to the front, and the count falls. Assumes nothing.
use Rattle.holdback.proofs.Changes.{frames-dropped}
use Rattle.holdback.proofs.change.drop_frames.Goals as goal

pub returns : goal.returns
returns c = λ queue w. frames-dropped w _ _ c.move_left.ensures c.put_u16.ensures
