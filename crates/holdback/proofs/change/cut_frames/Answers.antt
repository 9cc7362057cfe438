-- `holdback::change::cut_frames` meets its contract: the prefix is cut off, and zeros follow the others to the end. Assumes nothing.
use Rattle.holdback.proofs.Changes.{frames-cut}
use Rattle.holdback.proofs.change.cut_frames.Goals as goal

pub returns : goal.returns
returns c = λ queue w. frames-cut w _ _ (c.drop_frames.ensures queue w) c.clear.ensures
