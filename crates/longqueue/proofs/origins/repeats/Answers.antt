-- `longqueue::origins::repeats` meets its contract: the search from the first frame on. Assumes nothing.
use mathlib.Core.Path.{ap, sym, ◌∙◌}
use Rattle.laws.specs.Lists.{any}
use Rattle.model.specs.Holdback.{same_origin}
use Rattle.model.specs.Long.{long_decode}
use Rattle.longqueue.specs.Queue.{frames_from}
use Rattle.longqueue.proofs.Extents.{held-from}
use Rattle.longqueue.proofs.origins.repeats.Goals as goal

pub returns : goal.returns
returns c =
    c.origin_among.ensures
    ∙ ap (any (same_origin (long_decode c.args.epsilon c.args.frame.now)))
    (ap (frames_from c.args.epsilon c.args.buf.now 2) c.requires.count_value.0 ∙ sym (held-from c.args.epsilon c.args.buf.now))
