-- `holdback::due::front_below` meets its contract: an entry taken apart. Assumes nothing.
use Rattle.std.proofs.Common.{arith}
use Rattle.setup.specs.Views.{setup_of}
use Rattle.model.specs.Setup.{Setup}
use Rattle.lemmas.proofs.Bounds.{Limits}
use Rattle.lemmas.proofs.Questions.{limits-from}
use Rattle.holdback.proofs.Started.{used-most, starts-long, starts-at, start-stands}
use Rattle.holdback.proofs.due.front_below.Goals.{Start}
use Rattle.holdback.proofs.due.front_below.Goals as goal

module _ (c : Start) where
  abbrev s : Setup
  s = setup_of c.args.setup

  limits : Limits s
  limits = limits-from s c.requires.setup_value.0

pub offset_bounds-starts-k : goal.offset_bounds-starts-k
offset_bounds-starts-k c = omega (arith, c.requires.setup_value.1, used-most (s (goal.at.offset_bounds-starts-k c).Start) (limits (goal.at.offset_bounds-starts-k c).Start))

pub bounds-starts-k : goal.bounds-starts-k
bounds-starts-k c = omega (arith, c.requires.setup_value.1, used-most (s (goal.at.bounds-starts-k c).Start) (limits (goal.at.bounds-starts-k c).Start), starts-long (s (goal.at.bounds-starts-k c).Start) c.args.clock c.args.buf.now c.requires.sound_by.1)

pub overflow_cast-start : goal.overflow_cast-start
overflow_cast-start c = omega (arith, c.shared_slice_known-1.given c.args.k)

pub returns : goal.returns
returns c =
    start-stands (s (goal.at.returns c).Start) c.args.clock c.requires.sound_by.0.least c.args.buf.now (limits (goal.at.returns c).Start) c.requires.sound_by.0.sound c.args.k _
    (starts-at (s (goal.at.returns c).Start) c.args.clock c.args.buf.now (limits (goal.at.returns c).Start) c.requires.sound_by.1 c.args.k c.requires.setup_value.1)
