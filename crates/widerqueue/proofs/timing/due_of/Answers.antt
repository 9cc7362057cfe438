-- `widerqueue::timing::due_of` meets its contract: the due clock of its sum. Assumes nothing.
use native.Mathlib.Omega.{arith}
use mathlib.Core.Path.{◌≡◌, ◌∙◌}
use Prim.Native.Nat.{◌+◌, ◌≤◌, ◌^◌}
use Rattle.model.specs.Schedule.{Schedule}
use Rattle.model.specs.Wider.{wider_reading, wider_decode}
use Rattle.setup.specs.Views.{setup_of}
use Rattle.pairs.specs.Views.{schedule_of}
use Rattle.widerqueue.proofs.Shared.{reading-same, c-same}
use Rattle.widerqueue.proofs.Orders.{read-asks}
use Rattle.widerqueue.proofs.Times.{sum-small, due-small, due-read}
use Rattle.widerqueue.proofs.timing.due_of.Goals.{After-c_of}
use Rattle.widerqueue.proofs.timing.due_of.Goals as goal

pub reading_of-requires : goal.reading_of-requires
reading_of-requires c = let t = read-asks (schedule_of c.args.p) c.requires.paired.0 (setup_of c.own_limits.result) c.own_limits.ensures c.args.clock c.args.frame.now c.requires.paired.1 c.requires.frame_value in record { setup_value = t.0; frame_bound = t.1 }

-- the reading, c, and what they make
module _ (c : After-c_of) where
  abbrev g : Schedule
  g = schedule_of c.args.p

  read : c.reading_of.result ≡ wider_reading g c.args.clock (wider_decode g c.args.frame.now)
  read =
      c.reading_of.ensures
      ∙ reading-same g (setup_of c.own_limits.result) c.own_limits.ensures c.args.clock c.args.frame.now

  lead : c.c_of.result ≡ (wider_decode g c.args.frame.now).stamp.c
  lead = c.c_of.ensures 0 ∙ c-same g 0 c.args.frame.now

  small : c.reading_of.result + c.c_of.result ≤ 2 ^ 17 + 16
  small =
      sum-small g c.requires.paired.0 c.args.clock c.args.frame.now c.reading_of.result c.c_of.result c.requires.frame_value read lead

pub overflow_add-reading_of : goal.overflow_add-reading_of
overflow_add-reading_of c = omega (arith, small (goal.at.overflow_add-reading_of c).After-c_of)

pub due_along-requires : goal.due_along-requires
due_along-requires c = omega (arith, small (goal.at.due_along-requires c).After-c_of)

pub returns : goal.returns
returns c = (
  c.due_along.ensures
      ∙ due-read (g (goal.at.returns c).After-c_of) c.args.clock (wider_decode (g (goal.at.returns c).After-c_of) c.args.frame.now) c.reading_of.result c.c_of.result (read (goal.at.returns c).After-c_of) (lead (goal.at.returns c).After-c_of),
  omega (arith, c.due_along.ensures, due-small (g (goal.at.returns c).After-c_of) c.requires.paired.0 (c.reading_of.result + c.c_of.result) (small (goal.at.returns c).After-c_of)),
)
