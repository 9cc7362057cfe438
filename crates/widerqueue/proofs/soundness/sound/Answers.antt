-- `widerqueue::soundness::sound` meets its contract: the count by the limits of v, then the walk. Assumes nothing.
use Prim.Native.Nat.{◌<◌}
use native.Mathlib.Omega.{arith}
use mathlib.Core.Path.{◌≡◌, ap, ◌∙◌}
use Rattle.model.specs.Setup.{Setup, depth_of}
use Rattle.model.specs.Frame.{two_at}
use Rattle.model.specs.Schedule.{Schedule, widest_of, own_limits}
use Rattle.pairs.specs.Views.{schedule_of}
use Rattle.widerqueue.proofs.Shared.{own-good}
use Rattle.widerqueue.proofs.Walks.{walked-no, too_many, size-two}
use Rattle.widerqueue.proofs.soundness.sound.Goals.{After-depth}
use Rattle.widerqueue.proofs.soundness.sound.Goals as goal

pub depth-requires : goal.depth-requires
depth-requires c =
    let limits = own-good (schedule_of c.args.p) c.requires.paired.0 in (
      omega (arith, ap (λ (u : Setup). u.n) c.own_limits-own.ensures, limits.n-most),
      (omega (arith, ap (λ (u : Setup). u.epsilon) c.own_limits-own.ensures, limits.epsilon-most), omega (arith, ap (λ (u : Setup). u.delta) c.own_limits-own.ensures, limits.delta-most)),
    )

-- the number of frames, and how many there may be
module _ (c : After-depth) where
  abbrev g : Schedule
  g = schedule_of c.args.p

  most : c.depth.result ≡ depth_of (own_limits g)
  most = c.depth.ensures ∙ ap depth_of c.own_limits-own.ensures

pub returns-then-depth-count : goal.returns-then-depth-count
returns-then-depth-count c =
    let many : depth_of (own_limits (g (goal.at.returns-then-depth-count c).After-depth)) < two_at c.args.buf.now 0 = omega (arith, most (goal.at.returns-then-depth-count c).After-depth, c.two_at-count.ensures, c.if-depth-count.true) in
    walked-no c.emptied.ensures (too_many (g (goal.at.returns-then-depth-count c).After-depth) c.args.clock c.args.least c.args.buf.now many) c.requires.p_in_bounds.1

pub walk_frames-requires : goal.walk_frames-requires
walk_frames-requires c = record { paired = c.requires.paired; in_bounds = (size-two (widest_of (g (goal.at.walk_frames-requires c).After-depth)) c.requires.p_in_bounds.0, (c.two_at-count.ensures, omega (arith, most (goal.at.walk_frames-requires c).After-depth, c.if-depth-count.false))); seen_value = c.requires.p_in_bounds.1 }
