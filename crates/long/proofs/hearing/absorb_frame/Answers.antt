-- `long::hearing::absorb_frame` meets its contract. Assumes nothing.
use Prim.Native.Nat.{ℕ}
use mathlib.Core.Path.{◌≡◌, ◌∙◌, ap₂}
use mathlib.Core.List.{List}
use Rattle.model.specs.Timestamp.{trimmed, widened, absorb}
use Rattle.model.specs.Frame.{decode}
use Rattle.model.specs.Long.{long_decode}
use Rattle.timestamp.specs.Views.{stamp_of}
use Rattle.long.proofs.Judging.{given, askable}
use Rattle.long.proofs.hearing.absorb_frame.Goals.{After-r_of-r}
use Rattle.long.proofs.hearing.absorb_frame.Goals as goal

pub r_of-r-requires : goal.r_of-r-requires
r_of-r-requires c = (given c.requires.readable).clock-there

module _ (c : After-r_of-r) where
  clock : c.r_of-r.result ≡ (long_decode c.args.setup.epsilon c.args.frame.now).stamp.r
  clock = c.r_of-r.ensures c.args.setup.epsilon

pub absorb_counts-requires : goal.absorb_counts-requires
absorb_counts-requires c = (rw c.six_on-later.ensures (askable c.r_of-r.result c.requires.readable (clock (goal.at.absorb_counts-requires c).After-r_of-r)), c.requires.stamp_value)

pub returns : goal.returns
unfolding long_decode absorb
returns c =
    let a = c.args in
    c.absorb_counts.ensures
    ∙ ap₂ (λ (x : ℕ) (l : List ℕ). widened (absorb a.setup.epsilon a.clock (trimmed a.setup.epsilon (stamp_of a.stamp)) x (decode a.setup.epsilon l).stamp)) (clock (goal.at.returns c).After-r_of-r) c.six_on-later.ensures
