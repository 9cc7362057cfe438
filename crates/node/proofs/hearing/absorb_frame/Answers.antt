-- `node::hearing::absorb_frame` meets its contract. Assumes nothing.
use Prim.Native.Nat.{ℕ}
use mathlib.Core.Path.{◌≡◌, ◌∙◌, ap}
use mathlib.Core.Bool.{Bool, false, cond}
use Rattle.model.specs.Timestamp.{Timestamp, trimmed, widened, absorb}
use Rattle.model.specs.Frame.{decode}
use Rattle.setup.specs.Views.{setup_of}
use Rattle.timestamp.specs.Views.{stamp_of}
use Rattle.node.proofs.Times.{askable}
use Rattle.node.proofs.hearing.absorb_frame.Goals as goal

pub returns-then-listens : goal.returns-then-listens
returns-then-listens c = rw c.if-listens.true

pub absorb_counts-requires : goal.absorb_counts-requires
absorb_counts-requires c =
    let a = c.args in
    (askable (setup_of a.setup) a.clock a.reading a.frame.now c.requires.readable.0 c.requires.readable.1, c.requires.stamp_value)

not-listening : (b : Bool) (x y : Timestamp) → b ≡ false → y ≡ cond b x y
not-listening b x y e = rw e

pub returns : goal.returns
returns c =
    let a = c.args in
    c.absorb_counts.ensures
    ∙ ap (λ (x : ℕ). widened (absorb a.setup.epsilon a.setup.modulus (trimmed a.setup.epsilon (stamp_of a.stamp)) x (decode a.setup.epsilon a.frame.now).stamp)) c.requires.readable.1
    ∙ not-listening a.listens (stamp_of a.stamp) _ c.if-listens.false
