-- What the tests of the model say, as facts: sound timestamps, frames in their bounds, the stamp during a tick, a sound queue.
-- Assumes nothing.
use Prim.Native.Nat.{ℕ, ◌+◌, ◌*◌, ◌≤◌, ◌<◌}
use mathlib.Core.Path.{◌≡◌}
use mathlib.Core.Logic.{◌⊎◌}
use mathlib.Core.Bool.{true}
use mathlib.Core.List.{List, Memᴰ}
use lib.ListN.{length}
use Rattle.laws.specs.Lists.{every, chained, apart, placed_at}
use Rattle.model.specs.Setup.{Setup, width}
use Rattle.model.specs.Timestamp.{Timestamp}
use Rattle.model.specs.Frame.{Frame}
use Rattle.model.specs.Order.{before}
use Rattle.model.specs.Holdback.{same_origin, not_early, not_expired}

-- the limits of a setup that the proofs use
pub record Limits (s : Setup) : Type 0 where
  pub n_pos : 1 ≤ s.n
  pub n-most : s.n ≤ 16
  pub epsilon-pos : 1 ≤ s.epsilon
  pub epsilon-most : s.epsilon ≤ 16
  pub delta-most : s.delta ≤ 64
  pub modulus-least : 6 * s.epsilon + s.delta + 1 ≤ s.modulus
  pub modulus-most : s.modulus ≤ 65535

-- those of an engine's setup (02, 2.9), which has no B
pub record LongLimits (s : Setup) : Type 0 where
  pub n_pos : 1 ≤ s.n
  pub n-most : s.n ≤ 16
  pub epsilon-pos : 1 ≤ s.epsilon
  pub epsilon-most : s.epsilon ≤ 16
  pub delta-most : s.delta ≤ 64

-- a sound timestamp of 2ε counts
pub record Sound (n epsilon : ℕ) (t : Timestamp) : Type 0 where
  pub wide : length t.kn ≡ width epsilon
  pub close : t.c < epsilon
  pub most : (i : ℕ) → placed_at 0 t.kn i ≤ n
  pub top : 1 ≤ placed_at 0 t.kn (epsilon + t.c)
  pub above : (i : ℕ) → epsilon + t.c < i → placed_at 0 t.kn i ≡ 0

-- the stamp during a tick, before the own event is counted: no count for v or later is full
pub record Opened (n epsilon : ℕ) (t : Timestamp) : Type 0 where
  pub wide : length t.kn ≡ width epsilon
  pub close : t.c < epsilon
  pub most : (i : ℕ) → placed_at 0 t.kn i ≤ n
  pub room : (i : ℕ) → epsilon ≤ i → placed_at 0 t.kn i < n
  pub top : (t.c ≡ 0) ⊎ (1 ≤ placed_at 0 t.kn (epsilon + t.c))
  pub above : (i : ℕ) → epsilon + t.c < i → placed_at 0 t.kn i ≡ 0

-- a frame that passes 10 to 12
pub record FrameOk (s : Setup) (f : Frame) : Type 0 where
  pub station-below : f.station < s.n
  pub r-below : f.stamp.r < s.modulus
  pub sound : Sound s.n s.epsilon f.stamp
  pub short : length f.payload ≤ 32

-- a queue that is sound for the modular clock v, with the least due clock that is allowed
pub record QueueOk (s : Setup) (v least : ℕ) (queue : List Frame) : Type 0 where
  pub frames : (f : Frame) → Memᴰ f queue → FrameOk s f
  pub ordered : chained (before s v) queue ≡ true
  pub single : apart same_origin queue ≡ true
  pub early : every (not_early s v) queue ≡ true
  pub expired : every (not_expired s v least) queue ≡ true
