-- The searches for an origin among the frames of an engine's queue.
-- Assumes nothing.
use Prim.Native.Nat.{ℕ, ◌+◌, ◌-◌, ◌≤◌, ◌<◌}
use native.Mathlib.Omega.{arith}
use mathlib.Core.Path.{◌≡◌, refl, sym, ap, ◌∙◌}
use mathlib.Core.Bool.{Bool, true, false, ◌&&◌}
use mathlib.Core.List.{List, [], ◌∷◌}
use lib.Dec.{eqb}
use lib.ListN.{length, take, drop}
use borrow.Author.Tests.{eqb-true, eq-eqb}
use Rattle.laws.specs.Lists.{any, apart}
use Rattle.laws.proofs.Numbers.{false-of-no, and_left}
use Rattle.model.specs.Frame.{Frame}
use Rattle.model.specs.Holdback.{same_origin}
use Rattle.model.specs.Long.{long_frame_end, long_formed, long_decode}
use Rattle.lemmas.proofs.LongPassing.{long-size}
use Rattle.lemmas.proofs.FrameWalk.{lent, Walk, walk_ends, walk_meets, walk-rest}
use Rattle.longqueue.specs.Queue.{frames_from, Standing}

-- ---- two frames

pub origin-other : (f g : Frame) → (f.station ≡ g.station → ⊥) → false ≡ same_origin f g
unfolding same_origin
origin-other f g h =
    sym (false-of-no (eqb f.station g.station && eqb f.stamp.r g.stamp.r) (λ t. h (eqb-true f.station g.station (and_left (eqb f.station g.station) _ t))))

pub origin-by-r : (f g : Frame) → f.station ≡ g.station → eqb f.stamp.r g.stamp.r ≡ same_origin f g
unfolding same_origin
origin-by-r f g e = sym (ap (λ (x : Bool). x && eqb f.stamp.r g.stamp.r) (eq-eqb f.station g.station e))

-- a frame of a walk has the bytes of its origin
pub origin-there : (epsilon : ℕ) (l : List ℕ) → long_formed epsilon l ≡ true → 10 ≤ length l
origin-there epsilon l h = omega (arith, (long-size epsilon l h).shortest)

-- ---- a walk to an answer: of all frames it is what it is of those left

pub record Asked (epsilon : ℕ) (answer : List Frame → Bool) (b : List ℕ) (at left from rest : ℕ) : Type 0 where
  pub walk : Walk (long_frame_end epsilon) (long_decode epsilon) (long_formed epsilon) (λ l. answer (frames_from epsilon b at left) ≡ answer l) b from rest

pub asked-starts : {epsilon : ℕ} {b : List ℕ} {at left : ℕ} (answer : List Frame → Bool) → Standing epsilon (long_formed epsilon) b at left → Asked epsilon answer b at left at left
asked-starts answer stands = record { walk = record { stands = stands; holds = refl } }

module _ {epsilon : ℕ} {answer : List Frame → Bool} {b : List ℕ} {at left from rest : ℕ} (asked : Asked epsilon answer b at left from rest) where
  pub asked-ends : rest ≤ 0 → answer [] ≡ answer (frames_from epsilon b at left)
  asked-ends none = sym (walk_ends asked.walk none)

  module _ (more : 0 < rest) {size : ℕ} (ends : size ≡ long_frame_end epsilon (lent b from)) where
    abbrev met : List Frame
    met = long_decode epsilon (take (from + size - from) (drop from b)) ∷ frames_from epsilon b (from + size) (rest - 1)

    -- this frame decides, or those behind it
    pub asked-found : {value : Bool} → answer met ≡ value → value ≡ answer (frames_from epsilon b at left)
    asked-found h = sym (walk_meets asked.walk more ends ∙ h)

    pub asked-turns : answer met ≡ answer (frames_from epsilon b (from + size) (rest - 1)) → Asked epsilon answer b at left (from + size) (rest - 1)
    asked-turns h = record { walk = record { stands = walk-rest asked.walk more ends; holds = walk_meets asked.walk more ends ∙ h } }

-- whether one is what is sought, by a test t of the first
module _ (p : Frame → Bool) (f : Frame) (l : List Frame) {t : Bool} (tested : t ≡ p f) where
  pub any_found : t ≡ true → any p (f ∷ l) ≡ true
  unfolding any
  any_found h = rw (sym tested ∙ h)

  pub any-passed : t ≡ false → any p (f ∷ l) ≡ any p l
  unfolding any
  any-passed h = rw (sym tested ∙ h)

-- whether all are apart, by a test t of the first against the others
module _ (f : Frame) (l : List Frame) {t : Bool} (tested : t ≡ any (same_origin f) l) where
  pub apart-found : t ≡ true → apart same_origin (f ∷ l) ≡ false
  unfolding apart
  apart-found h = rw (sym tested ∙ h)

  pub apart-passed : t ≡ false → apart same_origin (f ∷ l) ≡ apart same_origin l
  unfolding apart
  apart-passed h = rw (sym tested ∙ h)
