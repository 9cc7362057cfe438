-- What looks at a frame's station and r alone says the same whichever width the frame is read by; and the limits of v, as the code has them.
-- Assumes nothing.
use Prim.Native.Nat.{ℕ, ◌<◌}
use mathlib.Core.Path.{◌≡◌, refl, sym, ap, subst}
use mathlib.Core.Bool.{true}
use mathlib.Core.List.{List}
use Rattle.model.specs.Setup.{Setup, in_limits}
use Rattle.model.specs.Timestamp.{near}
use Rattle.model.specs.Frame.{two_at, decode}
use Rattle.model.specs.Order.{reading_of}
use Rattle.model.specs.Schedule.{Schedule, modulus_of, own_limits}
use Rattle.model.specs.Wider.{wider_reading, wider_decode}
use Rattle.lemmas.proofs.Bounds.{Limits}
use Rattle.lemmas.proofs.Questions.{limits-to}
use Rattle.lemmas.proofs.Schedules.{Good, limits-good, limits-modulus}
use Rattle.holdback.specs.Queue.{rank_at, rank_of}
use Rattle.holdback.specs.Seen.{Placeable, slot_of, is_marked, marked}

-- the limits of v are in their own limits, and have B
pub own-good : (g : Schedule) → Good g → Limits (own_limits g)
own-good g good = limits-good g good (modulus_of g)

pub own-modulus : (g : Schedule) → Good g → (own_limits g).modulus ≡ modulus_of g
own-modulus g good = limits-modulus g good (modulus_of g)

module _ (g : Schedule) (s : Setup) (e : s ≡ own_limits g) where
  pub own-in-limits : Good g → in_limits s ≡ true
  own-in-limits good = subst (λ (u : Setup). in_limits u ≡ true) (sym e) (limits-to (own_limits g) (own-good g good))

  pub own_below : {v : ℕ} → Good g → v < modulus_of g → v < s.modulus
  own_below {v} good h = subst (λ (u : Setup). v < u.modulus) (sym e) (subst (λ (m : ℕ). v < m) (sym (own-modulus g good)) h)

  module _ (v : ℕ) (bytes : List ℕ) where
    pub r-same : {m : ℕ} → (wider_decode g bytes).stamp.r < m → (decode s.epsilon bytes).stamp.r < m
    unfolding decode wider_decode
    r-same h = h

    pub reading-same : reading_of s v (decode s.epsilon bytes) ≡ wider_reading g v (wider_decode g bytes)
    unfolding reading_of decode wider_decode
    reading-same = ap (λ (u : Setup). near u.epsilon u.modulus v (two_at bytes 2)) e

    pub rank_same : rank_of s v (decode s.epsilon bytes) ≡ rank_of (own_limits g) v (wider_decode g bytes)
    unfolding reading_of decode wider_decode
    rank_same = ap (λ (u : Setup). rank_of u v (decode s.epsilon bytes)) e

    pub slot_same : slot_of s v (decode s.epsilon bytes) ≡ slot_of (own_limits g) v (wider_decode g bytes)
    unfolding slot_of reading_of decode wider_decode
    slot_same = ap (λ (u : Setup). slot_of u v (decode s.epsilon bytes)) e

    pub marked-same : (table : List ℕ) → is_marked s v (decode s.epsilon bytes) table ≡ is_marked (own_limits g) v (wider_decode g bytes) table
    unfolding is_marked slot_of reading_of decode wider_decode
    marked-same table = ap (λ (u : Setup). is_marked u v (decode s.epsilon bytes) table) e

    pub mark-same : (table : List ℕ) → marked s v (decode s.epsilon bytes) table ≡ marked (own_limits g) v (wider_decode g bytes) table
    unfolding marked slot_of reading_of decode wider_decode
    mark-same table = ap (λ (u : Setup). marked u v (decode s.epsilon bytes) table) e

    pub placeable-same : Placeable (own_limits g) v (wider_decode g bytes) → Placeable s v (decode s.epsilon bytes)
    unfolding reading_of decode wider_decode
    placeable-same p =
        subst (λ (u : Setup). Placeable u v (decode s.epsilon bytes)) (sym e)
        (record { station-below = p.station-below; r-below = p.r-below; not-before = p.not-before })

-- whatever half width it is read by
pub rank-at-same : (g : Schedule) (half reading : ℕ) (bytes : List ℕ) → rank_at reading (decode half bytes) ≡ rank_at reading (wider_decode g bytes)
unfolding decode wider_decode
rank-at-same g half reading bytes = refl

pub c-same : (g : Schedule) (half : ℕ) (bytes : List ℕ) → (decode half bytes).stamp.c ≡ (wider_decode g bytes).stamp.c
unfolding decode wider_decode
c-same g half bytes = refl
