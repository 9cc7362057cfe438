-- The times of one frame, as the code asks for them.
-- Assumes nothing.
use Prim.Native.Nat.{ℕ, ◌+◌, ◌-◌, ◌≤◌, ◌<◌, ◌^◌}
use native.Mathlib.Omega.{arith}
use mathlib.Core.Path.{◌≡◌, sym, ap, ap₂, ◌∙◌}
use mathlib.Core.Bool.{true, false}
use mathlib.Core.List.{List}
use lib.Dec.{leb}
use borrow.Author.Tests.{lt-leb, le-leb}
use Rattle.model.specs.Setup.{Setup}
use Rattle.model.specs.Timestamp.{sum}
use Rattle.model.specs.Frame.{Frame}
use Rattle.model.specs.Holdback.{not_early}
use Rattle.model.specs.Schedule.{Schedule, steady, widening, modulus_of, widest_of, own_limits, due_along}
use Rattle.model.specs.Wider.{wider_reading, wider_decode, wider_due, wider_passes, wider_not_expired}
use Rattle.lemmas.proofs.Schedules.{Good, DueBy, old, new, due-by, widest-good}
use Rattle.widerqueue.specs.Sound.{fits, timely}
use Rattle.widerqueue.proofs.Shared.{own-good, own-modulus}
use Rattle.widerqueue.proofs.Orders.{within-own, reading-low}

-- a due clock is not far past its sum
due-most : (g : Schedule) → Good g → (x : ℕ) → due_along g x ≤ x + (widest_of g).delta + (widest_of g).epsilon
due-most (steady s) good x = omega arith
due-most (widening before after change) good x = go (due-by before after change x)
  where
    go : DueBy before after change x (due_along (widening before after change) x) → due_along (widening before after change) x ≤ x + after.delta + after.epsilon
    go (old p q) = omega (arith, good.epsilon, good.delta)
    go (new p q) = omega arith

pub due-small : (g : Schedule) → Good g → (x : ℕ) → x ≤ 2 ^ 17 + 16 → due_along g x < 2 ^ 18
due-small g good x h = omega (arith, due-most g good x, (widest-good g good).delta-most, (widest-good g good).epsilon-most)

module _ (g : Schedule) (good : Good g) (least total : ℕ) (s : Setup) (e : s ≡ own_limits g) where
  latest : s.modulus + (s.epsilon - 1) ≡ modulus_of g + ((own_limits g).epsilon - 1)
  latest =
      ap (λ (u : Setup). u.modulus + (u.epsilon - 1)) e ∙ ap (λ (m : ℕ). m + ((own_limits g).epsilon - 1)) (own-modulus g good)

  pub timely-no : s.modulus + (s.epsilon - 1) < total → false ≡ timely g least total
  unfolding timely
  timely-no h = sym (rw (lt-leb total (modulus_of g + ((own_limits g).epsilon - 1)) (omega (arith, latest))))

  pub timely-by : total ≤ s.modulus + (s.epsilon - 1) → leb least (due_along g total) ≡ timely g least total
  unfolding timely
  timely-by h = sym (rw (le-leb total (modulus_of g + ((own_limits g).epsilon - 1)) (omega (arith, latest))))

-- the sum of a frame that passes 10 to 12
pub sum-small : (g : Schedule) → Good g → (v : ℕ) (bytes : List ℕ) (reading c : ℕ) → wider_passes g bytes ≡ true → reading ≡ wider_reading g v (wider_decode g bytes) → c ≡ (wider_decode g bytes).stamp.c
    → reading + c ≤ 2 ^ 17 + 16
sum-small g good v bytes reading c h er ec =
    omega (arith, reading-low g good v (wider_decode g bytes), (within-own g good bytes h).close, (own-good g good).epsilon-most)

pub due-read : (g : Schedule) (v : ℕ) (f : Frame) (reading c : ℕ) → reading ≡ wider_reading g v f → c ≡ f.stamp.c → due_along g (reading + c) ≡ wider_due g v f
unfolding wider_due sum
due-read g v f reading c er ec = ap₂ (λ (x y : ℕ). due_along g (x + y)) er ec

-- what is asked of a frame's time is what its sum says
pub timely-fits : (g : Schedule) (good : Good g) (v least : ℕ) (bytes : List ℕ) (total : ℕ) → wider_passes g bytes ≡ true → total ≡ wider_reading g v (wider_decode g bytes) + (wider_decode g bytes).stamp.c
    → timely g least total ≡ fits g v least bytes
unfolding timely fits not_early wider_not_expired wider_due sum
timely-fits g good v least bytes total h e =
    rw (h, e, own-modulus g good)
