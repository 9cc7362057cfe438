-- What the theory knows of a due clock along a schedule: how a call reads it, and where it lies beside the clock of its message.
-- Assumes nothing.
use Prim.Native.Nat.{ℕ, ◌+◌, ◌*◌, ◌%◌, ◌≤◌, ◌<◌}
use native.Mathlib.Omega.{arith}
use mathlib.Core.Path.{◌≡◌, ap}
use mathlib.Core.Logic.{inl, inr}
use Rattle.laws.proofs.Numbers.{lt-or-ge}
use Rattle.model.specs.Setup.{Setup}
use Rattle.model.specs.Frame.{Frame}
use Rattle.model.specs.Schedule.{Schedule, steady, widening, limits_at, modulus_of, widest_of, due_along}
use Rattle.model.specs.Wider.{wider_reading}
use Rattle.lemmas.proofs.Schedules.{Good, DueBy, old, new, due-by, limits-good, limits-modulus, limits-grow, due-window}
use Rattle.lemmas.proofs.Agreeing.{Agrees, due-agrees}
use Rattle.lemmas.proofs.Positions.{place_at, Seen, reads}

-- of a frame whose place at v is that of its true clock R, and whose sum lies in the window of v, the call reads the due clock so too
pub due-reads :
    (g l : Schedule) (v : ℕ) → Agrees g v l → (R : ℕ) (f : Frame) → place_at g v f ≡ modulus_of g + R → R + f.stamp.c < v + (limits_at g v).epsilon
    → v < R + f.stamp.c + (limits_at g v).delta + 2 * (limits_at g v).epsilon
    → due_along l (wider_reading l (v % modulus_of l) f + f.stamp.c) + v ≡ modulus_of l + due_along g (R + f.stamp.c)
due-reads g l v agrees R f e hi lo =
    due-agrees g v l agrees (wider_reading l (v % modulus_of l) f + f.stamp.c) (R + f.stamp.c) (omega (arith, reads g l v agrees f, e, agrees.modulus)) hi lo

-- so of a frame in the window of the call
pub due-seen :
    (g l : Schedule) (v : ℕ) → (agrees : Agrees g v l) → (R : ℕ) (f : Frame) → place_at g v f ≡ modulus_of g + R → Seen g l (v % modulus_of l) f
    → due_along l (wider_reading l (v % modulus_of l) f + f.stamp.c) + v ≡ modulus_of l + due_along g (R + f.stamp.c)
due-seen g l v agrees R f stands seen =
    let here = reads g l v agrees f in
    let epsilon = ap (λ (s : Setup). s.epsilon) agrees.own in
    let delta = ap (λ (s : Setup). s.delta) agrees.own in
    due-reads g l v agrees R f stands (omega (arith, seen.hi, stands, here, agrees.modulus, epsilon)) (omega (arith, seen.lo, stands, here, agrees.modulus, epsilon, delta))

-- a sum is due past itself
pub due-after : (g : Schedule) → Good g → (x : ℕ) → x < due_along g x
due-after (steady s) good x = omega (arith, good.epsilon-pos)
due-after (widening before after change) good x = go (due-by before after change x)
  where
    go : DueBy before after change x (due_along (widening before after change) x) → x < due_along (widening before after change) x
    go (old p q) = omega (arith, q, good.old.epsilon-pos)
    go (new p q) = omega (arith, q, good.new.epsilon-pos)

-- and at most the widest δ + ε past itself
pub due-most : (g : Schedule) → Good g → (x : ℕ) → due_along g x ≤ x + (widest_of g).delta + (widest_of g).epsilon
due-most (steady s) good x = omega arith
due-most (widening before after change) good x = go (due-by before after change x)
  where
    go : DueBy before after change x (due_along (widening before after change) x) → due_along (widening before after change) x ≤ x + after.delta + after.epsilon
    go (old p q) = omega (arith, q, good.epsilon, good.delta)
    go (new p q) = omega (arith, q)

module _ (g : Schedule) (good : Good g) (last v : ℕ) (before : last ≤ v) (step : v ≤ last + (limits_at g v).epsilon) where
  -- what is not yet due at the clock before a call for v has its sum in the window of v
  due-near : (x : ℕ) → last < due_along g x → v < x + (limits_at g v).delta + 2 * (limits_at g v).epsilon
  due-near x un =
      let h : last + 1 ≤ x + (limits_at g v).delta + (limits_at g v).epsilon =
      due-window g good v (last + 1) x (omega arith) (omega arith) in
      omega arith

  -- and can be read near v
  pub due-window-reads : (R c : ℕ) → c < (limits_at g R).epsilon → last < due_along g (R + c) → v + (limits_at g v).epsilon ≤ R + modulus_of g
  due-window-reads R c close un =
      let large : 6 * (limits_at g v).epsilon + (limits_at g v).delta + 1 ≤ modulus_of g = omega (arith, (limits-good g good v).modulus-least, limits-modulus g good v) in
      elim (lt-or-ge R v) [
        | inl h ↦ omega (arith, due-near (R + c) un, (limits-grow g good R v (omega arith)).0, large)
        | inr h ↦ omega (arith, large)
      ]
