-- What is due before a clock is the front of a sound queue: due clocks grow with the sums.
-- Assumes nothing.
use Prim.Native.Nat.{ℕ, ◌+◌, ◌≤◌, ◌<◌}
use native.Mathlib.Omega.{arith}
use mathlib.Core.Path.{◌≡◌, refl, sym, ap, ◌∙◌}
use mathlib.Core.Logic.{◌⊎◌, inl, inr}
use mathlib.Core.Bool.{Bool, true, false, not}
use mathlib.Core.List.{List, Memᴰ}
use lib.Dec.{ltb, eqb}
use lib.ListN.{length, take, drop}
use lib.Seq.{length-take-le}
use borrow.Author.Tests.{lt-ltb, le-ltb, ltb-true, eq-eqb, ne_eqb}
use Rattle.laws.specs.Lists.{chained, leading, select}
use Rattle.laws.proofs.Numbers.{lt-or-ge}
use Rattle.laws.proofs.Lists.{every-mem, leading_le, select-ext}
use Rattle.laws.proofs.Lex.{is_less-lt, lex-lt-cases}
use Rattle.laws.proofs.Sorted.{select-prefix, select-suffix}
use Rattle.model.specs.Timestamp.{sum}
use Rattle.model.specs.Frame.{Frame}
use Rattle.model.specs.Schedule.{Schedule, modulus_of, due_along}
use Rattle.model.specs.Wider.{wider_reading, wider_key, wider_key_near, wider_before, wider_due, wider_not_expired, wider_due_before, wider_due_now}
use Rattle.lemmas.proofs.Schedules.{Good, due-later}
use Rattle.lemmas.proofs.WiderQueue.{QueueAlong, ordered-along, along-expired}

-- due before a limit
abbrev pub due_under : Schedule → ℕ → ℕ → Frame → Bool
due_under g v limit f = ltb (wider_due g v f) limit

module _ (g : Schedule) (good : Good g) (v : ℕ) where
  -- what comes before is due no later
  pub due-first : (a b : Frame) → wider_before g v a b ≡ true → wider_due g v a ≤ wider_due g v b
  unfolding wider_before wider_key_near wider_key wider_due
  due-first a b h =
      let x : ℕ = sum (wider_reading g v a) a.stamp.c in
      let y : ℕ = sum (wider_reading g v b) b.stamp.c in
      elim (lex-lt-cases x y _ _ (is_less-lt _ h)) [
        | inl l ↦ omega (arith, due-later g good x y l)
        | inr e ↦ (let same : due_along g x ≡ due_along g y = ap (due_along g) e.0 in omega arith)
      ]

  under-down : (limit : ℕ) (y z : Frame) → due_under g v limit y ≡ true → wider_before g v z y ≡ true → due_under g v limit z ≡ true
  under-down limit y z d l =
      lt-ltb (wider_due g v z) limit (omega (arith, ltb-true (wider_due g v y) limit d, due-first z y l))

  -- of a queue in order it is a prefix
  module _ (queue : List Frame) (ordered : chained (wider_before g v) queue ≡ true) (limit : ℕ) where
    pub under-prefix : select (due_under g v limit) queue ≡ take (leading (due_under g v limit) queue) queue
    unfolding wider_before
    under-prefix =
        select-prefix (wider_key_near g v) (due_under g v limit) queue (ordered-along g v queue ordered) (λ y z m n d l. under-down limit y z d l)

    pub under_rest : select (λ f. not (due_under g v limit f)) queue ≡ drop (leading (due_under g v limit) queue) queue
    unfolding wider_before
    under_rest =
        select-suffix (wider_key_near g v) (due_under g v limit) queue (ordered-along g v queue ordered) (λ y z m n d l. under-down limit y z d l)

-- due before v
pub before-under : (g : Schedule) (v : ℕ) → wider_due_before g v ≡ due_under g v (modulus_of g)
unfolding wider_due_before
before-under g v = refl

-- and at v, where none is due before
now-under : (g : Schedule) (v : ℕ) (f : Frame) → wider_not_expired g v (modulus_of g) f ≡ true → wider_due_now g v f ≡ due_under g v (modulus_of g + 1) f
unfolding wider_due_now wider_due sum
now-under g v f h = go (lt-or-ge (modulus_of g) (due_along g (wider_reading g v f + f.stamp.c)))
  where
    late : modulus_of g ≤ due_along g (wider_reading g v f + f.stamp.c)
    late = along-expired g v (modulus_of g) f h

    go :
        (modulus_of g < due_along g (wider_reading g v f + f.stamp.c)) ⊎ (due_along g (wider_reading g v f + f.stamp.c) ≤ modulus_of g)
        → eqb (due_along g (wider_reading g v f + f.stamp.c)) (modulus_of g) ≡ ltb (due_along g (wider_reading g v f + f.stamp.c)) (modulus_of g + 1)
    go (inl l) = ne_eqb (due_along g (wider_reading g v f + f.stamp.c)) (modulus_of g) (λ e. omega arith) ∙ sym (le-ltb (due_along g (wider_reading g v f + f.stamp.c)) (modulus_of g + 1) (omega arith))
    go (inr l) = eq-eqb (due_along g (wider_reading g v f + f.stamp.c)) (modulus_of g) (omega (arith, late)) ∙ sym (lt-ltb (due_along g (wider_reading g v f + f.stamp.c)) (modulus_of g + 1) (omega arith))

module _ (g : Schedule) (good : Good g) (v : ℕ) (queue : List Frame) (ok : QueueAlong g v (modulus_of g) queue) where
  same : (f : Frame) → Memᴰ f queue → wider_due_now g v f ≡ due_under g v (modulus_of g + 1) f
  same f m = now-under g v f (every-mem (wider_not_expired g v (modulus_of g)) ok.expired m)

  pub now-prefix : select (wider_due_now g v) queue ≡ take (leading (due_under g v (modulus_of g + 1)) queue) queue
  now-prefix =
      select-ext (wider_due_now g v) (due_under g v (modulus_of g + 1)) queue same ∙ under-prefix g good v queue ok.ordered (modulus_of g + 1)

  pub now-rest : select (λ f. not (wider_due_now g v f)) queue ≡ drop (leading (due_under g v (modulus_of g + 1)) queue) queue
  now-rest =
      select-ext (λ f. not (wider_due_now g v f)) (λ f. not (due_under g v (modulus_of g + 1) f)) queue (λ f m. ap not (same f m))
      ∙ under_rest g good v queue ok.ordered (modulus_of g + 1)

  pub now-number : leading (due_under g v (modulus_of g + 1)) queue ≡ length (select (wider_due_now g v) queue)
  now-number =
      sym (length-take-le (leading (due_under g v (modulus_of g + 1)) queue) queue (leading_le (due_under g v (modulus_of g + 1)) queue)) ∙ ap length (sym now-prefix)

-- the test of one frame, as a search asks it
pub under-no : (g : Schedule) (v : ℕ) (f : Frame) {due : ℕ} (limit : ℕ) → due ≡ wider_due g v f → limit ≤ due → false ≡ due_under g v limit f
under-no g v f limit e h = sym (le-ltb (wider_due g v f) limit (omega arith))

pub under-yes : (g : Schedule) (v : ℕ) (f : Frame) {due : ℕ} (limit : ℕ) → due ≡ wider_due g v f → due < limit → true ≡ due_under g v limit f
under-yes g v f limit e h = sym (lt-ltb (wider_due g v f) limit (omega arith))
