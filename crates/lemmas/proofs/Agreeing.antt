-- 02, 2.10: what a call's schedule, in readings, agrees on with the yard's, among true clocks, whichever setup the call has: both pairs, the old
-- pair while V is far ahead, the new pair once V is far behind. Assumes nothing.
use Prim.Native.Nat.{ℕ, ◌+◌, ◌-◌, ◌*◌, ◌≤◌, ◌<◌}
use native.Mathlib.Omega.{arith}
use mathlib.Core.Path.{◌≡◌, refl, sym, ap, ◌∙◌}
use mathlib.Core.Logic.{inl, inr}
use borrow.Author.Tests.{lt-ltb, le-ltb}
use Rattle.model.specs.Setup.{Setup, width}
use Rattle.model.specs.Schedule.{Schedule, steady, widening, limits_at, modulus_of, own_limits, half_of, tables_half, old_due, due_along, compared_along}
use Rattle.lemmas.proofs.Schedules.{Widens, LimitsBy, narrow, wide, limits-by, DueBy, old, new, due-by, moved_by, due-moved, compared-moved, Aligned, modulus-aligned, limits-aligned, half-aligned, Good}
use Rattle.lemmas.proofs.WideFrames.{Half, half_back}

-- g is the yard's, l the call's for the true clock v. A reading y of a sum that is not ε or more past v, nor so far back that no shelf has it: its
-- place among the clocks of g, all of which are moved by B, so that what is read before the clock 0, which may be in a damaged memory, has one too.
-- An r R that can be heard. Counts as many as a frame of the call can have. The clock u of the tables, k before v
pub record Agrees (g : Schedule) (v : ℕ) (l : Schedule) : Type 0 where
  pub modulus : modulus_of l ≡ modulus_of g
  pub own : own_limits l ≡ limits_at g v
  pub due :
      (y : ℕ) → y < modulus_of l + (limits_at g v).epsilon → modulus_of l < y + (limits_at g v).delta + 2 * (limits_at g v).epsilon
      → due_along l y + v ≡ due_along (moved_by (modulus_of l) g) (y + v)
  pub compared :
      (y : ℕ) → y < modulus_of l + (limits_at g v).epsilon → modulus_of l < y + (limits_at g v).delta + 2 * (limits_at g v).epsilon
      → compared_along l y ≡ compared_along (moved_by (modulus_of l) g) (y + v)
  pub half :
      (R : ℕ) → R < v + (limits_at g v).epsilon → v ≤ R + (limits_at g v).delta + (limits_at g v).epsilon
      → half_of l (width (limits_at g R).epsilon) ≡ (limits_at g R).epsilon
  pub halves : (count : ℕ) → count ≡ width (half_of l count) → half_of l count ≡ half_of g count
  pub tables : (k u : ℕ) → v ≡ u + k → k ≤ (limits_at g v).epsilon → k ≤ modulus_of l → tables_half l k ≡ (limits_at g u).epsilon

-- the same of a sum among true clocks: T, where it reads y
module _ (g : Schedule) (v : ℕ) (l : Schedule) (agrees : Agrees g v l) (y T : ℕ) (reads : y + v ≡ modulus_of l + T)
    (hi : T < v + (limits_at g v).epsilon) (lo : v < T + (limits_at g v).delta + 2 * (limits_at g v).epsilon)
  where
    pub due-agrees : due_along l y + v ≡ modulus_of l + due_along g T
    due-agrees =
        let there : y + v ≡ T + modulus_of l = omega arith in
        let moved = due-moved (modulus_of l) g T in
        let e = agrees.due y (omega arith) (omega arith) ∙ ap (due_along (moved_by (modulus_of l) g)) there in
        omega arith

-- the width of every clock is one of the two
pub limits-half : (g : Schedule) (x : ℕ) → Half g (limits_at g x).epsilon
limits-half (steady s) x = refl
limits-half (widening before after change) x = go (limits_at (widening before after change) x) (limits-by before after change x)
  where
    go : (s : Setup) → LimitsBy before after change x s → Half (widening before after change) s.epsilon
    go s (narrow p e) = inl (ap (λ (u : Setup). u.epsilon) e)
    go s (wide p e) = inr (ap (λ (u : Setup). u.epsilon) e)

-- both pairs, or one setup throughout
pub agrees-aligned : (g l : Schedule) (v : ℕ) → Aligned v (modulus_of l) l g → Agrees g v l
agrees-aligned g l v aligned =
    record {
      modulus = modulus-aligned v (modulus_of l) l g aligned;
      own = limits-aligned v (modulus_of l) l g aligned (modulus_of l) v (omega arith);
      due = λ y hi lo. sym (due-moved v l y) ∙ ap (λ (h : Schedule). due_along h (y + v)) aligned.moved;
      compared = λ y hi lo. sym (compared-moved v l y) ∙ ap (λ (h : Schedule). compared_along h (y + v)) aligned.moved;
      half = λ R hi lo.
          ap (λ (h : ℕ → ℕ). h (width (limits_at g R).epsilon)) (half-aligned v (modulus_of l) l g aligned) ∙ half_back g (limits_at g R).epsilon (limits-half g R);
      halves = λ count wide. ap (λ (h : ℕ → ℕ). h count) (half-aligned v (modulus_of l) l g aligned);
      tables = λ k u e few some.
          ap (λ (s : Setup). s.epsilon) (limits-aligned v (modulus_of l) l g aligned (modulus_of l - k) u (omega arith));
    }

pub agrees-steady : (s : Setup) (v : ℕ) → Agrees (steady s) v (steady s)
agrees-steady s v = agrees-aligned (steady s) (steady s) v (record { moved = refl })

-- which limits a clock before V has, and one from V on
before-change : (before after : Setup) (change x : ℕ) → x < change → limits_at (widening before after change) x ≡ before
before-change before after change x h = rw (lt-ltb x change h)

past-change : (before after : Setup) (change x : ℕ) → change ≤ x → limits_at (widening before after change) x ≡ after
past-change before after change x h = rw (le-ltb x change h)

-- the old pair alone, while V lies δ + 2ε or more ahead
pub agrees-old :
    (s after : Setup) (change v : ℕ) → Widens s after → v + s.delta + 2 * s.epsilon ≤ change → Agrees (widening s after change) v (steady s)
unfolding old_due
agrees-old s after change v good far =
    let g : Schedule = widening s after change in
    let some : 1 ≤ s.epsilon = good.old.epsilon-pos in
    let own : limits_at g v ≡ s = before-change s after change v (omega arith) in
    let e : (limits_at g v).epsilon ≡ s.epsilon = ap (λ (u : Setup). u.epsilon) own in
    record {
      modulus = refl;
      own = sym own;
      due = λ y hi lo. rw (lt-ltb (y + v + s.delta + s.epsilon) (change + s.modulus) (omega arith)) (omega arith);
      compared = λ y hi lo. rw (lt-ltb (y + v + s.delta + s.epsilon) (change + s.modulus) (omega arith)) refl;
      half = λ R hi lo. ap (λ (u : Setup). u.epsilon) (sym (before-change s after change R (omega arith)));
      halves = λ count broad. sym (ap (half_of g) broad ∙ half_back g s.epsilon (inl refl));
      tables = λ k u is few some. ap (λ (t : Setup). t.epsilon) (sym (before-change s after change u (omega arith)));
    }

-- the new pair alone, where V lies more than δ' + 2ε' behind
pub agrees-new :
    (before after : Setup) (change v : ℕ) → Widens before after → change + after.delta + 2 * after.epsilon < v
    → Agrees (widening before after change) v (steady after)
unfolding old_due
agrees-new before after change v good far =
    let g : Schedule = widening before after change in
    let own : limits_at g v ≡ after = past-change before after change v (omega arith) in
    let e : (limits_at g v).epsilon ≡ after.epsilon = ap (λ (u : Setup). u.epsilon) own in
    let d : (limits_at g v).delta ≡ after.delta = ap (λ (u : Setup). u.delta) own in
    record {
      modulus = good.modulus;
      own = sym own;
      due = λ y hi lo. rw (le-ltb (y + v + before.delta + before.epsilon) (change + after.modulus) (omega arith)) (omega arith);
      compared = λ y hi lo. rw (le-ltb (y + v + before.delta + before.epsilon) (change + after.modulus) (omega arith)) refl;
      half = λ R hi lo. ap (λ (u : Setup). u.epsilon) (sym (past-change before after change R (omega arith)));
      halves = λ count broad. sym (ap (half_of g) broad ∙ half_back g after.epsilon (inr refl));
      tables = λ k u is few some. ap (λ (t : Setup). t.epsilon) (sym (past-change before after change u (omega arith)));
    }

-- ---- the delay

-- sent at r, heard in a call for v, while its sender's clock is S, both clocks after the call: by the limits of v, and not past its due clock
module _ (before after : Setup) (change v S r : ℕ) (good : Widens before after) (sent : r ≤ S) where
  abbrev side : ℕ → Setup
  side x = limits_at (widening before after change) x

  -- the limits of a clock, as numbers
  data Side (x e d : ℕ) : Type 0 where
    early : x < change → e ≡ before.epsilon → d ≡ before.delta → Side x e d
    late : change ≤ x → e ≡ after.epsilon → d ≡ after.delta → Side x e d

  side-of : (x : ℕ) → Side x (side x).epsilon (side x).delta
  side-of x = go (side x) (limits-by before after change x)
    where
      go : (s : Setup) → LimitsBy before after change x s → Side x s.epsilon s.delta
      go s (narrow h e) = early h (ap (λ (u : Setup). u.epsilon) e) (ap (λ (u : Setup). u.delta) e)
      go s (wide h e) = late h (ap (λ (u : Setup). u.epsilon) e) (ap (λ (u : Setup). u.delta) e)

  heard-by : S ≤ r + (side r).delta → v ≤ S + (side S).epsilon → v ≤ r + (side v).delta + (side v).epsilon
  heard-by = go (side-of r) (side-of S) (side-of v)
    where
      go :
          {re rd Se Sd ve vd : ℕ} → Side r re rd → Side S Se Sd → Side v ve vd → S ≤ r + rd → v ≤ S + Se → v ≤ r + vd + ve
      go (early a b c) (early a' b' c') (early a'' b'' c'') near ahead = omega arith
      go (early a b c) (early a' b' c') (late a'' b'' c'') near ahead = omega (arith, good.epsilon, good.delta)
      go (early a b c) (late a' b' c') (early a'' b'' c'') near ahead = omega arith
      go (early a b c) (late a' b' c') (late a'' b'' c'') near ahead = omega (arith, good.delta)
      go (late a b c) (early a' b' c') s near ahead = absurd (omega (arith, sent))
      go (late a b c) (late a' b' c') (early a'' b'' c'') near ahead = omega arith
      go (late a b c) (late a' b' c') (late a'' b'' c'') near ahead = omega arith

  heard-due : (c : ℕ) → S ≤ r + (side r).delta → v ≤ S + (side S).epsilon → v ≤ due_along (widening before after change) (r + c)
  heard-due c = go (side-of r) (side-of S) (due-by before after change (r + c))
    where
      go :
          {re rd Se Sd due : ℕ} → Side r re rd → Side S Se Sd → DueBy before after change (r + c) due → S ≤ r + rd → v ≤ S + Se → v ≤ due
      go (early a b d) (early a' b' d') (old h e) near ahead = omega arith
      go (early a b d) (early a' b' d') (new h e) near ahead = omega (arith, good.epsilon, good.delta)
      go (early a b d) (late a' b' d') (old h e) near ahead = absurd (omega arith)
      go (early a b d) (late a' b' d') (new h e) near ahead = omega (arith, good.delta)
      go (late a b d) (early a' b' d') l near ahead = absurd (omega (arith, sent))
      go (late a b d) (late a' b' d') (old h e) near ahead = absurd (omega arith)
      go (late a b d) (late a' b' d') (new h e) near ahead = omega arith

-- along any schedule: r is at most δ + ε behind v, by the limits of v, and the message is not due before v, whatever its c
pub heard-late :
    (g : Schedule) → Good g → (r S v c : ℕ) → r ≤ S → S ≤ r + (limits_at g r).delta → v ≤ S + (limits_at g S).epsilon
    → (v ≤ r + (limits_at g v).delta + (limits_at g v).epsilon) × (v ≤ due_along g (r + c))
heard-late (steady s) good r S v c sent Near-by drift = (omega arith, omega arith)
heard-late (widening before after change) good r S v c sent Near-by drift = (
  heard-by before after change v S r good sent Near-by drift,
  heard-due before after change v S r good sent c Near-by drift,
)
