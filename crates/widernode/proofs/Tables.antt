-- 02, 2.10: the tables of a tick with both pairs of limits: judged by their own counts, and opened into those of v. Assumes nothing.
use Prim.Native.Nat.{ℕ, ◌-◌, ◌≤◌, ◌<◌}
use native.Mathlib.Omega.{arith}
use mathlib.Core.Path.{◌≡◌, refl, sym, ap, ◌∙◌}
use mathlib.Core.Bool.{Bool, true, false, ◌&&◌, cond}
use lib.Dec.{ltb}
use borrow.Author.Tests.{ltb-true}
use Rattle.laws.proofs.Numbers.{and_left}
use Rattle.model.specs.Setup.{Setup}
use Rattle.model.specs.Timestamp.{Timestamp, clock_step, sound_clock, sound_timestamp, sound_beside, trimmed, widened, replaced}
use Rattle.model.specs.Tick.{step_of, least_at}
use Rattle.model.specs.Schedule.{Schedule, widening, modulus_of, own_limits, tables_half}
use Rattle.model.specs.Wider.{wider_step_of, wider_tables, wider_tables_sound, wider_least, step_into, wider_opening_stamp}
use Rattle.lemmas.proofs.Bounds.{Limits}
use Rattle.lemmas.proofs.Counts.{beside-clock, trimmed-widened}
use Rattle.lemmas.proofs.Questions.{limits-to}
use Rattle.lemmas.proofs.Schedules.{Good, limits-good, limits-modulus}
use Rattle.lemmas.proofs.WiderTick.{opening-stamp-along}
use Rattle.node.specs.States.{LastClock, ClockOpened}
use Rattle.node.specs.States as nodes
use Rattle.widernode.specs.States.{Timed, StampOpened}
use Rattle.widernode.proofs.Times.{Own}

-- a call at the limits of v
pub own-timed : (g : Schedule) (v : ℕ) {s : Setup} → Timed g v → s ≡ own_limits g → nodes.Timed s v
own-timed g v t e =
    let lim : Limits (own_limits g) = limits-good g t.good (modulus_of g) in
    rw e (record { limits = limits-to (own_limits g) lim; below = omega (arith, t.below, limits-modulus g t.good (modulus_of g)) })

-- half the width of tables is in 01's limits
pub half-limits : (g : Schedule) → Good g → {half : ℕ} (k : ℕ) → half ≡ tables_half g k → (1 ≤ half) × (half ≤ 16)
half-limits g good k e =
    let lim : Limits _ = limits-good g good (modulus_of g - k) in
    (omega (arith, e, lim.epsilon-pos), omega (arith, e, lim.epsilon-most))

false-behind : (b : Bool) → (b && false) ≡ false
false-behind true = refl
false-behind false = refl

module _ (g : Schedule) (v : ℕ) (t : Timestamp) {s : Setup} (o : Own g s) where
  clock-same : sound_clock s.epsilon s.modulus v t.r ≡ sound_clock (own_limits g).epsilon (modulus_of g) v t.r
  clock-same = λ j. sound_clock (o.epsilon j) (o.modulus j) v t.r

  step_same : clock_step s.modulus t.r v ≡ wider_step_of g v t
  unfolding step_of
  step_same = λ j. clock_step ((o.modulus ∙ sym o.same) j) t.r v

  pub tables-late : sound_clock s.epsilon s.modulus v t.r ≡ false → false ≡ wider_tables_sound g v t
  unfolding wider_tables_sound
  tables-late h =
      sym (rw (sym clock-same ∙ h) (false-behind (sound_timestamp (own_limits g).n (tables_half g (wider_step_of g v t)) (wider_tables g v t))))

  pub tables-timely : {half k : ℕ} {b : Bool} → sound_clock s.epsilon s.modulus v t.r ≡ true → k ≡ clock_step s.modulus t.r v → half ≡ tables_half g k
      → b ≡ sound_beside true s.n half (trimmed half t) → b ≡ wider_tables_sound g v t
  unfolding wider_tables_sound
  tables-timely {half} {k} h steps e judged =
      let half_is : half ≡ tables_half g (wider_step_of g v t) = e ∙ ap (tables_half g) (steps ∙ step_same) in
      judged
      ∙ (λ j. sound_beside ((sym h ∙ clock-same) j) (o.n j) (half_is j) (trimmed (half_is j) t))

  -- sound tables have a sound clock
  pub tables-last : {sound : Bool} → sound ≡ wider_tables_sound g v t → LastClock s v sound t.r
  unfolding wider_tables_sound
  tables-last e =
      record {
        judged = λ h.
            clock-same ∙ beside-clock (sound_clock (own_limits g).epsilon (modulus_of g) v t.r) (own_limits g).n (tables_half g (wider_step_of g v t)) (wider_tables g v t) (sym e ∙ h);
      }

  module _ {sound : Bool} {least repair : ℕ} (e : sound ≡ wider_tables_sound g v t) (c : ClockOpened s v sound t.r least repair) (own : s ≡ own_limits g) where
    stamp-opened : {t' : Timestamp} → t' ≡ widened (wider_opening_stamp g v t) → StampOpened g v t t' least repair
    unfolding wider_least
    stamp-opened h =
        record {
          stamp = h;
          least-is = c.least-is ∙ (λ j. least_at (o.modulus j) (e j) (step_same j));
          recent = rw own at c.recent;
          repaired = c.repaired ∙ ap (λ (b : Bool). cond b 0 1) e;
        }

    pub stamp-replaced : {t' : Timestamp} → sound ≡ false → t' ≡ widened (replaced s.epsilon v) → StampOpened g v t t' least repair
    unfolding wider_opening_stamp
    stamp-replaced h d = stamp-opened (d ∙ (λ j. widened (replaced (o.epsilon j) v)) ∙ rw (sym e ∙ h))

-- sound tables take a step, from counts of their own width into those of v
module _ (before after : Setup) (change v : ℕ) (t : Timestamp) where
  abbrev g : Schedule
  g = widening before after change

  pub stamp-stepped : {s : Setup} (o : Own g s) {sound : Bool} {least repair half k : ℕ} {t' : Timestamp} → sound ≡ wider_tables_sound g v t → ClockOpened s v sound t.r least repair → s ≡ own_limits g
      → sound ≡ true → k ≡ clock_step s.modulus t.r v → half ≡ tables_half g k → t' ≡ widened (step_into s.epsilon half k v (trimmed half t)) → StampOpened g v t t' least repair
  unfolding wider_opening_stamp
  stamp-stepped o {k = k} e c own h steps half_is d =
      let step_is : k ≡ wider_step_of g v t = steps ∙ step_same g v t o in
      let half-same = half_is ∙ ap (tables_half g) step_is in
      stamp-opened g v t o e c own
      (d ∙ (λ j. widened (step_into (o.epsilon j) (half-same j) (step_is j) v (trimmed (half-same j) t)))
      ∙ rw (sym e ∙ h))

-- the stamp with which hearing starts, and its places past the counts
module _ (g : Schedule) (v : ℕ) (t : Timestamp) (good : Good g) {t₁ : Timestamp} {least repair : ℕ} (o : StampOpened g v t t₁ least repair) where
  pub stamp-trimmed : trimmed (own_limits g).epsilon t₁ ≡ wider_opening_stamp g v t
  stamp-trimmed =
      ap (trimmed (own_limits g).epsilon) o.stamp
      ∙ trimmed-widened (own_limits g).epsilon (wider_opening_stamp g v t) (limits-good g good (modulus_of g)).epsilon-most (opening-stamp-along g good v t).wide

  pub stamp-narrow : t₁ ≡ widened (trimmed (own_limits g).epsilon t₁)
  stamp-narrow = o.stamp ∙ ap widened (sym stamp-trimmed)

-- a sound last clock is below B
pub last-below : (epsilon modulus v last : ℕ) → sound_clock epsilon modulus v last ≡ true → last < modulus
last-below epsilon modulus v last h = ltb-true last modulus (and_left (ltb last modulus) _ h)
