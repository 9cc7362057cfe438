-- 02, 2.9: an engine's tables judged, and the stamp with which hearing starts. Assumes nothing.
use Prim.Native.Nat.{ℕ, ◌+◌, ◌-◌, ◌≤◌, ◌<◌}
use native.Mathlib.Omega.{arith}
use mathlib.Core.Path.{◌≡◌, sym, ◌∙◌}
use mathlib.Core.Bool.{true, false}
use lib.Dec.{leb, ltb}
use borrow.Author.Tests.{lt-ltb, le-ltb, le-leb}
use Rattle.laws.specs.Lists.{within}
use Rattle.laws.proofs.Numbers.{and-false}
use Rattle.model.specs.Setup.{Setup}
use Rattle.model.specs.Timestamp.{Timestamp, trimmed, widened, replaced, step}
use Rattle.model.specs.Long.{long_bound, long_clock_sound, long_tables_sound, long_least_due}
use Rattle.lemmas.proofs.Counts.{beside-clock}
use Rattle.lemmas.proofs.LongTick.{long-steps}
use Rattle.long.specs.States.{StampOpened}

-- ---- the clock of the tables, test by test

module _ (epsilon v r : ℕ) where
  pub clock-past : long_bound ≤ r → false ≡ long_clock_sound epsilon v r
  unfolding long_clock_sound
  clock-past h = sym (rw (le-ltb r long_bound h))

  pub clock-ahead : v ≤ r → false ≡ long_clock_sound epsilon v r
  unfolding long_clock_sound within
  clock-ahead h =
      let none : v - r ≡ 0 = omega arith in
      sym (rw none (and-false (ltb r long_bound)))

  pub clock-near : r < long_bound → r < v → leb (v - r) epsilon ≡ long_clock_sound epsilon v r
  unfolding long_clock_sound within
  clock-near below before =
      let some : 1 ≤ v - r = omega arith in
      sym (rw (lt-ltb r long_bound below, le-leb 1 (v - r) some))

-- ---- the tables

module _ (s : Setup) (v : ℕ) (t : Timestamp) where
  pub tables-steps : long_tables_sound s v t ≡ true → (1 ≤ v - t.r) × (v - t.r ≤ s.epsilon)
  unfolding long_tables_sound
  tables-steps h =
      long-steps s.epsilon v t.r (beside-clock (long_clock_sound s.epsilon v t.r) s.n s.epsilon (trimmed s.epsilon t) h)

  pub stamp-replaced : (t' : Timestamp) → long_tables_sound s v t ≡ false → t' ≡ widened (replaced s.epsilon v) → StampOpened s v t t' v 1
  unfolding long_least_due
  stamp-replaced t' h e =
      record { stamp = e ∙ rw h; least-is = rw h; repaired = rw h }

  pub stamp-stepped : (t' : Timestamp) → long_tables_sound s v t ≡ true → t' ≡ widened (step (v - t.r) v (trimmed s.epsilon t)) → StampOpened s v t t' (v + 1 - (v - t.r)) 0
  unfolding long_least_due
  stamp-stepped t' h e =
      record { stamp = e ∙ rw h; least-is = rw h; repaired = rw h }
