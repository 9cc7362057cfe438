-- 02, 2.10: the tests of the premises through V as facts. How far clocks lie apart, how late a message is heard, and what the schedule of a call, in
-- readings, agrees on with that of true clocks, whichever setup the call has.
-- Assumes nothing.
use Prim.Native.Nat.{ℕ, ◌+◌, ◌*◌, ◌%◌, ◌≤◌, ◌<◌}
use native.Mathlib.Omega.{arith}
use mathlib.Core.Path.{◌≡◌, refl, sym, ap, subst}
use mathlib.Core.Logic.{inl, inr}
use mathlib.Core.Bool.{Bool, true, false, cond}
use mathlib.Core.List.{List}
use mathlib.Core.Option.{Option, none, some}
use lib.Dec.{leb, ltb, eqb}
use lib.ListN.{get_elem?}
use borrow.Author.Tests.{leb-true, ltb-true, eqb-true, lt-ltb, le-leb, lt-leb}
use Rattle.laws.specs.Lists.{any}
use Rattle.laws.proofs.Numbers.{lt-or-ge, clash, and_left, and_right, cond-true}
use Rattle.laws.proofs.Lists.{any-of-mem, get_elem?-mem}
use Rattle.model.specs.Setup.{Setup, in_limits, width}
use Rattle.model.specs.Schedule.{Schedule, steady, widening, limits_at, modulus_of, Wider, wider_setup, same_pairs, along, old_due, due_along}
use Rattle.model.specs.Run.{Node, Call, Done, schedule_by, schedule_of}
use Rattle.theory.specs.Premises.{same_setup, together, one_setup}
use Rattle.theory.specs.Changeover.{Changeover, along_all, good_changeover, Phase, older, both, newer, phase_after, phase_setup, wider_for, same_wider, phase_wider, well_before, not_too_soon, not_too_late, well_past, phase_allowed, drift_of, setup_through}
use Rattle.lemmas.proofs.Questions.{limits-from}
use Rattle.lemmas.proofs.Schedules.{Widens, LimitsBy, narrow, wide, limits-by, DueBy, old, new, due-by, Aligned, ChangeAt, true_schedule, along-true}
use Rattle.lemmas.proofs.Agreeing.{Agrees, agrees-aligned, agrees-old, agrees-new}
use Rattle.theory.proofs.Start.{together-fact, same-setup}

-- the changeover
pub widens-fact : (y : Changeover) → good_changeover y ≡ true → Widens y.before y.after
unfolding good_changeover
widens-fact y h =
    let h₁ = and_right (in_limits y.before) _ h in
    let h₂ = and_right (in_limits y.after) _ h₁ in
    let h₃ = and_right (eqb y.after.n y.before.n) _ h₂ in
    let h₄ = and_right (eqb y.after.modulus y.before.modulus) _ h₃ in
    record {
      n = eqb-true _ _ (and_left (eqb y.after.n y.before.n) _ h₂);
      modulus = eqb-true _ _ (and_left (eqb y.after.modulus y.before.modulus) _ h₃);
      epsilon = leb-true _ _ (and_left (leb y.before.epsilon y.after.epsilon) _ h₄);
      delta = leb-true _ _ (and_right (leb y.before.epsilon y.after.epsilon) _ h₄);
      old = limits-from y.before (and_left (in_limits y.before) _ h);
      new = limits-from y.after (and_left (in_limits y.after) _ h₁);
    }

-- ---- drift

-- no clock is more than ε of the own clock's limits ahead of the own one
pub drift-ahead :
    (y : Changeover) → Widens y.before y.after → (nodes : List Node) → together (drift_of y nodes) nodes ≡ true
    → (i j : ℕ) (a b : Node) → get_elem? nodes i ≡ some a → get_elem? nodes j ≡ some b → a.clock ≤ b.clock + (limits_at (along_all y) b.clock).epsilon
unfolding drift_of
drift-ahead y good nodes h i j a b p q = go (limits_at (along_all y) b.clock) (limits-by y.before y.after y.change b.clock)
  where
    far : a.clock ≤ b.clock + drift_of y nodes
    far = together-fact (drift_of y nodes) nodes h i j a b p q

    most : (below : Bool) → cond below y.before.epsilon y.after.epsilon ≤ y.after.epsilon
    most true = good.epsilon
    most false = omega arith

    go : (s : Setup) → LimitsBy y.before y.after y.change b.clock s → a.clock ≤ b.clock + s.epsilon
    go s (narrow below e) =
        let here : any (λ (x : Node). ltb x.clock y.change) nodes ≡ true =
        any-of-mem (λ (x : Node). ltb x.clock y.change) (get_elem?-mem nodes j q) (lt-ltb b.clock y.change below) in
        let is : drift_of y nodes ≡ y.before.epsilon = cond-true y.before.epsilon y.after.epsilon here in
        omega (arith, far, is, ap (λ (u : Setup). u.epsilon) e)
    go s (wide past e) =
        omega (arith, far, most (any (λ (x : Node). ltb x.clock y.change) nodes), ap (λ (u : Setup). u.epsilon) e)

-- ---- the schedule of a call

-- the wider pair of a call
pub same-wider : (w u : Wider) → same_wider w u ≡ true → w ≡ u
unfolding same_wider
same-wider w u h =
    let h₁ = and_right (eqb w.epsilon u.epsilon) _ h in
    let h₂ = and_right (eqb w.delta u.delta) _ h₁ in
    let epsilon-is = eqb-true w.epsilon u.epsilon (and_left (eqb w.epsilon u.epsilon) _ h) in
    let delta-is = eqb-true w.delta u.delta (and_left (eqb w.delta u.delta) _ h₁) in
    let change-is = eqb-true w.change u.change (and_left (eqb w.change u.change) _ h₂) in
    let marked-is = eqb-true w.marked u.marked (and_right (eqb w.change u.change) _ h₂) in
    λ i. record { epsilon = epsilon-is i; delta = delta-is i; change = change-is i; marked = marked-is i }

-- V stands where its mark says
pub change-at : (y : Changeover) (v : ℕ) → y.change ≤ v + y.before.modulus → v < y.change + y.before.modulus → ChangeAt y.before.modulus v y.change (wider_for y v)
unfolding wider_for
change-at y v soon far =
    elim (lt-or-ge v y.change) [
      | inl h ↦ record { reduced = refl; unmarked = λ e. (h, soon); marked = λ e. absurd (clash e (rw (lt-leb y.change v h) refl)) }
      | inr h ↦ record { reduced = refl; unmarked = λ e. absurd (clash (rw (le-leb y.change v h) refl) e); marked = λ e. (h, far) }
    ]

-- with equal pairs one setup does for all clocks
agrees-same : (s after : Setup) (change v : ℕ) → after ≡ s → Agrees (widening s after change) v (steady s)
agrees-same s after change v same =
    let g : Schedule = widening s after change in
    let own : (x : ℕ) → limits_at g x ≡ s = λ x. one (ltb x change) in
    record {
      modulus = refl;
      own = sym (own v);
      due = λ y hi lo. due-same (y + v) y refl (due-by s after (change + s.modulus) (y + v));
      compared = λ y hi lo. sym (one-epsilon (old_due s (change + s.modulus) (y + v)));
      half = λ R hi lo. ap (λ (u : Setup). u.epsilon) (sym (own R));
      halves = λ count broad. sym (either (eqb count (width after.epsilon)));
      tables = λ k u e few some. ap (λ (t : Setup). t.epsilon) (sym (own u));
    }
  where
    one : (b : Bool) → cond b s after ≡ s
    one true = refl
    one false = same

    same-epsilon : after.epsilon ≡ s.epsilon
    same-epsilon = ap (λ (u : Setup). u.epsilon) same

    one-epsilon : (b : Bool) → cond b s.epsilon after.epsilon ≡ s.epsilon
    one-epsilon true = refl
    one-epsilon false = same-epsilon

    either : (b : Bool) → cond b after.epsilon s.epsilon ≡ s.epsilon
    either true = same-epsilon
    either false = refl

    due-same :
        (x y : ℕ) → x ≡ y + v → DueBy s after (change + s.modulus) x (due_along (widening s after (change + s.modulus)) x)
        → y + s.delta + s.epsilon + v ≡ due_along (widening s after (change + s.modulus)) x
    due-same x y e (old h q) = omega arith
    due-same x y e (new h q) = omega (arith, ap (λ (u : Setup). u.delta) same, same-epsilon)

-- both pairs
pub agrees-both :
    (y : Changeover) (v : ℕ) → Widens y.before y.after → y.change ≤ v + y.before.modulus → v < y.change + y.before.modulus
    → Agrees (along_all y) v (along y.before (wider_for y v) (v % y.before.modulus))
agrees-both y v good soon far = go (same_pairs y.before w) refl
  where
    w : Wider
    w = wider_for y v

    pos : 0 < y.before.modulus
    pos = omega (arith, good.old.modulus-least)

    new-pair : wider_setup y.before w ≡ y.after
    new-pair = unfold wider_for in (λ i. record { n = sym good.n i; epsilon = y.after.epsilon; delta = y.after.delta; modulus = sym good.modulus i })

    go : (b : Bool) → same_pairs y.before w ≡ b → Agrees (along_all y) v (along y.before w (v % y.before.modulus))
    go true e = unfold along in (rw e (agrees-same y.before y.after y.change v (same_after e)))
      where
        same_after : same_pairs y.before w ≡ true → y.after ≡ y.before
        same_after h =
            let ε-is : y.after.epsilon ≡ y.before.epsilon = unfold same_pairs wider_for in (eqb-true _ _ (and_left (eqb w.epsilon y.before.epsilon) (eqb w.delta y.before.delta) h)) in
            let δ-is : y.after.delta ≡ y.before.delta = unfold same_pairs wider_for in (eqb-true _ _ (and_right (eqb w.epsilon y.before.epsilon) (eqb w.delta y.before.delta) h)) in
            λ i. record { n = good.n i; epsilon = ε-is i; delta = δ-is i; modulus = good.modulus i }
    go false e =
        subst (λ (g : Schedule). Agrees g v (along y.before w (v % y.before.modulus))) is
        (agrees-aligned (true_schedule y.before w y.change) (along y.before w (v % y.before.modulus)) v aligned)
      where
        is : true_schedule y.before w y.change ≡ along_all y
        is = rw e (ap (λ (u : Setup). widening y.before u y.change) new-pair)

        modulus-is : modulus_of (along y.before w (v % y.before.modulus)) ≡ y.before.modulus
        modulus-is = unfold along in (rw e refl)

        aligned : Aligned v (modulus_of (along y.before w (v % y.before.modulus))) (along y.before w (v % y.before.modulus)) (true_schedule y.before w y.change)
        aligned = rw modulus-is (along-true y.before w v y.change pos (change-at y v soon far))

-- whichever setup a call has
module _ (y : Changeover) (good : Widens y.before y.after) (frozen : ℕ) (call : Call) (d : Done)
    (clock-is : call.clock ≡ d.clock % y.before.modulus) (moved : d.last < d.clock) (step : d.clock ≤ d.last + y.after.epsilon) where
  with-both :
      (w : Wider) → same_wider w (wider_for y d.clock) ≡ true → call.setup ≡ y.before → y.change ≤ d.clock + y.before.modulus
      → d.clock < y.change + y.before.modulus → Agrees (along_all y) d.clock (along call.setup w call.clock)
  with-both w wider same soon far =
      rw (same, same-wider w (wider_for y d.clock) wider, clock-is) (agrees-both y d.clock good soon far)

  -- by the parts of its test
  agrees-by :
      (phase : Phase) (w : Option Wider) → phase_allowed y frozen d.last d.clock phase (phase_after phase w) ≡ true
      → phase_wider y d.clock w ≡ true → call.setup ≡ phase_setup y (phase_after phase w) → Agrees (along_all y) d.clock (schedule_by w call.setup call.clock)
  unfolding well_before well_past not_too_soon not_too_late
  agrees-by older none h wider same = rw same (agrees-old y.before y.after y.change d.clock good (leb-true _ _ h))
  agrees-by older (some w) h wider same =
      let h₁ = and_right (leb frozen d.last) _ h in
      let far : d.last + y.before.delta + 2 * y.before.epsilon ≤ y.change = leb-true _ _ (and_left (well_before y d.last) _ h₁) in
      let soon : y.change ≤ d.clock + y.before.modulus = leb-true _ _ (and_right (well_before y d.last) _ h₁) in
      with-both w wider same soon (omega (arith, far, step, good.new.modulus-least, good.modulus))
  agrees-by both none h wider same =
      let past : y.change + y.after.delta + 2 * y.after.epsilon ≤ d.last = leb-true _ _ (and_left (well_past y d.last) _ (and_right (leb frozen d.last) _ h)) in
      rw same (agrees-new y.before y.after y.change d.clock good (omega (arith, past, moved)))
  agrees-by both (some w) h wider same =
      with-both w wider same (leb-true _ _ (and_left (not_too_soon y d.clock) _ h)) (ltb-true _ _ (and_right (not_too_soon y d.clock) _ h))
  agrees-by newer none h wider same =
      let past : y.change + y.after.delta + 2 * y.after.epsilon ≤ d.last = leb-true _ _ h in
      rw same (agrees-new y.before y.after y.change d.clock good (omega (arith, past, moved)))
  agrees-by newer (some w) h wider same = absurd (clash h refl)

  pub agrees-call :
      (phase : Phase) → setup_through y frozen phase (phase_after phase call.wider) call d ≡ true → Agrees (along_all y) d.clock (schedule_of call)
  unfolding setup_through one_setup schedule_of
  agrees-call phase h =
      let next : Phase = phase_after phase call.wider in
      let h₁ = and_right (phase_allowed y frozen d.last d.clock phase next) _ h in
      let h₂ = and_right (phase_wider y d.clock call.wider) _ h₁ in
      let same = and_left (one_setup (phase_setup y next) call d) _ h₂ in
      agrees-by phase call.wider (and_left (phase_allowed y frozen d.last d.clock phase next) _ h)
      (and_left (phase_wider y d.clock call.wider) _ h₁) (same-setup call.setup (phase_setup y next) (and_left (same_setup call.setup (phase_setup y next)) _ same))
