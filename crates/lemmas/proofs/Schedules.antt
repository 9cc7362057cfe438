-- 02, 2.10: limits that change at a clock. How due clocks lie, how a schedule is moved from true clocks to readings, and how a reading by the
-- wider limits is the one by the old ones. Assumes nothing.
use Prim.Native.Nat.{ℕ, ◌+◌, ◌-◌, ◌%◌, ◌≤◌, ◌<◌}
use native.Mathlib.Omega.{arith}
use native.Mathlib.Nat.{mod-lt, mod_self, add-mod_right}
use mathlib.Core.Path.{◌≡◌, refl, sym, ap, subst, ◌∙◌}
use mathlib.Core.Logic.{inl, inr}
use mathlib.Core.Bool.{Bool, true, false, ◌&&◌, cond}
use lib.Dec.{ltb, eqb}
use borrow.Author.Tests.{lt-ltb, le-ltb, eq-eqb, ne_eqb}
use Rattle.laws.proofs.Numbers.{lt-or-ge, eq-or-ne, ahead-ge}
use Rattle.model.specs.Setup.{Setup}
use Rattle.model.specs.Timestamp.{ahead, near}
use Rattle.model.specs.Schedule.{Schedule, steady, widening, limits_at, modulus_of, widest_of, Wider, wider_setup, is_marked, change_ahead, change_behind, change_near, same_pairs, along, own_limits, side_of, half_of, old_due, due_along, compared_along}
use Rattle.lemmas.proofs.Bounds.{Limits}
use Rattle.lemmas.proofs.Reading.{near-ahead, near-behind}

-- the second pair is the first one or wider, in the same group
pub record Widens (before after : Setup) : Type 0 where
  pub n : after.n ≡ before.n
  pub modulus : after.modulus ≡ before.modulus
  pub epsilon : before.epsilon ≤ after.epsilon
  pub delta : before.delta ≤ after.delta
  pub old : Limits before
  pub new : Limits after

-- a schedule of limits that are in 01's
abbrev pub Good : Schedule → Type 0
Good (steady s) = Limits s
Good (widening before after change) = Widens before after

-- ---- by which pair

-- the limits of a clock, by where it lies
pub data LimitsBy (before after : Setup) (change clock : ℕ) (s : Setup) : Type 0 where
  narrow : clock < change → s ≡ before → LimitsBy before after change clock s
  wide : change ≤ clock → s ≡ after → LimitsBy before after change clock s

pub limits-by : (before after : Setup) (change clock : ℕ) → LimitsBy before after change clock (limits_at (widening before after change) clock)
limits-by before after change clock =
    elim (lt-or-ge clock change) [
      | inl h ↦ narrow h (rw (lt-ltb clock change h))
      | inr h ↦ wide h (rw (le-ltb clock change h))
    ]

-- the due clock, by where the old one lies
pub data DueBy (before after : Setup) (change total due : ℕ) : Type 0 where
  old : total + before.delta + before.epsilon < change → due ≡ total + before.delta + before.epsilon → DueBy before after change total due
  new : change ≤ total + before.delta + before.epsilon → due ≡ total + after.delta + after.epsilon → DueBy before after change total due

pub due-by : (before after : Setup) (change total : ℕ) → DueBy before after change total (due_along (widening before after change) total)
unfolding old_due
due-by before after change total =
    elim (lt-or-ge (total + before.delta + before.epsilon) change) [
      | inl h ↦ old h (rw (lt-ltb (total + before.delta + before.epsilon) change h))
      | inr h ↦ new h (rw (le-ltb (total + before.delta + before.epsilon) change h))
    ]

-- the limits of every clock are in 01's, in one group
pub limits-good : (g : Schedule) → Good g → (x : ℕ) → Limits (limits_at g x)
limits-good (steady s) good x = good
limits-good (widening before after change) good x = go (limits_at (widening before after change) x) (limits-by before after change x)
  where
    go : (s : Setup) → LimitsBy before after change x s → Limits s
    go s (narrow p e) = subst Limits (sym e) good.old
    go s (wide p e) = subst Limits (sym e) good.new

pub limits-modulus : (g : Schedule) → Good g → (x : ℕ) → (limits_at g x).modulus ≡ modulus_of g
limits-modulus (steady s) good x = refl
limits-modulus (widening before after change) good x = go (limits_at (widening before after change) x) (limits-by before after change x)
  where
    go : (s : Setup) → LimitsBy before after change x s → s.modulus ≡ before.modulus
    go s (narrow p e) = ap (λ (u : Setup). u.modulus) e
    go s (wide p e) = ap (λ (u : Setup). u.modulus) e ∙ good.modulus

pub limits-n : (g : Schedule) → Good g → (x : ℕ) → (limits_at g x).n ≡ (widest_of g).n
limits-n (steady s) good x = refl
limits-n (widening before after change) good x = go (limits_at (widening before after change) x) (limits-by before after change x)
  where
    go : (s : Setup) → LimitsBy before after change x s → s.n ≡ after.n
    go s (narrow p e) = ap (λ (u : Setup). u.n) e ∙ sym good.n
    go s (wide p e) = ap (λ (u : Setup). u.n) e

-- and those of a later clock are as wide or wider
pub limits-grow : (g : Schedule) → Good g → (x y : ℕ) → x ≤ y → ((limits_at g x).epsilon ≤ (limits_at g y).epsilon) × ((limits_at g x).delta ≤ (limits_at g y).delta)
limits-grow (steady s) good x y h = (omega arith, omega arith)
limits-grow (widening before after change) good x y h =
    go (limits_at (widening before after change) x) (limits_at (widening before after change) y) (limits-by before after change x) (limits-by before after change y)
  where
    go : (s u : Setup) → LimitsBy before after change x s → LimitsBy before after change y u → (s.epsilon ≤ u.epsilon) × (s.delta ≤ u.delta)
    go s u (narrow p e) (narrow p' e') = rw (e, e') (omega arith, omega arith)
    go s u (narrow p e) (wide p' e') = rw (e, e') (good.epsilon, good.delta)
    go s u (wide p e) (narrow p' e') = absurd (omega arith)
    go s u (wide p e) (wide p' e') = rw (e, e') (omega arith, omega arith)

pub limits-widest : (g : Schedule) → Good g → (x : ℕ) → ((limits_at g x).epsilon ≤ (widest_of g).epsilon) × ((limits_at g x).delta ≤ (widest_of g).delta)
limits-widest (steady s) good x = (omega arith, omega arith)
limits-widest (widening before after change) good x = go (limits_at (widening before after change) x) (limits-by before after change x)
  where
    go : (s : Setup) → LimitsBy before after change x s → (s.epsilon ≤ after.epsilon) × (s.delta ≤ after.delta)
    go s (narrow p e) = rw e (good.epsilon, good.delta)
    go s (wide p e) = rw e (omega arith, omega arith)

pub widest-good : (g : Schedule) → Good g → Limits (widest_of g)
widest-good (steady s) good = good
widest-good (widening before after change) good = good.new

pub widest-modulus : (g : Schedule) → Good g → (widest_of g).modulus ≡ modulus_of g
widest-modulus (steady s) good = refl
widest-modulus (widening before after change) good = good.modulus

-- ---- how due clocks lie

-- a due clock grows at least as fast as its sum
pub due-grows : (g : Schedule) → Good g → (x y : ℕ) → x ≤ y → due_along g x + y ≤ due_along g y + x
due-grows (steady s) good x y h = omega arith
due-grows (widening before after change) good x y h = go (due-by before after change x) (due-by before after change y)
  where
    go :
        DueBy before after change x (due_along (widening before after change) x) → DueBy before after change y (due_along (widening before after change) y)
        → due_along (widening before after change) x + y ≤ due_along (widening before after change) y + x
    go (old p q) (old p' q') = omega arith
    go (old p q) (new p' q') = omega (arith, good.epsilon, good.delta)
    go (new p q) (old p' q') = omega arith
    go (new p q) (new p' q') = omega arith

-- so a larger sum is due later
pub due-later : (g : Schedule) → Good g → (x y : ℕ) → x < y → due_along g x < due_along g y
due-later g good x y h = omega (arith, due-grows g good x y (omega arith))

-- a due clock is past its sum
pub due-past : (g : Schedule) (x : ℕ) → x ≤ due_along g x
due-past (steady s) x = omega arith
due-past (widening before after change) x = go (due-by before after change x)
  where
    go : DueBy before after change x (due_along (widening before after change) x) → x ≤ due_along (widening before after change) x
    go (old p q) = omega arith
    go (new p q) = omega arith

-- what is due at `least` or later, no more than one past a clock, has its sum no more than δ + ε of that clock's limits before `least`
pub due-window :
    (g : Schedule) → Good g → (at least x : ℕ) → least ≤ at + 1 → least ≤ due_along g x
    → least ≤ x + (limits_at g at).delta + (limits_at g at).epsilon
due-window (steady s) good at least x h d = d
due-window (widening before after change) good at least x h d = go (limits_at (widening before after change) at) (limits-by before after change at) (due-by before after change x)
  where
    go :
        (s : Setup) → LimitsBy before after change at s → DueBy before after change x (due_along (widening before after change) x)
        → least ≤ x + s.delta + s.epsilon
    go s (narrow p e) (old p' q') = rw e (omega arith)
    go s (narrow p e) (new p' q') = rw e (omega arith)
    go s (wide p e) (old p' q') = rw e (omega (arith, good.epsilon, good.delta))
    go s (wide p e) (new p' q') = rw e (omega arith)

-- for each `least` there is one gap by which the sums of all that is due then or later lie before a clock between it and the due clock
pub record Gap (g : Schedule) (least gap : ℕ) : Type 0 where
  pub low : (x : ℕ) → least ≤ due_along g x → least ≤ x + gap
  pub high : (x : ℕ) → least ≤ due_along g x → x + gap ≤ due_along g x
  -- it is δ + ε of one of the pairs
  pub most : gap ≤ (widest_of g).delta + (widest_of g).epsilon

pub due-gap : (g : Schedule) → Good g → (least : ℕ) → (gap : ℕ) × Gap g least gap
due-gap (steady s) good least =
    (s.delta + s.epsilon, record { low = λ x h. omega arith; high = λ x h. omega arith; most = omega arith })
due-gap (widening before after change) good least =
    elim (lt-or-ge least change) [
      | inl h ↦ (
        before.delta + before.epsilon,
        record {
          low = λ x d. low-old h x d (due-by before after change x);
          high = λ x d. high-old x (due-by before after change x);
          most = omega (arith, good.epsilon, good.delta);
        },
      )
      | inr h ↦ (
        after.delta + after.epsilon,
        record {
          low = λ x d. low-new h x d (due-by before after change x);
          high = λ x d. high-new h x d (due-by before after change x);
          most = omega arith;
        },
      )
    ]
  where
    low-old : least < change → (x : ℕ) → least ≤ due_along (widening before after change) x → DueBy before after change x (due_along (widening before after change) x) → least ≤ x + (before.delta + before.epsilon)
    low-old h x d (old p q) = omega arith
    low-old h x d (new p q) = omega arith

    high-old : (x : ℕ) → DueBy before after change x (due_along (widening before after change) x) → x + (before.delta + before.epsilon) ≤ due_along (widening before after change) x
    high-old x (old p q) = omega arith
    high-old x (new p q) = omega (arith, good.epsilon, good.delta)

    low-new : change ≤ least → (x : ℕ) → least ≤ due_along (widening before after change) x → DueBy before after change x (due_along (widening before after change) x) → least ≤ x + (after.delta + after.epsilon)
    low-new h x d (old p q) = omega arith
    low-new h x d (new p q) = omega arith

    high-new : change ≤ least → (x : ℕ) → least ≤ due_along (widening before after change) x → DueBy before after change x (due_along (widening before after change) x) → x + (after.delta + after.epsilon) ≤ due_along (widening before after change) x
    high-new h x d (old p q) = omega arith
    high-new h x d (new p q) = omega arith

-- where V lies past a clock, what has its r at most δ + ε before that clock is not due before it: the second half of 13 says something in
-- marked calls only
pub due-unmarked :
    (before after : Setup) (change at reading c : ℕ) → Widens before after → at < change → at ≤ reading + (before.delta + before.epsilon)
    → at ≤ due_along (widening before after change) (reading + c)
due-unmarked before after change at reading c good h late = go (due-by before after change (reading + c))
  where
    go : DueBy before after change (reading + c) (due_along (widening before after change) (reading + c)) → at ≤ due_along (widening before after change) (reading + c)
    go (old p q) = omega arith
    go (new p q) = omega (arith, good.epsilon, good.delta)

-- ---- a schedule moved by k

-- the same schedule, where all clocks are k more
abbrev pub moved_by : ℕ → Schedule → Schedule
moved_by k (steady s) = steady s
moved_by k (widening before after change) = widening before after (change + k)

less-moved : (x y k : ℕ) → ltb (x + k) (y + k) ≡ ltb x y
less-moved x y k =
    elim (lt-or-ge x y) [
      | inl h ↦ lt-ltb (x + k) (y + k) (omega arith) ∙ sym (lt-ltb x y h)
      | inr h ↦ le-ltb (x + k) (y + k) (omega arith) ∙ sym (le-ltb x y h)
    ]

pub limits-moved : (k : ℕ) (g : Schedule) (x : ℕ) → limits_at (moved_by k g) (x + k) ≡ limits_at g x
limits-moved k (steady s) x = refl
limits-moved k (widening before after change) x = rw (less-moved x change k)

old-moved : (before : Setup) (change k x : ℕ) → old_due before (change + k) (x + k) ≡ old_due before change x
unfolding old_due
old-moved before change k x =
    let e : x + k + before.delta + before.epsilon ≡ x + before.delta + before.epsilon + k = omega arith in
    rw (e, less-moved (x + before.delta + before.epsilon) change k)

pub due-moved : (k : ℕ) (g : Schedule) (x : ℕ) → due_along (moved_by k g) (x + k) ≡ due_along g x + k
due-moved k (steady s) x = omega arith
due-moved k (widening before after change) x = go (due-by before after (change + k) (x + k)) (due-by before after change x)
  where
    go :
        DueBy before after (change + k) (x + k) (due_along (widening before after (change + k)) (x + k)) → DueBy before after change x (due_along (widening before after change) x)
        → due_along (widening before after (change + k)) (x + k) ≡ due_along (widening before after change) x + k
    go (old p q) (old p' q') = omega arith
    go (old p q) (new p' q') = omega arith
    go (new p q) (old p' q') = omega arith
    go (new p q) (new p' q') = omega arith

pub compared-moved : (k : ℕ) (g : Schedule) (x : ℕ) → compared_along (moved_by k g) (x + k) ≡ compared_along g x
compared-moved k (steady s) x = refl
compared-moved k (widening before after change) x = rw (old-moved before change k x)

pub half-moved : (k : ℕ) (g : Schedule) → half_of (moved_by k g) ≡ half_of g
half-moved k (steady s) = refl
half-moved k (widening before after change) = refl

pub modulus-moved : (k : ℕ) (g : Schedule) → modulus_of (moved_by k g) ≡ modulus_of g
modulus-moved k (steady s) = refl
modulus-moved k (widening before after change) = refl

pub widest-moved : (k : ℕ) (g : Schedule) → widest_of (moved_by k g) ≡ widest_of g
widest-moved k (steady s) = refl
widest-moved k (widening before after change) = refl

pub good-moved : (k : ℕ) (g : Schedule) → Good g → Good (moved_by k g)
good-moved k (steady s) good = good
good-moved k (widening before after change) good = good

-- one schedule among two kinds of clocks: what is x in the one is y in the other, where x + j and y + k are the same
pub record Aligned (j k : ℕ) (l g : Schedule) : Type 0 where
  pub moved : moved_by j l ≡ moved_by k g

module _ (j k : ℕ) (l g : Schedule) (aligned : Aligned j k l g) where
  pub limits-aligned : (x y : ℕ) → x + j ≡ y + k → limits_at l x ≡ limits_at g y
  limits-aligned x y e =
      sym (limits-moved j l x) ∙ (ap (λ (h : Schedule). limits_at h (x + j)) aligned.moved ∙ (ap (limits_at (moved_by k g)) e ∙ limits-moved k g y))

  pub due-aligned : (x y : ℕ) → x + j ≡ y + k → due_along l x + j ≡ due_along g y + k
  due-aligned x y e =
      sym (due-moved j l x) ∙ (ap (λ (h : Schedule). due_along h (x + j)) aligned.moved ∙ (ap (due_along (moved_by k g)) e ∙ due-moved k g y))

  pub compared-aligned : (x y : ℕ) → x + j ≡ y + k → compared_along l x ≡ compared_along g y
  compared-aligned x y e =
      sym (compared-moved j l x) ∙ (ap (λ (h : Schedule). compared_along h (x + j)) aligned.moved ∙ (ap (compared_along (moved_by k g)) e ∙ compared-moved k g y))

  pub half-aligned : half_of l ≡ half_of g
  half-aligned = sym (half-moved j l) ∙ (ap half_of aligned.moved ∙ half-moved k g)

  pub modulus-aligned : modulus_of l ≡ modulus_of g
  modulus-aligned = sym (modulus-moved j l) ∙ (ap modulus_of aligned.moved ∙ modulus-moved k g)

  pub widest-aligned : widest_of l ≡ widest_of g
  widest-aligned = sym (widest-moved j l) ∙ (ap widest_of aligned.moved ∙ widest-moved k g)

-- ---- the schedule of a call, from true clocks

-- V as a reading near a true clock v
pub record ChangeAt (modulus v change : ℕ) (w : Wider) : Type 0 where
  pub reduced : w.change ≡ change % modulus
  -- "a mark set once the clock is at or past V"; unmarked V is at most B ahead, marked less than B behind
  pub unmarked : is_marked w ≡ false → (v < change) × (change ≤ v + modulus)
  pub marked : is_marked w ≡ true → (change ≤ v) × (v < change + modulus)

ahead-true : (B v change : ℕ) → 0 < B → v < change → change ≤ v + B → change_ahead B (v % B) (change % B) ≡ change - v
unfolding change_ahead ahead
ahead-true B v change pos lo hi =
    elim (lt-or-ge change (v + B)) [
      | inl h ↦
          let e : (change % B + (B - v % B)) % B ≡ change - v = ahead-ge B v change (omega arith) h in
          rw (e, ne_eqb (change - v) 0 (λ q. omega arith))
      | inr h ↦
          let same : change % B ≡ v % B = ap (λ (x : ℕ). x % B) (let q : change ≡ v + B = omega arith in q) ∙ add-mod_right v B in
          let below : v % B < B = mod-lt v pos in
          let whole : v % B + (B - v % B) ≡ B = omega arith in
          let e : (change % B + (B - v % B)) % B ≡ 0 = rw (same, whole) (mod_self B) in
          rw e (omega arith)
    ]

behind-true : (B v change : ℕ) → change ≤ v → v < change + B → change_behind B (v % B) (change % B) ≡ v - change
unfolding change_behind ahead
behind-true B v change lo hi = ahead-ge B change v lo hi

pub change-true : (B v change : ℕ) (w : Wider) → 0 < B → ChangeAt B v change w → change_near B (v % B) w + v ≡ change + B
unfolding change_near
change-true B v change w pos at = go (is_marked w) refl
  where
    go : (b : Bool) → is_marked w ≡ b → cond b (B - change_behind B (v % B) w.change) (B + change_ahead B (v % B) w.change) + v ≡ change + B
    go true e =
        let h = at.marked e in
        rw (at.reduced, behind-true B v change h.0 h.1) (omega (arith, h.0, h.1))
    go false e =
        let h = at.unmarked e in
        rw (at.reduced, ahead-true B v change pos h.0 h.1) (omega (arith, h.0))

-- by the mark alone V lies past v or not: "A tick uses the limits of its own clock", by the mark
pub change-side : (B v : ℕ) (w : Wider) → 0 < B → (is_marked w ≡ false → B < change_near B v w) × (is_marked w ≡ true → change_near B v w ≤ B)
unfolding change_near change_ahead
change-side B v w pos = (λ e. rw e (past (ahead B v w.change)), λ e. rw e (omega arith))
  where
    past : (a : ℕ) → B < B + cond (eqb a 0) B a
    past a =
        elim (eq-or-ne a 0) [
          | inl e ↦ rw (eq-eqb a 0 e) (omega arith)
          | inr e ↦ rw (ne_eqb a 0 e) (omega arith)
        ]

pub side-own : (s : Setup) (w : Wider) (v : ℕ) → 0 < s.modulus → same_pairs s w ≡ false → own_limits (along s w v) ≡ side_of s w
unfolding along
side-own s w v pos differ = rw differ (go (is_marked w) refl)
  where
    go : (b : Bool) → is_marked w ≡ b → cond (ltb s.modulus (change_near s.modulus v w)) s (wider_setup s w) ≡ cond b (wider_setup s w) s
    go true e = rw (le-ltb s.modulus (change_near s.modulus v w) ((change-side s.modulus v w pos).1 e))
    go false e = rw (lt-ltb s.modulus (change_near s.modulus v w) ((change-side s.modulus v w pos).0 e))

-- the schedule of these pairs among true clocks
abbrev pub true_schedule : Setup → Wider → ℕ → Schedule
true_schedule s w change = cond (same_pairs s w) (steady s) (widening s (wider_setup s w) change)

-- a call's schedule, in readings, is that one: v reads B
pub along-true :
    (s : Setup) (w : Wider) (v change : ℕ) → 0 < s.modulus → ChangeAt s.modulus v change w
    → Aligned v s.modulus (along s w (v % s.modulus)) (true_schedule s w change)
unfolding along
along-true s w v change pos at = record { moved = go (same_pairs s w) }
  where
    go :
        (b : Bool) → moved_by v (cond b (steady s) (widening s (wider_setup s w) (change_near s.modulus (v % s.modulus) w)))
        ≡ moved_by s.modulus (cond b (steady s) (widening s (wider_setup s w) change))
    go true = refl
    go false = ap (widening s (wider_setup s w)) (change-true s.modulus v change w pos at)

-- and the schedule of a call k clocks later is that of the call before, with all readings k less
pub along-later :
    (s : Setup) (w w' : Wider) (v k change : ℕ) → 0 < s.modulus → w'.epsilon ≡ w.epsilon → w'.delta ≡ w.delta
    → ChangeAt s.modulus v change w → ChangeAt s.modulus (v + k) change w'
    → Aligned k 0 (along s w' ((v + k) % s.modulus)) (along s w (v % s.modulus))
unfolding along same_pairs
along-later s w w' v k change pos e d at at' =
    record {
      moved =
          (λ j.
          moved_by k
          (cond (eqb (e j) s.epsilon && eqb (d j) s.delta) (steady s)
          (widening s (record { n = s.n; epsilon = e j; delta = d j; modulus = s.modulus }) (change_near s.modulus ((v + k) % s.modulus) w'))))
          ∙ go (eqb w.epsilon s.epsilon && eqb w.delta s.delta);
    }
  where
    near-later : change_near s.modulus ((v + k) % s.modulus) w' + k ≡ change_near s.modulus (v % s.modulus) w + 0
    near-later = omega (arith, change-true s.modulus v change w pos at, change-true s.modulus (v + k) change w' pos at')

    go :
        (b : Bool) → moved_by k (cond b (steady s) (widening s (wider_setup s w) (change_near s.modulus ((v + k) % s.modulus) w')))
        ≡ moved_by 0 (cond b (steady s) (widening s (wider_setup s w) (change_near s.modulus (v % s.modulus) w)))
    go true = refl
    go false = ap (widening s (wider_setup s w)) near-later

-- ---- a reading by the wider limits

-- is the one by the old limits, where that lies far enough
pub near-wider : (epsilon wider B v r : ℕ) → 1 ≤ epsilon → epsilon ≤ wider → 0 < B → wider ≤ near epsilon B v r → near wider B v r ≡ near epsilon B v r
near-wider epsilon wider B v r e more b h =
    elim (lt-or-ge (ahead B v r) epsilon) [
      | inl k ↦ near-ahead wider B v r (omega arith) (omega arith) ∙ sym (near-ahead epsilon B v r e k)
      | inr k ↦
          let old : near epsilon B v r ≡ ahead B v r = near-behind epsilon B v r e b k in
          near-behind wider B v r (omega arith) b (omega arith) ∙ sym old
    ]
