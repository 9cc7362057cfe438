-- What hearing does to a stamp, seen from all nodes: knowledge grows, and right counts stay right. The counts are those for clocks.
-- Assumes nothing.
use Prim.Native.Nat.{ℕ, suc, ◌+◌, ◌-◌, ◌≤◌, ◌<◌}
use native.Mathlib.Omega.{arith}
use mathlib.Core.Path.{◌≡◌, refl, sym, subst, ◌∙◌}
use mathlib.Core.Logic.{inl, inr}
use mathlib.Core.List.{List}
use lib.ListN.{length}
use Rattle.laws.proofs.Numbers.{lt-or-ge, eq-or-ne}
use Rattle.model.specs.Setup.{width}
use Rattle.model.specs.Timestamp.{Timestamp, count_at, step, count_own}
use Rattle.model.specs.Schedule.{Schedule, steady, widening, modulus_of, own_limits, tables_half}
use Rattle.model.specs.Wider.{absorb_wide, step_into, wider_step}
use Rattle.model.specs.Run.{Node}
use Rattle.lemmas.proofs.Bounds.{Sound}
use Rattle.lemmas.proofs.Counts.{count-below, count_past, count_index, count-moved, sound-past, absorbed-count, absorbed-sum, absorbed-wide, own-count, own-count-here, step_count, into-at}
use Rattle.lemmas.proofs.Schedules.{Good, limits-grow}
use Rattle.theory.proofs.World.{reached, Bounded, Under}

-- nothing is counted for clocks before the window and past it
before-window : (epsilon v : ℕ) (kn : List ℕ) (x : ℕ) → x + epsilon < v → count_at epsilon v kn x ≡ 0
unfolding count_at
before-window epsilon v kn x h = count-below v kn (x + epsilon) h

past-window : (epsilon v : ℕ) (kn : List ℕ) → length kn ≡ width epsilon → (x : ℕ) → v + epsilon ≤ x → count_at epsilon v kn x ≡ 0
unfolding count_at width
past-window epsilon v kn wide x h = count_past v kn (x + epsilon) (omega arith)

-- no count falls, whatever is heard
absorb-grows :
    (epsilon half B v reading : ℕ) (t f : Timestamp) (x : ℕ) → v ≤ x + epsilon → x < v + epsilon
    → count_at epsilon v t.kn x ≤ count_at epsilon v (absorb_wide epsilon half B t reading f).kn x
unfolding count_at
absorb-grows epsilon half B v reading t f x lo hi =
    omega (
      arith,
      absorbed-count epsilon half B reading t f (v + B) (reading + v) (omega arith) (x + B) (omega arith) (omega arith),
      count-moved (v + B) v (absorb_wide epsilon half B t reading f).kn (x + B + epsilon) (x + epsilon) (omega arith),
      count-moved (v + B) v t.kn (x + B + epsilon) (x + epsilon) (omega arith),
    )

pub under-absorb :
    (epsilon half B v reading known R : ℕ) (g t f : Timestamp) → length t.kn ≡ width epsilon → Under known R g epsilon v t
    → Under known R g epsilon v (absorb_wide epsilon half B t reading f)
unfolding absorb_wide
under-absorb epsilon half B v reading known R g t f wide u =
    record { sums = omega (arith, u.sums); counts = more }
  where
    more : (x : ℕ) → v ≤ x → count_at known R g.kn x ≤ count_at epsilon v (absorb_wide epsilon half B t reading f).kn x
    more x h =
        elim (lt-or-ge x (v + epsilon)) [
          | inl k ↦ omega (arith, u.counts x h, absorb-grows epsilon half B v reading t f x (omega arith) k)
          | inr k ↦ omega (arith, u.counts x h, past-window epsilon v t.kn wide x k)
        ]

-- in the window, after a frame at R is heard, a count is the larger of both
pub absorb-under :
    (n epsilon half B v reading R : ℕ) (t f : Timestamp) → Sound n half f → reading + v ≡ B + R
    → R + f.c < v + epsilon → Under half R f epsilon v (absorb_wide epsilon half B t reading f)
unfolding count_at
absorb-under n epsilon half B v reading R t f sound e close =
    record { sums = omega (arith, absorbed-sum epsilon half B reading t f v R e); counts = more }
  where
    more : (x : ℕ) → v ≤ x → count_at half R f.kn x ≤ count_at epsilon v (absorb_wide epsilon half B t reading f).kn x
    more x h =
        elim (lt-or-ge x (v + epsilon)) [
          | inl k ↦ omega (arith, absorbed-count epsilon half B reading t f v R e x (omega arith) k)
          | inr k ↦ omega (arith, sound-past n half R f sound (x + half) (omega arith))
        ]

-- right counts
pub early-bounded :
    (epsilon floor : ℕ) (nodes : List Node) (v : ℕ) (kn : List ℕ) → length kn ≡ width epsilon → v + epsilon ≤ floor
    → Bounded epsilon floor nodes v kn
early-bounded epsilon floor nodes v kn wide h x k = omega (arith, past-window epsilon v kn wide x (omega arith))

pub absorb-bounded :
    (epsilon half B floor : ℕ) (nodes : List Node) (v reading R : ℕ) (t f : Timestamp) → reading + v ≡ B + R
    → Bounded epsilon floor nodes v t.kn → Bounded half floor nodes R f.kn
    → Bounded epsilon floor nodes v (absorb_wide epsilon half B t reading f).kn
absorb-bounded epsilon half B floor nodes v reading R t f e a b x h =
    elim (lt-or-ge (x + epsilon) v) [
      | inl k ↦ omega (arith, before-window epsilon v (absorb_wide epsilon half B t reading f).kn x k)
      | inr k ↦ elim (lt-or-ge x (v + epsilon)) [
        | inl l ↦ omega (arith, absorbed-count epsilon half B reading t f v R e x k l, a x h, b x h)
        | inr l ↦ omega (arith, past-window epsilon v (absorb_wide epsilon half B t reading f).kn (absorbed-wide epsilon half B reading t f) x l)
      ]
    ]

pub bounded-grows :
    (epsilon floor : ℕ) (nodes nodes' : List Node) (R : ℕ) (kn : List ℕ) → ((x : ℕ) → reached nodes x ≤ reached nodes' x)
    → Bounded epsilon floor nodes R kn → Bounded epsilon floor nodes' R kn
bounded-grows epsilon floor nodes nodes' R kn g b x h = omega (arith, g x, b x h)

-- the own event is counted at v alone
pub own-elsewhere :
    (epsilon v u : ℕ) (t : Timestamp) → length t.kn ≡ width epsilon → 1 ≤ epsilon → (x : ℕ) → (x ≡ v → ⊥)
    → count_at epsilon v (count_own epsilon u t).kn x ≡ count_at epsilon v t.kn x
unfolding count_at
own-elsewhere epsilon v u t wide pos x ne = own-count epsilon v u t wide pos (x + epsilon) (λ e. ne (omega arith))

pub own-there :
    (epsilon v u : ℕ) (t : Timestamp) → length t.kn ≡ width epsilon → 1 ≤ epsilon
    → count_at epsilon v (count_own epsilon u t).kn v ≡ count_at epsilon v t.kn v + 1
unfolding count_at
own-there epsilon v u t wide pos = own-count-here epsilon v u t wide pos

-- once one station more has reached it
pub own-bounded :
    (epsilon floor : ℕ) (nodes nodes' : List Node) (v u : ℕ) (t : Timestamp) → length t.kn ≡ width epsilon → 1 ≤ epsilon
    → ((x : ℕ) → reached nodes x ≤ reached nodes' x) → reached nodes' v ≡ suc (reached nodes v)
    → Bounded epsilon floor nodes v t.kn → Bounded epsilon floor nodes' v (count_own epsilon u t).kn
own-bounded epsilon floor nodes nodes' v u t wide pos g gain b x h =
    elim (eq-or-ne x v) [
      | inl e ↦
          subst (λ (y : ℕ). count_at epsilon v (count_own epsilon u t).kn y ≤ reached nodes' y) (sym e)
          (omega (arith, own-there epsilon v u t wide pos, gain, b v (omega arith)))
      | inr e ↦ omega (arith, own-elsewhere epsilon v u t wide pos x e, g x, b x h)
    ]

-- a step of k moves no count to another clock, also from fewer counts into more (02, 2.10)
step-here :
    (l : Schedule) → Good l → (k last v : ℕ) (t : Timestamp) → length t.kn ≡ width (tables_half l k) → (x : ℕ) → last + k ≤ x + (own_limits l).epsilon
    → count_at (own_limits l).epsilon (last + k) (wider_step l k v t).kn x ≡ count_at (tables_half l k) last t.kn x
unfolding count_at
step-here (steady s) good k last v t wide x h = step_count k last v t (x + s.epsilon) h
step-here (widening before after change) good k last v t wide x h =
    let l : Schedule = widening before after change in
    let epsilon : ℕ = (own_limits l).epsilon in
    let half : ℕ = tables_half l k in
    let i : ℕ = x + epsilon - (last + k) in
    count_index (last + k) (step_into epsilon half k v t).kn (x + epsilon) i (omega arith)
    ∙ (into-at epsilon half k v t i wide (limits-grow l good (modulus_of l - k) (modulus_of l) (omega arith)).0
    ∙ count-moved epsilon last t.kn (k + i + half) (x + half) (omega arith))

pub step-bounded :
    (l : Schedule) → Good l → (floor : ℕ) (nodes : List Node) (k last v : ℕ) (t : Timestamp) → length t.kn ≡ width (tables_half l k)
    → Bounded (tables_half l k) floor nodes last t.kn → Bounded (own_limits l).epsilon floor nodes (last + k) (wider_step l k v t).kn
step-bounded l good floor nodes k last v t wide b x h =
    elim (lt-or-ge (x + (own_limits l).epsilon) (last + k)) [
      | inl m ↦ omega (arith, before-window (own_limits l).epsilon (last + k) (wider_step l k v t).kn x m)
      | inr m ↦ omega (arith, step-here l good k last v t wide x m, b x h)
    ]

step-c : (l : Schedule) (k v : ℕ) (t : Timestamp) → (wider_step l k v t).c ≡ t.c - k
unfolding step step_into
step-c (steady s) k v t = refl
step-c (widening before after change) k v t = refl

-- after a step of k the stamp knows what it knew
pub under-step :
    (l : Schedule) → Good l → (k last v known R : ℕ) (f t : Timestamp) → length t.kn ≡ width (tables_half l k) → Under known R f (tables_half l k) last t
    → Under known R f (own_limits l).epsilon (last + k) (wider_step l k v t)
under-step l good k last v known R f t wide u =
    record {
      sums = omega (arith, u.sums, step-c l k v t);
      counts = λ x h. omega (arith, u.counts x (omega arith), step-here l good k last v t wide x (omega arith));
    }

-- and the own event keeps it, with its own clock counted once more
pub own-under :
    (epsilon v u known R : ℕ) (f t : Timestamp) → length t.kn ≡ width epsilon → 1 ≤ epsilon → Under known R f epsilon v t
    → Under known R f epsilon v (count_own epsilon u t)
unfolding count_own
own-under epsilon v u known R f t wide pos under = record { sums = under.sums; counts = more }
  where
    more : (x : ℕ) → v ≤ x → count_at known R f.kn x ≤ count_at epsilon v (count_own epsilon u t).kn x
    more x h =
        elim (eq-or-ne x v) [
          | inl e ↦
              subst (λ (y : ℕ). count_at known R f.kn y ≤ count_at epsilon v (count_own epsilon u t).kn y) (sym e)
              (omega (arith, own-there epsilon v u t wide pos, under.counts v (omega arith)))
          | inr e ↦ omega (arith, own-elsewhere epsilon v u t wide pos x e, under.counts x h)
        ]

pub own-strict :
    (epsilon v u known R : ℕ) (f t : Timestamp) → length t.kn ≡ width epsilon → 1 ≤ epsilon → Under known R f epsilon v t
    → count_at known R f.kn v < count_at epsilon v (count_own epsilon u t).kn v
own-strict epsilon v u known R f t wide pos under = omega (arith, own-there epsilon v u t wide pos, under.counts v (omega arith))
