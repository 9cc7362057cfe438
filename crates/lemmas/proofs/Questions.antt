-- What it says that no question gets a no, and the limits of a setup as facts.
-- Assumes nothing.
use Prim.Native.Nat.{ℕ, zero, suc, ◌+◌, ◌*◌, ◌<◌}
use native.Mathlib.Omega.{arith}
use mathlib.Core.Path.{◌≡◌, refl}
use mathlib.Core.Bool.{Bool, true, false, ◌&&◌, cond}
use mathlib.Core.List.{List, [], ◌∷◌, ◌++◌}
use lib.Dec.{leb, ltb, eqb}
use lib.ListN.{length}
use borrow.Author.Tests.{leb-true, ltb-true, eqb-true, le-leb, lt-ltb}
use Rattle.laws.specs.Lists.{within, every}
use Rattle.laws.proofs.Numbers.{and_left, and_right, and_intro, within_low, within-high, within-intro}
use Rattle.model.specs.Setup.{Setup, in_limits, is_member, least_modulus}
use Rattle.model.specs.Frame.{decode}
use Rattle.model.specs.Question.{Question, ask, first_no}
use Rattle.model.specs.Tick.{holdback_size, holdback_questions}
use Rattle.model.specs.Codec.{read_questions, read_by, read}
use Rattle.model.specs.Long.{long_limits}
use Rattle.lemmas.proofs.Bounds.{Limits, LongLimits}

-- a list with no no: the first question gets a yes, and so do the others
pub first-yes : (holds : Bool) (k : ℕ) (qs : List Question) → first_no (ask holds (suc k) ∷ qs) ≡ 0 → holds ≡ true
unfolding first_no
first-yes true k qs h = refl
first-yes false k qs h = absurd (omega arith)

pub other-yes : (holds : Bool) (k : ℕ) (qs : List Question) → first_no (ask holds (suc k) ∷ qs) ≡ 0 → first_no qs ≡ 0
unfolding first_no
other-yes true k qs h = h
other-yes false k qs h = absurd (omega arith)

-- and the other way round
pub yes-cons : (holds : Bool) (k : ℕ) (qs : List Question) → holds ≡ true → first_no (ask holds k ∷ qs) ≡ first_no qs
unfolding first_no
yes-cons holds k qs h = rw h

pub no-cons : (holds : Bool) (k : ℕ) (qs : List Question) → holds ≡ false → first_no (ask holds k ∷ qs) ≡ k
unfolding first_no
no-cons holds k qs h = rw h

-- questions with others behind them: a no of the first ones ends it
pub no-append : (qs rs : List Question) (k : ℕ) → k ≡ first_no qs → (k ≡ 0 → ⊥) → k ≡ first_no (qs ++ rs)
unfolding first_no
no-append [] rs k e h = absurd (h e)
no-append (q ∷ qs) rs k e h = go q.holds (λ f. no-append qs rs k f h) e
  where
    go : (b : Bool) → (k ≡ first_no qs → k ≡ first_no (qs ++ rs)) → k ≡ cond b (first_no qs) q.number → k ≡ cond b (first_no (qs ++ rs)) q.number
    go true rest f = rest f
    go false rest f = f

-- and where none of them gets a no, the others are asked; no question has the number 0
pub yes-append : (qs rs : List Question) → every (λ q. ltb 0 q.number) qs ≡ true → first_no qs ≡ 0 → first_no (qs ++ rs) ≡ first_no rs
unfolding first_no every
yes-append [] rs p e = refl
yes-append (q ∷ qs) rs p e = go q.holds (λ f. yes-append qs rs (and_right (ltb 0 q.number) _ p) f) e
  where
    go : (b : Bool) → (first_no qs ≡ 0 → first_no (qs ++ rs) ≡ first_no rs) → cond b (first_no qs) q.number ≡ 0 → cond b (first_no (qs ++ rs)) q.number ≡ first_no rs
    go true rest f = rest f
    go false rest f = absurd (omega (arith, ltb-true 0 q.number (and_left (ltb 0 q.number) _ p)))

-- nor did those before them get one
pub front-append : (qs rs : List Question) → first_no (qs ++ rs) ≡ 0 → first_no qs ≡ 0
unfolding first_no
front-append [] rs e = refl
front-append (q ∷ qs) rs e = go q.holds (λ f. front-append qs rs f) e
  where
    go : (b : Bool) → (first_no (qs ++ rs) ≡ 0 → first_no qs ≡ 0) → cond b (first_no (qs ++ rs)) q.number ≡ 0 → cond b (first_no qs) q.number ≡ 0
    go true rest f = rest f
    go false rest f = f

-- questions 2 and 3
pub holdback-passed : (s : Setup) (v : ℕ) (holdback : List ℕ) → first_no (holdback_questions s v holdback) ≡ 0 → (v < s.modulus) × (length holdback ≡ holdback_size s)
holdback-passed s v holdback e =
    let e₂ = other-yes (ltb v s.modulus) 1 _ e in (
      ltb-true v s.modulus (first-yes (ltb v s.modulus) 1 _ e),
      eqb-true (length holdback) (holdback_size s) (first-yes (eqb (length holdback) (holdback_size s)) 2 _ e₂),
    )

pub limits-from : (s : Setup) → in_limits s ≡ true → Limits s
unfolding in_limits least_modulus
limits-from s h =
    let h₁ = and_right (within 1 16 s.n) _ h in
    let h₂ = and_right (within 1 16 s.epsilon) _ h₁ in
    let h₃ = and_right (leb s.delta 64) _ h₂ in
    record {
      n_pos = within_low 1 16 s.n (and_left _ _ h);
      n-most = within-high 1 16 s.n (and_left _ _ h);
      epsilon-pos = within_low 1 16 s.epsilon (and_left _ _ h₁);
      epsilon-most = within-high 1 16 s.epsilon (and_left _ _ h₁);
      delta-most = leb-true s.delta 64 (and_left _ _ h₂);
      modulus-least = within_low (6 * s.epsilon + s.delta + 1) 65535 s.modulus h₃;
      modulus-most = within-high (6 * s.epsilon + s.delta + 1) 65535 s.modulus h₃;
    }

-- and back
pub limits-to : (s : Setup) → Limits s → in_limits s ≡ true
unfolding in_limits within least_modulus
limits-to s l =
    and_intro (and_intro (le-leb _ _ l.n_pos) (le-leb _ _ l.n-most))
    (and_intro (and_intro (le-leb _ _ l.epsilon-pos) (le-leb _ _ l.epsilon-most))
    (and_intro (le-leb _ _ l.delta-most)
    (and_intro (le-leb _ _ l.modulus-least) (le-leb _ _ l.modulus-most))))

-- the limits of an engine's setup, both ways
pub long-limits-from : (s : Setup) → long_limits s ≡ true → LongLimits s
unfolding long_limits
long-limits-from s h =
    let h₁ = and_right (within 1 16 s.n) _ h in
    record {
      n_pos = within_low 1 16 s.n (and_left _ _ h);
      n-most = within-high 1 16 s.n (and_left _ _ h);
      epsilon-pos = within_low 1 16 s.epsilon (and_left _ _ h₁);
      epsilon-most = within-high 1 16 s.epsilon (and_left _ _ h₁);
      delta-most = leb-true s.delta 64 (and_right (within 1 16 s.epsilon) _ h₁);
    }

pub long-limits-to : (s : Setup) → LongLimits s → long_limits s ≡ true
unfolding long_limits
long-limits-to s l =
    and_intro (within-intro l.n_pos l.n-most)
    (and_intro (within-intro l.epsilon-pos l.epsilon-most) (le-leb s.delta 64 l.delta-most))

-- question 1: the limits of the group, and the own number
pub setup-from : (s : Setup) (own : ℕ) → (in_limits s && is_member s own) ≡ true → Limits s × (own < s.n)
unfolding is_member
setup-from s own h =
    (limits-from s (and_left (in_limits s) _ h), ltb-true own s.n (and_right (in_limits s) _ h))

pub setup-to : (s : Setup) (own : ℕ) → Limits s → own < s.n → (in_limits s && is_member s own) ≡ true
unfolding is_member
setup-to s own l h = and_intro (limits-to s l) (lt-ltb own s.n h)

-- the reader's number 0 says that no question got a no
pub read_number : (s : Setup) (own : ℕ) (bytes : List ℕ) → (read s own bytes).number ≡ 0 → first_no (read_questions s own bytes) ≡ 0
unfolding read
read_number s own bytes = go (first_no (read_questions s own bytes))
  where
    go : (k : ℕ) → (read_by k (decode s.epsilon bytes)).number ≡ 0 → k ≡ 0
    go zero e = refl
    go (suc k) e = e
