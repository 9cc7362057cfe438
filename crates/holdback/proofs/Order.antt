-- The order of frames: what is due is a prefix of a sound queue.
-- Assumes nothing.
use Rattle.std.proofs.Common.{◌≡◌, ℕ, ◌+◌, ◌<◌, ◌≤◌, true, not, eqb, leb, ◌⊎◌, List, [], ◌∷◌, ◌++◌, take, drop, sym, ap, ◌∙◌, inl, inr, arith, ltb-true, lt-ltb, eq-eqb, ne_eqb, le-leb, leb-true}
use mathlib.Core.List.{Memᴰ}
use borrow.Author.Tests.{lt-leb}
use Rattle.laws.specs.Lists.{every, select, leading, chained}
use Rattle.laws.proofs.Numbers.{lt-or-ge}
use Rattle.laws.proofs.Lists.{every-mem, select-ext}
use Rattle.laws.proofs.Lex.{is_less-lt, lt-is_less, lex-head-lt, lex-lt-cases}
use Rattle.laws.proofs.Sorted.{Sorted, sorted-of-chained, select-prefix, select-suffix}
use Rattle.model.specs.Setup.{Setup}
use Rattle.model.specs.Timestamp.{sum}
use Rattle.model.specs.Frame.{Frame}
use Rattle.model.specs.Order.{reading_of, counts_down, key_by, key, key_near, compare_frames, before, due, due_near}
use Rattle.model.specs.Holdback.{not_expired}
use Rattle.model.specs.Tick.{due_before, due_now}
use Rattle.model.specs.Poll.{due_within}

-- what the order looks at behind the sum
abbrev tail : Setup → ℕ → Frame → List ℕ
tail s v f = counts_down s.epsilon f.stamp ++ (f.station ∷ reading_of s v f ∷ [])

-- a frame that comes before another is due no later
pub due-first : (s : Setup) (v : ℕ) (f g : Frame) → before s v f g ≡ true → due_near s v f ≤ due_near s v g
unfolding before compare_frames key_near key key_by due_near due
due-first s v f g h =
    let a : ℕ = sum (reading_of s v f) f.stamp.c in
    let b : ℕ = sum (reading_of s v g) g.stamp.c in
    elim (lex-lt-cases a b (tail s v f) (tail s v g) (is_less-lt _ h)) [
      | inl l ↦ omega arith
      | inr e ↦ omega (arith, e.0)
    ]

-- and one that is due sooner comes before
pub due-before : (s : Setup) (v : ℕ) (f g : Frame) → due_near s v f < due_near s v g → before s v f g ≡ true
unfolding before compare_frames key_near key key_by due_near due
due-before s v f g h =
    let a : ℕ = sum (reading_of s v f) f.stamp.c in
    let b : ℕ = sum (reading_of s v g) g.stamp.c in
    let l : a < b = omega arith in
    lt-is_less (lex-head-lt a b (tail s v f) (tail s v g) l)

-- in a queue in order, what is due up to some clock is a prefix
module _ (s : Setup) (v : ℕ) (queue : List Frame) (ordered : chained (before s v) queue ≡ true) where
  pub in_order_lem : Sorted (key_near s v) queue
  unfolding before compare_frames
  in_order_lem = sorted-of-chained (key_near s v) queue ordered

  -- 02, 2.2: before v
  overdue-down : (y z : Frame) → Memᴰ y queue → Memᴰ z queue → due_before s v y ≡ true → before s v z y ≡ true → due_before s v z ≡ true
  unfolding due_before
  overdue-down y z m n d l =
      lt-ltb (due_near s v z) s.modulus (omega (arith, ltb-true (due_near s v y) s.modulus d, due-first s v z y l))

  pub overdue-prefix : select (due_before s v) queue ≡ take (leading (due_before s v) queue) queue
  unfolding before compare_frames
  overdue-prefix = select-prefix (key_near s v) (due_before s v) queue in_order_lem overdue-down

  pub overdue-rest : select (λ f. not (due_before s v f)) queue ≡ drop (leading (due_before s v) queue) queue
  unfolding before compare_frames
  overdue-rest = select-suffix (key_near s v) (due_before s v) queue in_order_lem overdue-down

  -- 02, 2.5: at most d ticks after v
  within-down : (d : ℕ) (y z : Frame) → Memᴰ y queue → Memᴰ z queue → due_within s v d y ≡ true → before s v z y ≡ true → due_within s v d z ≡ true
  unfolding due_within
  within-down d y z m n t l =
      le-leb (due_near s v z) (s.modulus + d) (omega (arith, leb-true (due_near s v y) (s.modulus + d) t, due-first s v z y l))

  pub within-prefix : (d : ℕ) → select (due_within s v d) queue ≡ take (leading (due_within s v d) queue) queue
  unfolding before compare_frames
  within-prefix d = select-prefix (key_near s v) (due_within s v d) queue in_order_lem (within-down d)

  pub within-rest : (d : ℕ) → select (λ f. not (due_within s v d f)) queue ≡ drop (leading (due_within s v d) queue) queue
  unfolding before compare_frames
  within-rest d = select-suffix (key_near s v) (due_within s v d) queue in_order_lem (within-down d)

-- where none is expired, what is due at most 0 ticks after v is due at v
pub now-within : (s : Setup) (v : ℕ) (f : Frame) → not_expired s v s.modulus f ≡ true → due_now s v f ≡ due_within s v 0 f
unfolding due_now due_within not_expired
now-within s v f h = go (lt-or-ge s.modulus (due_near s v f))
  where
    late : s.modulus ≤ due_near s v f
    late = leb-true s.modulus (due_near s v f) h

    go : (s.modulus < due_near s v f) ⊎ (due_near s v f ≤ s.modulus) → eqb (due_near s v f) s.modulus ≡ leb (due_near s v f) (s.modulus + 0)
    go (inl l) = ne_eqb (due_near s v f) s.modulus (λ e. omega arith) ∙ sym (lt-leb (due_near s v f) (s.modulus + 0) (omega arith))
    go (inr l) = eq-eqb (due_near s v f) s.modulus (omega (arith, late)) ∙ sym (le-leb (due_near s v f) (s.modulus + 0) (omega arith))

-- so of a queue in order of which none is expired, that is a prefix
module _ (s : Setup) (v : ℕ) (queue : List Frame) (ordered : chained (before s v) queue ≡ true) (kept : every (not_expired s v s.modulus) queue ≡ true) where
  same : (f : Frame) → Memᴰ f queue → due_now s v f ≡ due_within s v 0 f
  same f m = now-within s v f (every-mem (not_expired s v s.modulus) kept m)

  pub due-prefix : select (due_now s v) queue ≡ take (leading (due_within s v 0) queue) queue
  due-prefix = select-ext (due_now s v) (due_within s v 0) queue same ∙ within-prefix s v queue ordered 0

  pub due-rest : select (λ f. not (due_now s v f)) queue ≡ drop (leading (due_within s v 0) queue) queue
  due-rest =
      select-ext (λ f. not (due_now s v f)) (λ f. not (due_within s v 0 f)) queue (λ f m. ap not (same f m)) ∙ within-rest s v queue ordered 0
