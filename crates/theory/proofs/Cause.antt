-- Why a cause comes first: its counts are dominated, and strictly so at its effect's own clock.
-- Assumes nothing.
use Prim.Native.Nat.{Ordering}
use Prim.Native.Nat.{ℕ, ◌+◌, ◌-◌, ◌≤◌, ◌<◌}
use native.Mathlib.Omega.{arith}
use mathlib.Core.Path.{◌≡◌, sym, ap, ◌∙◌}
use mathlib.Core.Logic.{inl, inr}
use mathlib.Core.List.{List, ◌++◌}
use lib.ListN.{length, get_or}
use Rattle.laws.specs.Lex.{lex_compare}
use borrow.Author.Tests.{lt-ltb, le-ltb}
use Rattle.laws.proofs.Numbers.{lt-or-ge}
use Rattle.laws.proofs.Lists.{get_or-tab}
use Rattle.laws.proofs.Lex.{lex-head-lt, lex-head-eq, lex-append, lex-dominated}
use Rattle.model.specs.Setup.{Setup}
use Rattle.model.specs.Timestamp.{Timestamp, count_at, sum}
use Rattle.model.specs.Frame.{Frame}
use Rattle.model.specs.Order.{counts_down}
use Rattle.model.specs.Schedule.{Schedule, steady, widening, limits_at, old_due, compared_along}
use Rattle.model.specs.Wider.{frame_half, counts_down_by, wider_key}
use Rattle.lemmas.proofs.Bounds.{Sound}
use Rattle.lemmas.proofs.Counts.{count-moved}
use Rattle.lemmas.proofs.Schedules.{Good, limits-widest}
use Rattle.lemmas.proofs.WiderQueue.{length-down-by}

-- entry k of the counts of a key is for the clock k below the sum
counts-down-at :
    (most half R : ℕ) (t : Timestamp) (k : ℕ) → k < most → k ≤ R + t.c → get_or (counts_down_by most half t) k 0 ≡ count_at half R t.kn (R + t.c - k)
unfolding counts_down_by count_at
counts-down-at most half R t k h le =
    get_or-tab most (λ k. count_at half most t.kn (most + t.c - k)) k 0 h
    ∙ count-moved most R t.kn (most + t.c - k + half) (R + t.c - k + half) (omega arith)

-- lists of one length of which the first comes first, whatever follows
-- general
lex-append-lt : (a b c d : List ℕ) → length a ≡ length b → lex_compare a b ≡ Ordering.lt → lex_compare (a ++ c) (b ++ d) ≡ Ordering.lt
lex-append-lt a b c d e h = lex-append a b c d e ∙ rw h

-- by as many counts as lie past the effect's own clock, whatever widths the two have
counts-first :
    (most half half' R R' : ℕ) (t t' : Timestamp) → t'.c < most → R + t.c ≡ R' + t'.c
    → ((x : ℕ) → R' ≤ x → count_at half R t.kn x ≤ count_at half' R' t'.kn x)
    → count_at half R t.kn R' < count_at half' R' t'.kn R'
    → lex_compare (counts_down_by most half t) (counts_down_by most half' t') ≡ Ordering.lt
counts-first most half half' R R' t t' close e le lt =
    let at_own : R' + t'.c - t'.c ≡ R' = omega arith in
    lex-dominated (counts_down_by most half t) (counts_down_by most half' t') t'.c
    (λ i h. rw (counts-down-at most half R t i (omega arith) (omega arith), counts-down-at most half' R' t' i (omega arith) (omega arith), e)
    (le (R' + t'.c - i) (omega arith)))
    (rw (counts-down-at most half R t t'.c close (omega arith), counts-down-at most half' R' t' t'.c close (omega arith), e, at_own) lt)

-- with one width
pub counts-down-first :
    (n epsilon R R' : ℕ) (t t' : Timestamp) → Sound n epsilon t → Sound n epsilon t'
    → R + t.c ≡ R' + t'.c
    → ((x : ℕ) → R' ≤ x → count_at epsilon R t.kn x ≤ count_at epsilon R' t'.kn x)
    → count_at epsilon R t.kn R' < count_at epsilon R' t'.kn R'
    → lex_compare (counts_down epsilon t) (counts_down epsilon t') ≡ Ordering.lt
unfolding counts_down counts_down_by
counts-down-first n epsilon R R' t t' s s' e le lt = counts-first epsilon epsilon epsilon R R' t t' s'.close e le lt

-- a message is compared by as many counts as its own clock has limits for, or more
compared-own : (g : Schedule) → Good g → (R c : ℕ) → c < (limits_at g R).epsilon → c < compared_along g (R + c)
unfolding old_due
compared-own (steady s) good R c h = h
compared-own (widening before after change) good R c h =
    elim (lt-or-ge (R + c + before.delta + before.epsilon) change) [
      | inl k ↦
          let now : limits_at (widening before after change) R ≡ before = rw (lt-ltb R change (omega arith)) in
          rw (lt-ltb (R + c + before.delta + before.epsilon) change k) (omega (arith, h, ap (λ (s : Setup). s.epsilon) now))
      | inr k ↦
          rw (le-ltb (R + c + before.delta + before.epsilon) change k)
          (omega (arith, h, (limits-widest (widening before after change) good R).0))
    ]

-- a cause comes first in the order along the schedule
pub cause-first :
    (g : Schedule) → Good g → (half half' R R' : ℕ) (f f' : Frame) → frame_half g f ≡ half → frame_half g f' ≡ half' → f'.stamp.c < (limits_at g R').epsilon
    → R + f.stamp.c ≤ R' + f'.stamp.c
    → ((x : ℕ) → R' ≤ x → count_at half R f.stamp.kn x ≤ count_at half' R' f'.stamp.kn x)
    → count_at half R f.stamp.kn R' < count_at half' R' f'.stamp.kn R'
    → lex_compare (wider_key g R f) (wider_key g R' f') ≡ Ordering.lt
unfolding wider_key sum
cause-first g good half half' R R' f f' is is' close e le lt =
    elim (lt-or-ge (R + f.stamp.c) (R' + f'.stamp.c)) [
      | inl h ↦ lex-head-lt (R + f.stamp.c) (R' + f'.stamp.c) _ _ h
      | inr h ↦
          let q : R + f.stamp.c ≡ R' + f'.stamp.c = omega arith in
          let most : ℕ = compared_along g (R' + f'.stamp.c) in
          lex-head-eq (R + f.stamp.c) (R' + f'.stamp.c) _ _ q
          ∙ lex-append-lt (counts_down_by (compared_along g (R + f.stamp.c)) (frame_half g f) f.stamp) (counts_down_by most (frame_half g f') f'.stamp) _ _
          (length-down-by (compared_along g (R + f.stamp.c)) (frame_half g f) f.stamp ∙ (ap (compared_along g) q ∙ sym (length-down-by most (frame_half g f') f'.stamp)))
          ((λ i. lex_compare (counts_down_by (compared_along g (q i)) (is i) f.stamp) (counts_down_by most (is' i) f'.stamp))
          ∙ counts-first most half half' R R' f.stamp f'.stamp (compared-own g good R' f'.stamp.c close) q le lt)
    ]
