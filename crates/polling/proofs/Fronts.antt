-- In a sound queue the frame at the front is due soonest, and those due at most d ticks after v are at the front: a walk that stops at the first one
-- past that counts them. Assumes nothing.
use Prim.Native.Nat.{ℕ, zero, suc, ◌<◌}
use native.Mathlib.Omega.{arith}
use mathlib.Core.Path.{◌≡◌, refl, sym, ap, subst, ◌∙◌}
use mathlib.Core.Bool.{true}
use mathlib.Core.List.{List, [], ◌∷◌, map}
use mathlib.Core.Option
use mathlib.Core.Option.{none, some}
use lib.Dec.{leb}
use lib.ListN.{length}
use lib.Seq.{length-take-le}
use borrow.Author.Tests.{le-leb}
use Rattle.laws.specs.Lists.{tab, leading, chained, smallest}
use Rattle.laws.proofs.Lists.{every-mem, every-of-mem, every_map, leading_le, smallest-first}
use Rattle.laws.proofs.Sorted.{pairwise-head}
use Rattle.model.specs.Setup.{Setup}
use Rattle.model.specs.Frame.{Frame, two_at, decode, frame_end}
use Rattle.model.specs.Order.{compare_frames, before, due_near, reading_clock}
use Rattle.model.specs.Holdback.{held, sound_holdback}
use Rattle.model.specs.Poll.{soonest_due, next_due, due_within, number_within}
use Rattle.lemmas.specs.Standing.{left_by}
use Rattle.holdback.specs.Queue.{frame_at}
use Rattle.holdback.proofs.Frames.{held-tab}
use Rattle.holdback.proofs.Judging.{sound-ordered}
use Rattle.holdback.proofs.Searching.{stand-held}
use Rattle.holdback.proofs.Order.{due-first, in_order_lem, within-prefix}

-- a queue in order: its first frame is due soonest
pub next-first : (s : Setup) (v : ℕ) (f : Frame) (queue : List Frame) → chained (before s v) (f ∷ queue) ≡ true → next_due s v (f ∷ queue) ≡ some (reading_clock s v (due_near s v f))
unfolding next_due soonest_due before compare_frames
next-first s v f queue ordered =
    ap (Option.map (reading_clock s v))
    (smallest-first (due_near s v f) (map (due_near s v) queue)
    (every_map (leb (due_near s v f)) (due_near s v) queue
    ∙ every-of-mem (λ g. leb (due_near s v f) (due_near s v g)) queue
    (λ g m. le-leb (due_near s v f) (due_near s v g) (due-first s v f g (every-mem (before s v f) (pairwise-head (before s v) f queue (in_order_lem s v (f ∷ queue) ordered)) m)))))

-- an empty one has none
pub next-none : (s : Setup) (v : ℕ) → next_due s v [] ≡ none
unfolding next_due soonest_due smallest
next-none s v = refl

-- what is due at most d ticks after v is in front: as many as stand before the first that is due later
pub number-leading : (s : Setup) (v d : ℕ) (queue : List Frame) → chained (before s v) queue ≡ true → leading (due_within s v d) queue ≡ number_within s v d queue
unfolding number_within
number-leading s v d queue ordered =
    sym (length-take-le (leading (due_within s v d) queue) queue (leading_le (due_within s v d) queue)) ∙ ap length (sym (within-prefix s v queue ordered d))

-- ---- in a buffer

module _ (s : Setup) (v : ℕ) (b : List ℕ) where
  -- no frames
  pub held_none : two_at b 0 ≡ 0 → held s.epsilon b ≡ []
  unfolding tab
  held_none e = held-tab s.epsilon b ∙ rw e refl

  -- the first of some
  held-some : (k : ℕ) → two_at b 0 ≡ suc k → held s.epsilon b ≡ frame_at s.epsilon b 0 ∷ tab k (λ i. frame_at s.epsilon b (suc i))
  unfolding tab
  held-some k e = held-tab s.epsilon b ∙ rw e refl

  pub next-front : (least : ℕ) {due : ℕ} → sound_holdback s v least b ≡ true → (two_at b 0 ≡ 0 → ⊥) → due ≡ due_near s v (frame_at s.epsilon b 0) → some (reading_clock s v due) ≡ next_due s v (held s.epsilon b)
  next-front least {due} sound more e = go (two_at b 0) refl
    where
      go : (k : ℕ) → two_at b 0 ≡ k → some (reading_clock s v due) ≡ next_due s v (held s.epsilon b)
      go zero q = absurd (more q)
      go (suc k) q =
          let ordered = subst (λ (l : List Frame). chained (before s v) l ≡ true) (held-some k q) (sound-ordered s v least b sound) in
          ap (λ (d : ℕ). some (reading_clock s v d)) e
          ∙ (sym (next-first s v (frame_at s.epsilon b 0) (tab k (λ i. frame_at s.epsilon b (suc i))) ordered) ∙ ap (next_due s v) (sym (held-some k q)))

-- ---- by a walk from the front

-- how many it has passed when it stops, or at the end
pub within-number :
    (s : Setup) (v least d : ℕ) (b : List ℕ) {count number : ℕ} → sound_holdback s v least b ≡ true → count ≡ two_at b 0
    → number ≡ leading (due_within s v d) (left_by (frame_end s.epsilon) (decode s.epsilon) b 2 count) → number ≡ number_within s v d (held s.epsilon b)
within-number s v least d b sound count-is e =
    e ∙ ap (leading (due_within s v d)) (stand-held s.epsilon b count-is) ∙ number-leading s v d (held s.epsilon b) (sound-ordered s v least b sound)

pub some-frame : (count : ℕ) → (count ≡ 0 → ⊥) → 0 < count
some-frame zero h = absurd (h refl)
some-frame (suc k) h = omega arith
