-- The questions of the poll with both pairs, its answer by the first no, and the front of a sound queue. Assumes nothing.
use Prim.Native.Nat.{ℕ, zero, suc, ◌+◌, ◌-◌, ◌≤◌, ◌<◌}
use native.Mathlib.Omega.{arith}
use mathlib.Core.Path.{◌≡◌, refl, sym, ap, subst, ◌∙◌}
use mathlib.Core.Bool.{Bool, true, false}
use mathlib.Core.Logic.{◌⊎◌, inl, inr}
use mathlib.Core.List.{List, [], ◌∷◌, map}
use mathlib.Core.Option
use mathlib.Core.Option.{Option, none, some}
use lib.Dec.{leb, ltb, eqb}
use lib.ListN.{length}
use lib.Seq.{length-take-le}
use borrow.Author.Tests.{le-leb, lt-leb, lt-ltb, le-ltb, eqb-true}
use Rattle.laws.specs.Lists.{every, chained, leading, select, smallest}
use Rattle.laws.proofs.Numbers.{lt-or-ge, and_left, and_right}
use Rattle.laws.proofs.Lists.{every-mem, every-of-mem, every_map, leading_le, select-ext, smallest-first}
use Rattle.laws.proofs.Sorted.{pairwise-head}
use Rattle.model.specs.Setup.{Setup}
use Rattle.model.specs.Frame.{Frame, two_at}
use Rattle.model.specs.Order.{reading_clock}
use Rattle.model.specs.Holdback.{cut_by}
use Rattle.model.specs.Poll.{poll}
use Rattle.model.specs.Question.{Question, first_no}
use Rattle.model.specs.Schedule.{Schedule, modulus_of, widest_of, Wider, wider_setup, ask_both, ask_wider, same_pairs, along, own_limits}
use Rattle.model.specs.Tick.{holdback_size, holdback_questions}
use Rattle.model.specs.Wider.{wider_decode, wider_end, wider_before, wider_due, wider_held, wider_sound_holdback, wider_opening_queue}
use Rattle.model.specs.WiderCalls.{poll_in_questions, wider_polled_queue, wider_soonest_due, wider_next_due, wider_due_within, wider_number_within, wider_poll_by, poll_in}
use Rattle.model.proofs.EqualCalls.{poll-equal}
use Rattle.lemmas.proofs.Questions.{no-append, yes-append, holdback-passed}
use Rattle.lemmas.proofs.FrameWalk.{bytes_by, next_by, left-more}
use Rattle.lemmas.proofs.Schedules.{Good}
use Rattle.lemmas.proofs.WideFrames.{length-wide-held}
use Rattle.lemmas.proofs.WiderCall.{BothPairs}
use Rattle.lemmas.proofs.WiderQueue.{ordered-along, sound-along}
use Rattle.lemmas.specs.Standing.{left_by}
use Rattle.pairs.proofs.Sides.{both-passed}
use Rattle.holdback.specs.Sound.{Recent}
use Rattle.widerqueue.proofs.Shared.{own-good, own-modulus}
use Rattle.widerqueue.proofs.Forms.{held-left}
use Rattle.widerqueue.proofs.Fronts.{due_under, due-first, under-prefix}

-- ---- 1 and 19, and what comes behind them

module _ (s : Setup) (w : Wider) (own v d : ℕ) (holdback : List ℕ) where
  abbrev front : List Question
  front = ask_both s w own ∷ ask_wider s w ∷ []

  abbrev behind : List Question
  behind = holdback_questions (widest_of (along s w v)) v holdback

  pub in-refused : (k : ℕ) → k ≡ first_no front → (k ≡ 0 → ⊥) → record { number = k; next = none; within = 0 } ≡ poll_in s w own v d holdback
  unfolding poll_in poll_in_questions
  in-refused zero e h = absurd (h refl)
  in-refused (suc k) e h = ap (λ (m : ℕ). wider_poll_by m (along s w v) v d (wider_polled_queue (along s w v) v holdback)) (no-append front behind (suc k) e h)

  pub in-passed : 0 ≡ first_no front → BothPairs s w
  in-passed e = (both-passed s w own [] (sym e)).0

  pub in-behind : 0 ≡ first_no front → wider_poll_by (first_no behind) (along s w v) v d (wider_polled_queue (along s w v) v holdback) ≡ poll_in s w own v d holdback
  unfolding poll_in poll_in_questions ask_both ask_wider every
  in-behind e = ap (λ (m : ℕ). wider_poll_by m (along s w v) v d (wider_polled_queue (along s w v) v holdback)) (sym (yes-append front behind refl (sym e)))

  -- equal pairs are one
  pub in-equal : BothPairs s w → same_pairs s w ≡ true → poll s own v d holdback ≡ poll_in s w own v d holdback
  unfolding same_pairs
  in-equal both same =
      sym
      (poll-equal s w
      (record {
        epsilon = eqb-true w.epsilon s.epsilon (and_left _ _ same);
        delta = eqb-true w.delta s.delta (and_right (eqb w.epsilon s.epsilon) _ same);
        below = both.change-below;
        mark = both.marked-bit;
      }) own v d holdback)

-- where the pairs differ the sizes are the wider pair's
pub along-widest : (s : Setup) (w : Wider) (v : ℕ) → same_pairs s w ≡ false → widest_of (along s w v) ≡ wider_setup s w
unfolding along
along-widest s w v differ = rw differ

-- a refused one answers the number alone
pub behind-refused : (g : Schedule) (v d : ℕ) (queue : List Frame) {n : ℕ} (k : ℕ) → k ≡ n → (k ≡ 0 → ⊥) → record { number = k; next = none; within = 0 } ≡ wider_poll_by n g v d queue
behind-refused g v d queue zero e h = absurd (h refl)
behind-refused g v d queue (suc k) e h = ap (λ (m : ℕ). wider_poll_by m g v d queue) e

-- ---- the shelf

pub next-none : (g : Schedule) (v : ℕ) → wider_next_due g v [] ≡ none
unfolding wider_next_due wider_soonest_due smallest
next-none g v = refl

pub polled-unsound : (g : Schedule) (v d : ℕ) (holdback : List ℕ) → wider_sound_holdback g v (modulus_of g + 1) holdback ≡ false → record { number = 0; next = none; within = 0 } ≡ wider_poll_by 0 g v d (wider_polled_queue g v holdback)
unfolding wider_polled_queue wider_opening_queue wider_number_within select
polled-unsound g v d holdback e = rw (e, next-none g v) refl

pub polled-sound : (g : Schedule) (v : ℕ) (holdback : List ℕ) → wider_sound_holdback g v (modulus_of g + 1) holdback ≡ true → wider_polled_queue g v holdback ≡ wider_held g holdback
unfolding wider_polled_queue wider_opening_queue
polled-sound g v holdback e = rw e refl

module _ (g : Schedule) (good : Good g) (v : ℕ) where
  -- a queue in order: its first frame is due soonest
  next-first : (f : Frame) (queue : List Frame) → chained (wider_before g v) (f ∷ queue) ≡ true → wider_next_due g v (f ∷ queue) ≡ some (reading_clock (own_limits g) v (wider_due g v f))
  unfolding wider_next_due wider_soonest_due wider_before
  next-first f queue ordered =
      ap (Option.map (reading_clock (own_limits g) v))
      (smallest-first (wider_due g v f) (map (wider_due g v) queue)
      (every_map (leb (wider_due g v f)) (wider_due g v) queue
      ∙ every-of-mem (λ h. leb (wider_due g v f) (wider_due g v h)) queue
      (λ h m. le-leb (wider_due g v f) (wider_due g v h) (due-first g good v f h (every-mem (wider_before g v f) (pairwise-head (wider_before g v) f queue (ordered-along g v (f ∷ queue) ordered)) m)))))

  -- what is due at most d ticks after v
  within-under : (d : ℕ) (f : Frame) → due_under g v (modulus_of g + 1 + d) f ≡ wider_due_within g v d f
  unfolding wider_due_within
  within-under d f = go (lt-or-ge (modulus_of g + d) (wider_due g v f))
    where
      go : (modulus_of g + d < wider_due g v f) ⊎ (wider_due g v f ≤ modulus_of g + d) → ltb (wider_due g v f) (modulus_of g + 1 + d) ≡ leb (wider_due g v f) (modulus_of g + d)
      go (inl l) = le-ltb (wider_due g v f) (modulus_of g + 1 + d) (omega arith) ∙ sym (lt-leb (wider_due g v f) (modulus_of g + d) l)
      go (inr l) = lt-ltb (wider_due g v f) (modulus_of g + 1 + d) (omega arith) ∙ sym (le-leb (wider_due g v f) (modulus_of g + d) l)

  module _ (least : ℕ) (b : List ℕ) (sound : wider_sound_holdback g v least b ≡ true) where
    ordered : chained (wider_before g v) (wider_held g b) ≡ true
    ordered = (sound-along g good v least b sound).ordered

    pub within-number : (d : ℕ) {index : ℕ} → index ≡ leading (due_under g v (modulus_of g + 1 + d)) (wider_held g b) → index ≡ wider_number_within g v d (wider_held g b)
    unfolding wider_number_within
    within-number d e =
        let p : Frame → Bool = due_under g v (modulus_of g + 1 + d) in
        e
        ∙ sym (length-take-le (leading p (wider_held g b)) (wider_held g b) (leading_le p (wider_held g b)))
        ∙ ap length (sym (under-prefix g good v (wider_held g b) ordered (modulus_of g + 1 + d)))
        ∙ ap length (select-ext p (wider_due_within g v d) (wider_held g b) (λ f m. within-under d f))

    -- no frames, and the first of some
    pub next-empty : two_at b 0 ≡ 0 → none ≡ wider_next_due g v (wider_held g b)
    unfolding cut_by
    next-empty e =
        sym (ap (wider_next_due g v) (held-left g b ∙ ap (left_by (wider_end g) (wider_decode g) b 2) e) ∙ next-none g v)

    pub next-front : {due : ℕ} → (two_at b 0 ≡ 0 → ⊥) → due ≡ wider_due g v (wider_decode g (bytes_by (wider_end g) b 2)) → some (reading_clock (own_limits g) v due) ≡ wider_next_due g v (wider_held g b)
    next-front {due} more e =
        let k : ℕ = two_at b 0 - 1 in
        let n : two_at b 0 ≡ suc k = omega arith in
        let f : Frame = wider_decode g (bytes_by (wider_end g) b 2) in
        let rest : List Frame = left_by (wider_end g) (wider_decode g) b (next_by (wider_end g) b 2) k in
        let all : wider_held g b ≡ f ∷ rest = held-left g b ∙ ap (left_by (wider_end g) (wider_decode g) b 2) n ∙ left-more (wider_end g) (wider_decode g) b 2 k in
        ap (λ (x : ℕ). some (reading_clock (own_limits g) v x)) e
        ∙ sym (next-first f rest (subst (λ (l : List Frame). chained (wider_before g v) l ≡ true) all ordered))
        ∙ ap (wider_next_due g v) (sym all)

-- ---- as the code goes

-- every due clock past v
pub recent-past : (g : Schedule) → Good g → Recent (own_limits g) (modulus_of g + 1)
recent-past g good =
    record { late = omega (arith, own-modulus g good, (own-good g good).epsilon-pos); close = omega (arith, own-modulus g good) }

pub told : (g : Schedule) (v d : ℕ) (holdback : List ℕ) {next : Option ℕ} {within : ℕ} → wider_sound_holdback g v (modulus_of g + 1) holdback ≡ true
    → next ≡ wider_next_due g v (wider_held g holdback) → within ≡ wider_number_within g v d (wider_held g holdback)
    → record { number = 0; next = next; within = within } ≡ wider_poll_by 0 g v d (wider_polled_queue g v holdback)
told g v d holdback sound n k = rw (n, k, polled-sound g v holdback sound) refl

-- the walk's count, of a sound shelf
pub polled-count : (g : Schedule) (v : ℕ) (holdback : List ℕ) {count : ℕ} → wider_sound_holdback g v (modulus_of g + 1) holdback ≡ true
    → count ≡ length (wider_opening_queue g v (modulus_of g + 1) holdback) → count ≡ two_at holdback 0
unfolding wider_polled_queue
polled-count g v holdback sound e = e ∙ ap length (polled-sound g v holdback sound) ∙ length-wide-held g holdback

-- what has passed 2 and 3 by the wider sizes
pub sizes-passed : (s after : Setup) (w : Wider) (v : ℕ) (holdback : List ℕ) → after ≡ wider_setup s w → first_no (holdback_questions after v holdback) ≡ 0
    → (v < s.modulus) × (length holdback ≡ holdback_size (wider_setup s w))
sizes-passed s after w v holdback e h =
    holdback-passed (wider_setup s w) v holdback (subst (λ (u : Setup). first_no (holdback_questions u v holdback) ≡ 0) e h)
