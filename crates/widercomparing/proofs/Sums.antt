-- Two frames of either width by their ranks and counts, and how far back the counts lie that they compare. Assumes nothing.
use Prim.Native.Nat.{ℕ, ◌+◌, ◌-◌, ◌≤◌, ◌<◌, ◌^◌}
use native.Mathlib.Omega.{arith}
use mathlib.Core.Path.{◌≡◌, refl, sym, ap, ap₂, ◌∙◌}
use mathlib.Core.Bool.{true}
use mathlib.Core.Logic.{inl, inr}
use mathlib.Core.List.{List, [], ◌∷◌}
use lib.ListN.{get_or}
use borrow.Author.Tests.{lt-ltb, le-ltb, eqb-true}
use Rattle.laws.proofs.Numbers.{lt-or-ge}
use Rattle.model.specs.Setup.{Setup, in_limits}
use Rattle.model.specs.Timestamp.{sum}
use Rattle.model.specs.Frame.{Frame, well_formed, decode, counts_of}
use Rattle.model.specs.Order.{reading_of}
use Rattle.model.specs.Question.{ask, first_no, ask_range}
use Rattle.model.specs.Comparison.{Comparison, compare_keys, count_clock, at_clocks}
use Rattle.model.specs.Schedule.{Schedule, widening, modulus_of, own_limits, old_due, compared_along}
use Rattle.model.specs.Wider.{half_in, wider_formed, wider_decode, frame_half, sound_within, wider_reading, counts_down_by, wider_key_near, wider_frame_questions, wider_passes}
use Rattle.model.specs.WiderCalls.{wider_compared}
use Rattle.lemmas.proofs.Bounds.{Limits}
use Rattle.lemmas.proofs.Questions.{first-yes, limits-to}
use Rattle.lemmas.proofs.Queue.{reading-high}
use Rattle.lemmas.proofs.Comparing.{reading-low}
use Rattle.lemmas.proofs.Schedules.{Widens, LimitsBy, narrow, wide, limits-by, limits-good, limits-modulus}
use Rattle.lemmas.proofs.WideFrames.{FrameWithin, half-one, half-some, passes-wide}
use Rattle.timestamp.specs.declared.ordering.Rank.{Rank}
use Rattle.timestamp.specs.Ranks.{ranked_frame}
use Rattle.holdback.specs.Queue.{rank_of}
use Rattle.widerstamp.specs.Keys.{key_with, Small}
use Rattle.widerstamp.proofs.Orders.{compare-wider}
use Rattle.widerframe.proofs.Widths.{frame-half}

-- ---- one frame that passes 10 to 12

pub record Ready (g : Schedule) (bytes : List ℕ) : Type 0 where
  pub formed : well_formed (half_in g bytes) bytes ≡ true
  pub half : frame_half g (wider_decode g bytes) ≡ half_in g bytes
  pub within : FrameWithin g (own_limits g) (wider_decode g bytes)
  pub narrow : half_in g bytes ≤ 16

well-formed : (g : Schedule) (bytes : List ℕ) → wider_formed g bytes ≡ true → well_formed (half_in g bytes) bytes ≡ true
unfolding wider_formed
well-formed g bytes e = e

pub ready : (before after : Setup) (change : ℕ) → Widens before after → (bytes : List ℕ) → wider_passes (widening before after change) bytes ≡ true → Ready (widening before after change) bytes
unfolding wider_passes wider_frame_questions
ready before after change good bytes ok =
    let g = widening before after change in
    let f = wider_decode g bytes in
    let own = own_limits g in
    let formed : wider_formed g bytes ≡ true =
    first-yes (wider_formed g bytes) 9 (ask_range own f ∷ ask (sound_within own.n own.epsilon (frame_half g f) f.stamp) 12 ∷ []) (eqb-true (first_no (wider_frame_questions g bytes)) 0 ok) in
    record {
      formed = well-formed g bytes formed;
      half = (frame-half g bytes formed).0;
      within = passes-wide g bytes good (limits-good g good (modulus_of g)).epsilon-pos ok;
      narrow = omega (arith, (half-some g good (half_in g bytes) (half-one g (get_or bytes 4 0 - 1))).1, good.new.epsilon-most);
    }

-- its counts, where they are read by their half width
pub counts-read : (g : Schedule) (bytes : List ℕ) (half : ℕ) (kn : List ℕ) → half ≡ half_in g bytes → kn ≡ counts_of half bytes → kn ≡ (wider_decode g bytes).stamp.kn
unfolding wider_decode decode
counts-read g bytes half kn eh e = e ∙ ap (λ (h : ℕ). counts_of h bytes) eh

-- the rank looks at no count
pub rank-any : (s : Setup) (v epsilon epsilon' : ℕ) (bytes : List ℕ) → rank_of s v (decode epsilon bytes) ≡ rank_of s v (decode epsilon' bytes)
unfolding decode reading_of
rank-any s v epsilon epsilon' bytes = refl

-- and its numbers are small
pub rank-small : (s : Setup) (v half : ℕ) (f : Frame) (rank : Rank) → Limits s → f.stamp.c < s.epsilon → half ≤ 16 → rank ≡ rank_of s v f → Small half rank
rank-small s v half f rank limits close small e =
    let ec : rank.c ≡ f.stamp.c = ap (λ (q : Rank). q.c) e in
    let er : rank.reading ≡ reading_of s v f = ap (λ (q : Rank). q.reading) e in
    record {
      narrow = small;
      reading = omega (arith, er, reading-high s v f limits, limits.modulus-most, limits.epsilon-most);
      lead = omega (arith, ec, limits.epsilon-most);
    }

-- ---- two frames

key-read : (most half v : ℕ) (s : Setup) (f : Frame) (rank : Rank) (kn : List ℕ) → rank ≡ rank_of s v f → kn ≡ f.stamp.kn
    → key_with most half rank.reading (ranked_frame rank kn) ≡ key_with most half (reading_of s v f) f
unfolding counts_down_by
key-read most half v s f rank kn er ek = ap₂ (λ (q : Rank) (l : List ℕ). key_with most half q.reading (ranked_frame q l)) er ek

-- by ranks and counts as by the frames themselves
pub by-ranks :
    (g : Schedule) (v : ℕ) (a b : Frame) (ra rb : Rank) (ha hb : ℕ) (ka kb : List ℕ) (most total : ℕ) → ra ≡ rank_of (own_limits g) v a → ka ≡ a.stamp.kn → ha ≡ frame_half g a
    → rb ≡ rank_of (own_limits g) v b → kb ≡ b.stamp.kn → hb ≡ frame_half g b → total ≡ ra.reading + ra.c → most ≡ compared_along g total → (c : Comparison)
    → c ≡ compare_keys most (key_with most ha ra.reading (ranked_frame ra ka)) (key_with most hb rb.reading (ranked_frame rb kb))
    → at_clocks (count_clock (own_limits g) v total) c ≡ wider_compared g v a b
unfolding wider_compared sum wider_key_near
by-ranks g v a b ra rb ha hb ka kb most total era eka eha erb ekb ehb et em c e =
    let own = own_limits g in
    let x = wider_reading g v a in
    let y = wider_reading g v b in
    let sums : total ≡ x + a.stamp.c = et ∙ ap (λ (q : Rank). q.reading + q.c) era in
    ap₂ (λ (t : ℕ) (d : Comparison). at_clocks (count_clock own v t) d) sums
    (e
    ∙ (ap₂ (λ (k l : List ℕ). compare_keys most k l) (key-read most ha v own a ra ka era eka) (key-read most hb v own b rb kb erb ekb)
    ∙ (ap₂ (λ (h h' : ℕ). compare_keys most (key_with most h x a) (key_with most h' y b)) eha ehb
    ∙ (ap (λ (m : ℕ). compare_keys m (key_with m (frame_half g a) x a) (key_with m (frame_half g b) y b)) (em ∙ ap (compared_along g) sums)
    ∙ sym (compare-wider g x y a b)))))

-- ---- how many counts are compared

module _ (before after : Setup) (change : ℕ) (good : Widens before after) where
  abbrev g : Schedule
  g = widening before after change

  by-due : (total : ℕ) (out : ℕ → Type 0) → out before.epsilon → (change ≤ total + before.delta + before.epsilon → out after.epsilon) → out (compared_along g total)
  unfolding old_due
  by-due total out old new =
      elim (lt-or-ge (total + before.delta + before.epsilon) change) [
        | inl h ↦ rw (lt-ltb (total + before.delta + before.epsilon) change h) old
        | inr h ↦ rw (le-ltb (total + before.delta + before.epsilon) change h) (new h)
      ]

  pub compared-most : (total : ℕ) → compared_along g total ≤ 16
  compared-most total = by-due total (λ m. m ≤ 16) good.old.epsilon-most (λ h. good.new.epsilon-most)

  -- none is further back than clock 0
  pub compared-among : (total : ℕ) → (own_limits g).epsilon ≤ total → compared_along g total ≤ total
  compared-among total low = go (own_limits g) refl (limits-by before after change before.modulus)
    where
      go : (s : Setup) → own_limits g ≡ s → LimitsBy before after change before.modulus s → compared_along g total ≤ total
      go s e (narrow p q) =
          let own : before.epsilon ≤ total = omega (arith, low, ap (λ (u : Setup). u.epsilon) (e ∙ q)) in
          by-due total (λ m. m ≤ total) own (λ h. omega (arith, h, p, good.new.modulus-least, good.modulus, good.delta, good.epsilon))
      go s e (wide p q) =
          let own : after.epsilon ≤ total = omega (arith, low, ap (λ (u : Setup). u.epsilon) (e ∙ q)) in
          by-due total (λ m. m ≤ total) (omega (arith, own, good.epsilon)) (λ h. own)

-- ---- a frame's rank by the limits of v

module _ (before after : Setup) (change : ℕ) (good : Widens before after) (own : Setup) (v : ℕ) (eo : own ≡ own_limits (widening before after change))
    (bytes : List ℕ) (ok : wider_passes (widening before after change) bytes ≡ true) where
  abbrev all : Schedule
  all = widening before after change

  limits : Limits (own_limits all)
  limits = limits-good all good before.modulus

  modulus : own.modulus ≡ before.modulus
  modulus = ap (λ (u : Setup). u.modulus) eo ∙ limits-modulus all good before.modulus

  pub rank-asked : v < before.modulus → ((in_limits own ≡ true) × (v < own.modulus)) × ((decode own.epsilon bytes).stamp.r < own.modulus)
  unfolding decode wider_decode
  rank-asked below = (
    (ap in_limits eo ∙ limits-to (own_limits all) limits, omega (arith, modulus)),
    omega (arith, (ready before after change good bytes ok).within.r-below, ap (λ (u : Setup). u.modulus) eo),
  )

  module _ (rank : Rank) (e : rank ≡ rank_of own v (decode own.epsilon bytes)) where
    pub rank-read : rank ≡ rank_of (own_limits all) v (wider_decode all bytes)
    unfolding wider_decode
    rank-read = e ∙ (rank-any own v own.epsilon (half_in all bytes) bytes ∙ ap (λ (u : Setup). rank_of u v (decode (half_in all bytes) bytes)) eo)

    pub rank-fits : (half : ℕ) → half ≡ half_in all bytes → Small half rank
    rank-fits half eh =
        let r = ready before after change good bytes ok in
        rank-small (own_limits all) v half (wider_decode all bytes) rank limits r.within.close (omega (arith, r.narrow)) rank-read

    -- its sum
    pub sum_low : (own_limits all).epsilon ≤ rank.reading + rank.c
    sum_low = omega (arith, reading-low (own_limits all) v (wider_decode all bytes) limits, ap (λ (q : Rank). q.reading) rank-read)

    pub sum-high : rank.reading + rank.c ≤ 2 ^ 18
    sum-high =
        omega (
          arith,
          reading-high (own_limits all) v (wider_decode all bytes) limits,
          ap (λ (q : Rank). q.reading) rank-read,
          ap (λ (q : Rank). q.c) rank-read,
          (ready before after change good bytes ok).within.close,
          limits.modulus-most,
          limits.epsilon-most,
        )
