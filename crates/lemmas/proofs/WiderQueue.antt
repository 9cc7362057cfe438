-- 02, 2.10: the hold-back queue by a schedule: opening it, taking a frame, letting the due ones go; it is never full, and the hand-out has room.
-- Readings are by the limits of the call's own clock; due clocks and the order by the schedule. Assumes nothing.
use Prim.Native.Nat.{ℕ, suc, ◌+◌, ◌-◌, ◌*◌, ◌≤◌, ◌<◌}
use native.Mathlib.Omega.{arith}
use native.Mathlib.Nat.{mul-suc, mul-le-mul_left}
use mathlib.Core.Path.{◌≡◌, refl, sym, ap, subst, ◌∙◌}
use mathlib.Core.Logic.{◌⊎◌, inl, inr}
use mathlib.Core.Bool.{Bool, true, false, not, cond}
use mathlib.Core.List.Memᴰ
use mathlib.Core.List.{List, [], ◌∷◌, ◌++◌, Memᴰ}
use lib.Dec.{leb, ltb, eqb}
use lib.ListN.{length, drop}
use lib.Seq.{drop_at}
use borrow.Author.Tests.{le-leb, le-ltb, leb-true, ltb-true, ltb-false, eqb-true, eqb-false}
use Rattle.laws.specs.Lists.{any, every, chained, apart, select, insert_at}
use Rattle.laws.proofs.Numbers.{lt-or-ge, clash, and_intro, and_left, and_right, false_of_not}
use Rattle.laws.proofs.Lists.{length-tab, every-mem, every-of-mem, every_map, every-insert_at, any_false, mem-of-insert_at, mem-of-select}
use Rattle.laws.proofs.Lex.{lt-is_less, lex-head-lt}
use Rattle.laws.proofs.Sorted.{less_by, Sorted, pairwise_append, sorted-of-chained, chained-of-sorted, sorted-select, sorted_insert, apart-select, apart-insert_at, pigeonhole-pairs}
use Rattle.model.specs.Setup.{Setup, depth, depth_of}
use Rattle.model.specs.Timestamp.{Timestamp, count_at, counts_from, sum, at_most}
use Rattle.model.specs.Frame.{Frame, two_at, encode}
use Rattle.model.specs.Order.{reading_of}
use Rattle.model.specs.Holdback.{same_origin, not_early, encode_frames}
use Rattle.model.specs.Question.{Question, first_no}
use Rattle.model.specs.Judge.{Asking, ask_late, ask_early, ask_repeat}
use Rattle.model.specs.Schedule.{Schedule, steady, widening, modulus_of, widest_of, own_limits, due_along, compared_along}
use Rattle.model.specs.Wider.{frame_half, wider_reading, wider_decode, counts_down_by, wider_key, wider_key_near, wider_before, wider_due, wider_held_bytes, wider_held, wider_passes, wider_not_expired, wider_sound_holdback, wider_opening_queue, wider_due_before, wider_due_now, not_late_along, wider_ask_late, wider_ask_counts, wider_frame_questions, wider_place_questions, wider_observer_place_questions, wider_questions, wider_observer_questions, wider_place}
use Rattle.lemmas.proofs.Bounds.{Limits}
use Rattle.lemmas.proofs.Reading.{near-injective}
use Rattle.lemmas.proofs.RoundTrip.{none-no}
use Rattle.lemmas.proofs.Queue.{early_from, early-to, reading-high, origin-to, origin-sym, passed-new}
use Rattle.lemmas.proofs.Schedules.{Good, limits-good, limits-modulus, limits-n, limits-widest, widest-good, widest-modulus, due-grows, due-window, Gap, due-gap}
use Rattle.lemmas.proofs.WideFrames.{HasWidth, FrameWithin, within-passes, within-passed, wide-decode, wide-passes, passes-wide, wide-held-bytes, wide-held, length-wide-held}

-- a queue that is sound for the modular clock v, with the least due clock that is allowed
pub record QueueAlong (g : Schedule) (v least : ℕ) (queue : List Frame) : Type 0 where
  pub frames : (f : Frame) → Memᴰ f queue → FrameWithin g (own_limits g) f
  pub ordered : chained (wider_before g v) queue ≡ true
  pub single : apart same_origin queue ≡ true
  pub early : every (not_early (own_limits g) v) queue ≡ true
  pub expired : every (wider_not_expired g v least) queue ≡ true

-- one that a call for v leaves: each frame is due after v
pub record LeftAlong (g : Schedule) (v : ℕ) (queue : List Frame) : Type 0 where
  pub frames : (f : Frame) → Memᴰ f queue → FrameWithin g (own_limits g) f
  pub ordered : chained (wider_before g v) queue ≡ true
  pub single : apart same_origin queue ≡ true
  pub early : (f : Frame) → Memᴰ f queue → wider_reading g v f + f.stamp.c ≤ modulus_of g + ((own_limits g).epsilon - 1)
  pub later : (f : Frame) → Memᴰ f queue → modulus_of g < due_along g (wider_reading g v f + f.stamp.c)

-- the order of a queue is that of its keys
pub ordered-along : (g : Schedule) (v : ℕ) (queue : List Frame) → chained (wider_before g v) queue ≡ true → Sorted (wider_key_near g v) queue
unfolding wider_before
ordered-along g v queue h = sorted-of-chained (wider_key_near g v) queue h

pub along-ordered : (g : Schedule) (v : ℕ) (queue : List Frame) → Sorted (wider_key_near g v) queue → chained (wider_before g v) queue ≡ true
unfolding wider_before
along-ordered g v queue h = chained-of-sorted (wider_key_near g v) queue h

pub expired-along : (g : Schedule) (v least : ℕ) (f : Frame) → least ≤ due_along g (wider_reading g v f + f.stamp.c) → wider_not_expired g v least f ≡ true
unfolding wider_not_expired wider_due sum
expired-along g v least f h = le-leb least (due_along g (wider_reading g v f + f.stamp.c)) h

pub along-expired : (g : Schedule) (v least : ℕ) (f : Frame) → wider_not_expired g v least f ≡ true → least ≤ due_along g (wider_reading g v f + f.stamp.c)
unfolding wider_not_expired wider_due sum
along-expired g v least f h = leb-true least (due_along g (wider_reading g v f + f.stamp.c)) h

pub length-down-by : (most half : ℕ) (t : Timestamp) → length (counts_down_by most half t) ≡ most
unfolding counts_down_by
length-down-by most half t = length-tab most (λ k. count_at half most t.kn (most + t.c - k))

-- ---- tests of a frame's time, as facts

pub before-along : (g : Schedule) (v : ℕ) (f : Frame) → wider_due_before g v f ≡ true → due_along g (wider_reading g v f + f.stamp.c) < modulus_of g
unfolding wider_due_before wider_due sum
before-along g v f h = ltb-true (due_along g (wider_reading g v f + f.stamp.c)) (modulus_of g) h

pub not-before-along : (g : Schedule) (v : ℕ) (f : Frame) → not (wider_due_before g v f) ≡ true → modulus_of g ≤ due_along g (wider_reading g v f + f.stamp.c)
unfolding wider_due_before wider_due sum
not-before-along g v f h =
    ltb-false (due_along g (wider_reading g v f + f.stamp.c)) (modulus_of g) (false_of_not (ltb (due_along g (wider_reading g v f + f.stamp.c)) (modulus_of g)) h)

pub now-along : (g : Schedule) (v : ℕ) (f : Frame) → wider_due_now g v f ≡ true → due_along g (wider_reading g v f + f.stamp.c) ≡ modulus_of g
unfolding wider_due_now wider_due sum
now-along g v f h = eqb-true (due_along g (wider_reading g v f + f.stamp.c)) (modulus_of g) h

pub not-now-along : (g : Schedule) (v : ℕ) (f : Frame) → not (wider_due_now g v f) ≡ true → due_along g (wider_reading g v f + f.stamp.c) ≡ modulus_of g → ⊥
unfolding wider_due_now wider_due sum
not-now-along g v f h =
    eqb-false (due_along g (wider_reading g v f + f.stamp.c)) (modulus_of g) (false_of_not (eqb (due_along g (wider_reading g v f + f.stamp.c)) (modulus_of g)) h)

-- ---- the key tells station and reading

pub key-origin-along : (g : Schedule) (x y : ℕ) (a b : Frame) → wider_key g x a ≡ wider_key g y b → (a.station ≡ b.station) × (x ≡ y)
unfolding wider_key sum
key-origin-along g x y a b e =
    let total : x + a.stamp.c ≡ y + b.stamp.c = cc in
    let most : ℕ = compared_along g (x + a.stamp.c) in
    let t : a.station ∷ x ∷ [] ≡ b.station ∷ y ∷ [] =
    sym (drop_at (counts_down_by most (frame_half g a) a.stamp) (a.station ∷ x ∷ []) most (length-down-by most (frame_half g a) a.stamp))
    ∙ ap (drop (suc most)) e
    ∙ drop_at (counts_down_by (compared_along g (y + b.stamp.c)) (frame_half g b) b.stamp) (b.station ∷ y ∷ []) most
    (length-down-by (compared_along g (y + b.stamp.c)) (frame_half g b) b.stamp ∙ ap (compared_along g) (sym total)) in
    (cc, cc)

-- ---- questions 13 to 16

-- 13: r is not too far behind v, and the frame is not due before v
pub late-along :
    (g : Schedule) (v : ℕ) (f : Frame) → (wider_ask_late g v f).holds ≡ true
    → (modulus_of g ≤ wider_reading g v f + ((own_limits g).delta + (own_limits g).epsilon)) × (modulus_of g ≤ due_along g (wider_reading g v f + f.stamp.c))
unfolding ask_late not_late_along
late-along (steady s) v f h =
    let late = leb-true s.modulus (reading_of s v f + (s.delta + s.epsilon)) h in
    (late, omega (arith, late))
late-along (widening before after change) v f h =
    let g = widening before after change in
    let near-enough : Bool = leb (modulus_of g) (wider_reading g v f + ((own_limits g).delta + (own_limits g).epsilon)) in (
      leb-true (modulus_of g) (wider_reading g v f + ((own_limits g).delta + (own_limits g).epsilon)) (and_left near-enough _ h),
      not-before-along g v f (and_right near-enough _ h),
    )

-- it is asked with the number 13
late-first : (g : Schedule) (v : ℕ) (f : Frame) (qs : List Question) → first_no (wider_ask_late g v f ∷ qs) ≡ 0 → ((wider_ask_late g v f).holds ≡ true) × (first_no qs ≡ 0)
unfolding ask_late
late-first (steady s) v f qs e = none-no (leb s.modulus (reading_of s v f + (s.delta + s.epsilon))) 12 qs e
late-first (widening before after change) v f qs e = none-no (not_late_along (widening before after change) v f) 12 qs e

-- what a frame that is taken has passed, 15 aside
pub record PassedAlong (g : Schedule) (v : ℕ) (queue : List Frame) (f : Frame) : Type 0 where
  pub frame : FrameWithin g (own_limits g) f
  pub late : modulus_of g ≤ wider_reading g v f + ((own_limits g).delta + (own_limits g).epsilon)
  pub due : modulus_of g ≤ due_along g (wider_reading g v f + f.stamp.c)
  pub early : not_early (own_limits g) v f ≡ true
  pub new : any (same_origin f) queue ≡ false

-- questions that take no other frame
abbrev pub PlacesAlong : Schedule → ℕ → Asking → Type 0
PlacesAlong g v asking = (queue : List Frame) (bytes : List ℕ) → first_no (asking queue bytes) ≡ 0 → PassedAlong g v queue (wider_decode g bytes)

-- 10 to 14, with others behind them
module _ (g : Schedule) (good : Good g) (v : ℕ) (queue : List Frame) (bytes : List ℕ) where
  abbrev heard_frame : Frame
  heard_frame = wider_decode g bytes

  passed-front :
      (qs : List Question) → first_no (wider_frame_questions g bytes ++ (wider_ask_late g v heard_frame ∷ ask_early (own_limits g) v heard_frame ∷ qs)) ≡ 0
      → (any (same_origin heard_frame) queue ≡ false → PassedAlong g v queue heard_frame) × (first_no qs ≡ 0)
  unfolding wider_frame_questions ask_early
  passed-front qs e =
      let q = within-passed g (own_limits g) bytes (wider_ask_late g v heard_frame ∷ ask_early (own_limits g) v heard_frame ∷ qs) good (limits-good g good (modulus_of g)).epsilon-pos e in
      let late = late-first g v heard_frame (ask_early (own_limits g) v heard_frame ∷ qs) q.1 in
      let t = late-along g v heard_frame late.0 in
      let q14 = none-no (not_early (own_limits g) v heard_frame) 13 qs late.1 in
      (λ new. record { frame = q.0; late = t.0; due = t.1; early = q14.0; new = new }, q14.1)

  -- 10 to 16
  pub judged-along :
      first_no (wider_questions g v queue bytes) ≡ 0
      → PassedAlong g v queue heard_frame
      × (at_most ((own_limits g).n - 1) (counts_from (frame_half g heard_frame) (wider_reading g v heard_frame) heard_frame.stamp.kn (modulus_of g)) ≡ true)
  unfolding wider_questions wider_place_questions wider_ask_counts
  judged-along e =
      let t = passed-front (wider_ask_counts g v heard_frame ∷ ask_repeat queue heard_frame ∷ []) e in
      let q15 =
      none-no (at_most ((own_limits g).n - 1) (counts_from (frame_half g heard_frame) (wider_reading g v heard_frame) heard_frame.stamp.kn (modulus_of g))) 14
      (ask_repeat queue heard_frame ∷ []) t.1 in
      (t.0 (passed-new queue heard_frame [] q15.1), q15.0)

  -- an observer's
  pub observed-along : first_no (wider_observer_questions g v queue bytes) ≡ 0 → PassedAlong g v queue heard_frame
  unfolding wider_observer_questions wider_observer_place_questions
  observed-along e =
      let t = passed-front (ask_repeat queue heard_frame ∷ []) e in
      t.0 (passed-new queue heard_frame [] t.1)

-- and the other way round
late-passes :
    (g : Schedule) (v : ℕ) (f : Frame) (qs : List Question) → modulus_of g ≤ wider_reading g v f + ((own_limits g).delta + (own_limits g).epsilon)
    → modulus_of g ≤ due_along g (wider_reading g v f + f.stamp.c) → first_no (wider_ask_late g v f ∷ qs) ≡ first_no qs
unfolding ask_late not_late_along wider_due_before wider_due sum first_no
late-passes (steady s) v f qs late due = rw (le-leb s.modulus (reading_of s v f + (s.delta + s.epsilon)) late)
late-passes (widening before after change) v f qs late due =
    let g : Schedule = widening before after change in
    rw (
      le-leb (modulus_of g) (wider_reading g v f + ((own_limits g).delta + (own_limits g).epsilon)) late,
      le-ltb (due_along g (wider_reading g v f + f.stamp.c)) (modulus_of g) due,
    )

-- 16 alone is left
repeat-left : (shelved : Bool) → ◌≡◌ {A = ℕ} (cond (not shelved) 0 16) (cond shelved 16 0)
repeat-left true = refl
repeat-left false = refl

-- a frame that passes 10 to 14: its verdict, where it passes 15 too; and an observer's
module _ (g : Schedule) (v : ℕ) (queue : List Frame) (f : Frame) (ok : FrameWithin g (own_limits g) f)
    (late : modulus_of g ≤ wider_reading g v f + ((own_limits g).delta + (own_limits g).epsilon))
    (due : modulus_of g ≤ due_along g (wider_reading g v f + f.stamp.c)) (early : not_early (own_limits g) v f ≡ true)
  where
    pub along-judged :
        at_most ((own_limits g).n - 1) (counts_from (frame_half g f) (wider_reading g v f) f.stamp.kn (modulus_of g)) ≡ true
        → first_no (wider_questions g v queue (encode f)) ≡ cond (any (same_origin f) queue) 16 0
    unfolding wider_questions wider_frame_questions wider_place_questions wider_ask_counts ask_early ask_repeat first_no
    along-judged counts =
        within-passes g (own_limits g) f (wider_place_questions g v queue (wider_decode g (encode f))) ok
        ∙ (ap (λ (x : Frame). first_no (wider_place_questions g v queue x)) (wide-decode g f ok.wide)
        ∙ (late-passes g v f (ask_early (own_limits g) v f ∷ wider_ask_counts g v f ∷ ask_repeat queue f ∷ []) late due
        ∙ rw (early, counts) (repeat-left (any (same_origin f) queue))))

    pub along-observed : first_no (wider_observer_questions g v queue (encode f)) ≡ cond (any (same_origin f) queue) 16 0
    unfolding wider_observer_questions wider_frame_questions wider_observer_place_questions ask_early ask_repeat first_no
    along-observed =
        within-passes g (own_limits g) f (wider_observer_place_questions g v queue (wider_decode g (encode f))) ok
        ∙ (ap (λ (x : Frame). first_no (wider_observer_place_questions g v queue x)) (wide-decode g f ok.wide)
        ∙ (late-passes g v f (ask_early (own_limits g) v f ∷ ask_repeat queue f ∷ []) late due
        ∙ rw early (repeat-left (any (same_origin f) queue))))

-- ---- how many frames a shelf is for

-- wider limits leave as much room or more
pub depth-grows : (a b : Setup) → a.n ≡ b.n → a.epsilon ≤ b.epsilon → a.delta ≤ b.delta → depth_of a ≤ depth_of b
unfolding depth
depth-grows a b n epsilon delta =
    rw n (mul-le-mul_left b.n (let more : a.delta + 3 * a.epsilon ≤ b.delta + 3 * b.epsilon = omega arith in more))

pub depth-widest : (g : Schedule) → Good g → depth_of (own_limits g) ≤ depth_of (widest_of g)
depth-widest g good =
    depth-grows (own_limits g) (widest_of g) (limits-n g good (modulus_of g)) (limits-widest g good (modulus_of g)).0 (limits-widest g good (modulus_of g)).1

-- ---- a queue

module _ (g : Schedule) (good : Good g) where
  abbrev s : Setup
  s = own_limits g

  abbrev B : ℕ
  B = modulus_of g

  limits-own : Limits s
  limits-own = limits-good g good B

  -- B is that of the limits
  modulus-own : s.modulus ≡ B
  modulus-own = limits-modulus g good B

  large : 6 * s.epsilon + s.delta + 1 ≤ B
  large = omega (arith, limits-own.modulus-least, modulus-own)

  pub reading-high-along : (v : ℕ) (f : Frame) → wider_reading g v f < B + s.epsilon
  reading-high-along v f = omega (arith, reading-high s v f limits-own, modulus-own)

  -- two frames with one station and one reading
  pub reading-origin-along :
      (v : ℕ) (a b : Frame) → v < B → FrameWithin g s a → FrameWithin g s b → a.station ≡ b.station → wider_reading g v a ≡ wider_reading g v b → same_origin a b ≡ true
  unfolding reading_of
  reading-origin-along v a b below p q e h =
      origin-to a b e
      (near-injective s.epsilon s.modulus v a.stamp.r b.stamp.r limits-own.epsilon-pos (omega (arith, large, modulus-own)) (omega (arith, below, modulus-own)) p.r-below q.r-below h)

  pub queue-none-along : (v least : ℕ) → QueueAlong g v least []
  unfolding chained apart every
  queue-none-along v least =
      record { frames = λ f m. absurd (Memᴰ.not-nil m); ordered = refl; single = refl; early = refl; expired = refl }

  -- the test of a queue's bytes, as facts
  pub sound-along : (v least : ℕ) (bytes : List ℕ) → wider_sound_holdback g v least bytes ≡ true → QueueAlong g v least (wider_held g bytes)
  unfolding wider_sound_holdback wider_held
  sound-along v least bytes h =
      let queue = wider_held g bytes in
      let h₁ = and_right (leb (two_at bytes 0) (depth_of s)) _ h in
      let h₂ = and_right (every (wider_passes g) (wider_held_bytes g bytes)) _ h₁ in
      let h₃ = and_right (chained (wider_before g v) queue) _ h₂ in
      let h₄ = and_right (apart same_origin queue) _ h₃ in
      record {
        frames = λ f m. one f (Memᴰ.of_map (wider_decode g) (wider_held_bytes g bytes) m) (and_left _ _ h₁);
        ordered = and_left _ _ h₂;
        single = and_left _ _ h₃;
        early = and_left _ _ h₄;
        expired = and_right (every (not_early s v) queue) _ h₄;
      }
    where
      one : (f : Frame) → (a : List ℕ) × Memᴰ a (wider_held_bytes g bytes) × (wider_decode g a ≡ f) → every (wider_passes g) (wider_held_bytes g bytes) ≡ true → FrameWithin g s f
      one f t p = subst (FrameWithin g s) t.2 (passes-wide g t.0 good limits-own.epsilon-pos (every-mem (wider_passes g) p t.1))

  pub opening-along : (v least : ℕ) (bytes : List ℕ) → QueueAlong g v least (wider_opening_queue g v least bytes)
  unfolding wider_opening_queue
  opening-along v least bytes = go (wider_sound_holdback g v least bytes) refl
    where
      go : (b : Bool) → wider_sound_holdback g v least bytes ≡ b → QueueAlong g v least (cond b (wider_held g bytes) [])
      go true e = sound-along v least bytes e
      go false e = queue-none-along v least

  -- a part of it, with another least due clock that its frames keep
  pub part-along :
      (v least least' : ℕ) (p : Frame → Bool) (queue : List Frame) → QueueAlong g v least queue
      → ((f : Frame) → Memᴰ f queue → p f ≡ true → least' ≤ due_along g (wider_reading g v f + f.stamp.c)) → QueueAlong g v least' (select p queue)
  part-along v least least' p queue ok h =
      record {
        frames = λ f m. ok.frames f (mem-of-select p queue m).0;
        ordered = along-ordered g v (select p queue) (sorted-select (wider_key_near g v) p queue (ordered-along g v queue ok.ordered));
        single = apart-select same_origin p queue ok.single;
        early = every-of-mem (not_early s v) (select p queue) (λ f m. every-mem (not_early s v) ok.early (mem-of-select p queue m).0);
        expired =
            every-of-mem (wider_not_expired g v least') (select p queue)
            (λ f m. expired-along g v least' f (h f (mem-of-select p queue m).0 (mem-of-select p queue m).1));
      }

  due-of : (v least : ℕ) (queue : List Frame) → QueueAlong g v least queue → (f : Frame) → Memᴰ f queue → least ≤ due_along g (wider_reading g v f + f.stamp.c)
  due-of v least queue ok f m = along-expired g v least f (every-mem (wider_not_expired g v least) ok.expired m)

  key-near-origin : (v : ℕ) (a b : Frame) → wider_key_near g v a ≡ wider_key_near g v b → (a.station ≡ b.station) × (wider_reading g v a ≡ wider_reading g v b)
  unfolding wider_key_near
  key-near-origin v a b e = key-origin-along g (wider_reading g v a) (wider_reading g v b) a b e

  -- without what is due before v no due clock is before v
  pub rest-along : (v least : ℕ) (queue : List Frame) → QueueAlong g v least queue → QueueAlong g v B (select (λ f. not (wider_due_before g v f)) queue)
  rest-along v least queue ok = part-along v least B (λ f. not (wider_due_before g v f)) queue ok (λ f m e. not-before-along g v f e)

  pub take-along : (v : ℕ) (queue : List Frame) (f : Frame) → v < B → QueueAlong g v B queue → PassedAlong g v queue f → QueueAlong g v B (insert_at (wider_place g v queue f) f queue)
  unfolding wider_place wider_before
  take-along v queue f below ok p =
      let at = wider_place g v queue f in
      record {
        frames = λ a m. one a (mem-of-insert_at at f queue m);
        ordered = along-ordered g v (insert_at at f queue) (sorted_insert (wider_key_near g v) f queue (ordered-along g v queue ok.ordered) other);
        single = apart-insert_at same_origin origin-sym at f queue p.new ok.single;
        early = every-insert_at (not_early s v) at f queue ∙ and_intro p.early ok.early;
        expired = every-insert_at (wider_not_expired g v B) at f queue ∙ and_intro (expired-along g v B f p.due) ok.expired;
      }
    where
      one : (a : Frame) → (a ≡ f) ⊎ Memᴰ a queue → FrameWithin g s a
      one a (inl e) = rw e p.frame
      one a (inr m) = ok.frames a m

      other : (a : Frame) → Memᴰ a queue → wider_key_near g v a ≡ wider_key_near g v f → ⊥
      other a m e =
          let t = key-near-origin v f a (sym e) in
          clash (reading-origin-along v f a below p.frame (ok.frames a m) t.0 t.1) (any_false (same_origin f) p.new m)

  -- ---- how many

  -- where the readings of a queue's frames lie
  pub window-along :
      (v least : ℕ) (queue : List Frame) → least ≤ B + 1 → QueueAlong g v least queue → (f : Frame) → Memᴰ f queue
      → least < wider_reading g v f + (s.delta + 2 * s.epsilon)
  window-along v least queue h ok f m =
      omega (arith, due-window g good B least (wider_reading g v f + f.stamp.c) h (due-of v least queue ok f m), (ok.frames f m).close)

  -- frames of a sound queue whose readings are among m from lo on: n m at most
  pub few-along :
      (v least : ℕ) (queue : List Frame) (lo m : ℕ) → v < B → QueueAlong g v least queue
      → ((f : Frame) → Memᴰ f queue → lo ≤ wider_reading g v f) → ((f : Frame) → Memᴰ f queue → wider_reading g v f < lo + m) → length queue ≤ s.n * m
  few-along v least queue lo m below ok low high =
      pigeonhole-pairs same_origin (λ f. f.station) (wider_reading g v) s.n lo m queue
      ok.single (λ a b x y e h. reading-origin-along v a b below (ok.frames a x) (ok.frames b y) e h) (λ f x. (ok.frames f x).station-below)
      low high

  -- 02, 2.7: n(δ + 3ε − 1) at most where none is due before v, by the limits of v
  pub bound-along : (v least : ℕ) (queue : List Frame) → v < B → B ≤ least → least ≤ B + 1 → QueueAlong g v least queue → length queue ≤ s.n * (s.delta + 3 * s.epsilon - 1)
  bound-along v least queue below late near-enough ok =
      few-along v least queue (B + 1 - (s.delta + 2 * s.epsilon)) (s.delta + 3 * s.epsilon - 1) below ok
      (λ f m. omega (arith, window-along v least queue near-enough ok f m)) (λ f m. omega (arith, window-along v least queue near-enough ok f m, reading-high-along v f, large, limits-own.epsilon-pos))

  pub room-along : (v least : ℕ) (queue : List Frame) → v < B → B ≤ least → least ≤ B + 1 → QueueAlong g v least queue → length queue < depth_of s
  unfolding depth
  room-along v least queue below late near-enough ok =
      omega (
        arith,
        bound-along v least queue below late near-enough ok,
        mul-suc s.n (s.delta + 3 * s.epsilon - 1),
        ap (λ (k : ℕ). s.n * k) (pred-suc s.delta s.epsilon limits-own.epsilon-pos),
        limits-own.n_pos,
      )
    where
      pred-suc : (d e : ℕ) → 1 ≤ e → suc (d + 3 * e - 1) ≡ d + 3 * e
      pred-suc d e h = omega arith

  -- 02, 2.2: few are due before v, after a last clock at most ε before it, and few at v. All their sums lie one gap before a clock in between
  gap-small : (least gap : ℕ) → Gap g least gap → gap + 5 * s.epsilon + 1 ≤ B
  gap-small least gap d =
      omega (arith, d.most, (limits-widest g good B).0, (widest-good g good).modulus-least, widest-modulus g good)

  pub overdue-few-along :
      (v least : ℕ) (queue : List Frame) → v < B → B + 1 ≤ least + s.epsilon → QueueAlong g v least queue
      → length (select (wider_due_before g v) queue) ≤ s.n * (2 * s.epsilon - 2)
  overdue-few-along v least queue below few ok = go (due-gap g good least)
    where
      go : (gap : ℕ) × Gap g least gap → length (select (wider_due_before g v) queue) ≤ s.n * (2 * s.epsilon - 2)
      go (gap, d) =
          few-along v least (select (wider_due_before g v) queue) (least + 1 - (gap + s.epsilon)) (2 * s.epsilon - 2) below
          (part-along v least least (wider_due_before g v) queue ok (λ f m e. due-of v least queue ok f m))
          (λ f m.
          let here = (mem-of-select (wider_due_before g v) queue m).0 in
          omega (arith, d.low (wider_reading g v f + f.stamp.c) (due-of v least queue ok f here), (ok.frames f here).close, gap-small least gap d, few))
          (λ f m.
          let here = (mem-of-select (wider_due_before g v) queue m).0 in
          omega (
            arith,
            d.low (wider_reading g v f + f.stamp.c) (due-of v least queue ok f here),
            d.high (wider_reading g v f + f.stamp.c) (due-of v least queue ok f here),
            before-along g v f (mem-of-select (wider_due_before g v) queue m).1,
            (ok.frames f here).close,
            gap-small least gap d,
            few,
          ))

  pub due-few-along : (v : ℕ) (queue : List Frame) → v < B → QueueAlong g v B queue → length (select (wider_due_now g v) queue) ≤ s.n * s.epsilon
  due-few-along v queue below ok = go (due-gap g good B)
    where
      go : (gap : ℕ) × Gap g B gap → length (select (wider_due_now g v) queue) ≤ s.n * s.epsilon
      go (gap, d) =
          few-along v B (select (wider_due_now g v) queue) (B + 1 - (gap + s.epsilon)) s.epsilon below
          (part-along v B B (wider_due_now g v) queue ok (λ f m e. due-of v B queue ok f m))
          (λ f m.
          let here = (mem-of-select (wider_due_now g v) queue m).0 in
          omega (arith, d.low (wider_reading g v f + f.stamp.c) (due-of v B queue ok f here), (ok.frames f here).close, gap-small B gap d))
          (λ f m.
          let here = (mem-of-select (wider_due_now g v) queue m).0 in
          omega (
            arith,
            d.high (wider_reading g v f + f.stamp.c) (due-of v B queue ok f here),
            now-along g v f (mem-of-select (wider_due_now g v) queue m).1,
            gap-small B gap d,
            limits-own.epsilon-pos,
          ))

  -- what is due before v, and then what is due at v, is in order: the sums of the first are smaller
  pub due-sorted-along :
      (v least : ℕ) (opened queue : List Frame) → QueueAlong g v least opened → QueueAlong g v B queue
      → Sorted (wider_key_near g v) (select (wider_due_before g v) opened ++ select (wider_due_now g v) queue)
  unfolding wider_key_near wider_key sum
  due-sorted-along v least opened queue first ok =
      pairwise_append (less_by (wider_key_near g v)) (select (wider_due_before g v) opened) (select (wider_due_now g v) queue)
      (sorted-select (wider_key_near g v) (wider_due_before g v) opened (ordered-along g v opened first.ordered))
      (sorted-select (wider_key_near g v) (wider_due_now g v) queue (ordered-along g v queue ok.ordered))
      (λ a b m h. smaller a b (before-along g v a (mem-of-select (wider_due_before g v) opened m).1) (now-along g v b (mem-of-select (wider_due_now g v) queue h).1))
    where
      less : (x y : ℕ) → due_along g x < B → due_along g y ≡ B → x < y
      less x y p q =
          elim (lt-or-ge x y) [
            | inl h ↦ h
            | inr h ↦ absurd (omega (arith, due-grows g good y x h, p, q))
          ]

      smaller :
          (a b : Frame) → due_along g (wider_reading g v a + a.stamp.c) < B → due_along g (wider_reading g v b + b.stamp.c) ≡ B
          → less_by (wider_key_near g v) a b ≡ true
      smaller a b p q =
          lt-is_less (lex-head-lt (wider_reading g v a + a.stamp.c) (wider_reading g v b + b.stamp.c) _ _ (less (wider_reading g v a + a.stamp.c) (wider_reading g v b + b.stamp.c) p q))

  -- what a call leaves: the queue without what is due
  pub left_along : (v : ℕ) (queue : List Frame) → QueueAlong g v B queue → LeftAlong g v (select (λ f. not (wider_due_now g v f)) queue)
  left_along v queue ok =
      record {
        frames = λ f m. ok.frames f (mem-of-select kept queue m).0;
        ordered = along-ordered g v (select kept queue) (sorted-select (wider_key_near g v) kept queue (ordered-along g v queue ok.ordered));
        single = apart-select same_origin kept queue ok.single;
        early = λ f m. omega (arith, early_from s v f (every-mem (not_early s v) ok.early (mem-of-select kept queue m).0), modulus-own);
        later = λ f m. omega (arith, due-of v B queue ok f (mem-of-select kept queue m).0, not-now-along g v f (mem-of-select kept queue m).1);
      }
    where
      kept : Frame → Bool
      kept f = not (wider_due_now g v f)

  -- such a queue is sound for a call at v that asks for due clocks past v: a poll's
  pub left-polled : (v : ℕ) (queue : List Frame) → LeftAlong g v queue → QueueAlong g v (B + 1) queue
  left-polled v queue left =
      record {
        frames = left.frames;
        ordered = left.ordered;
        single = left.single;
        early = every-of-mem (not_early s v) queue (λ f m. early-to s v f (omega (arith, left.early f m, modulus-own)));
        expired = every-of-mem (wider_not_expired g v (B + 1)) queue (λ f m. expired-along g v (B + 1) f (omega (arith, left.later f m)));
      }

  -- what a call leaves is never full
  pub left-room-along : (v : ℕ) (queue : List Frame) → v < B → LeftAlong g v queue → length queue < depth_of s
  left-room-along v queue below left = room-along v (B + 1) queue below (omega arith) (omega arith) (left-polled v queue left)

  -- ---- its bytes

  -- the frames of a queue in a buffer, with anything behind them
  pub bytes-along : (v least : ℕ) (queue : List Frame) (rest : List ℕ) → length queue ≤ depth_of s → QueueAlong g v least queue → wider_sound_holdback g v least (encode_frames queue ++ rest) ≡ true
  unfolding wider_sound_holdback
  bytes-along v least queue rest few ok =
      let wide : (f : Frame) → Memᴰ f queue → HasWidth g f = λ f m. (ok.frames f m).wide in
      let back : wider_held g (encode_frames queue ++ rest) ≡ queue = wide-held g queue wide rest in
      let count : two_at (encode_frames queue ++ rest) 0 ≡ length queue = sym (length-wide-held g (encode_frames queue ++ rest)) ∙ ap length back in
      let passed : every (wider_passes g) (wider_held_bytes g (encode_frames queue ++ rest)) ≡ true =
      ap (every (wider_passes g)) (wide-held-bytes g queue wide rest)
      ∙ (every_map (wider_passes g) encode queue ∙ every-of-mem (λ f. wider_passes g (encode f)) queue (λ f m. wide-passes g f (ok.frames f m))) in
      and_intro (le-leb (two_at (encode_frames queue ++ rest) 0) (depth_of s) (omega (arith, count, few)))
      (and_intro passed
      (rw back (and_intro ok.ordered (and_intro ok.single (and_intro ok.early ok.expired)))))
