-- Soundness of an engine's queue, frame by frame.
-- Assumes nothing.
use Prim.Native.Nat.{ℕ, suc, ◌+◌, ◌-◌, ◌^◌, ◌≤◌, ◌<◌}
use native.Mathlib.Omega.{arith}
use mathlib.Core.Path.{◌≡◌, refl, sym, ap, ap₂, ◌∙◌}
use mathlib.Core.Bool.{Bool, true, false, ◌&&◌, cond}
use mathlib.Core.Logic.{◌⊎◌, inl, inr}
use mathlib.Core.List.{List, []}
use lib.Dec.{leb}
use lib.ListN.{length, take, drop, length-drop}
use borrow.Author.Tests.{leb-true, le-leb, lt-leb, eqb-true, eq-eqb}
use Rattle.laws.specs.Lists.{every, apart}
use Rattle.laws.proofs.Numbers.{and_intro, and_left, and_right, false-of-no, true-or-false, clash, cond-true, cond-false}
use Rattle.laws.proofs.Lists.{every_map, every-mono, every-mem, every-of-mem}
use Rattle.model.specs.Setup.{Setup, width}
use Rattle.model.specs.Frame.{Frame, two_at, decode}
use Rattle.model.specs.Holdback.{cut_by, same_origin, encode_holdback}
use Rattle.model.specs.Timestamp.{sum}
use Rattle.model.specs.Question.{first_no}
use Rattle.model.specs.Order.{sum_due, due}
use Rattle.model.specs.Long.{long_bound, long_most, long_frame_end, long_formed, long_decode, long_frame_questions, long_due, six_on, longest_long, long_held_bytes, long_held, long_passes, long_not_early, long_not_expired, long_sound_holdback, long_encode_holdback, long_holdback_size}
use Rattle.lemmas.proofs.LongFrames.{long-passes-formed, long-passes-decode}
use Rattle.lemmas.proofs.LongPassing.{long-size, long-end-inside}
use Rattle.holdback.proofs.RoundTrip.{Bytes}
use Rattle.lemmas.specs.Standing.{end_by}
use Rattle.lemmas.proofs.FrameWalk.{lent, lent_is, cut-more, end_more, end_low, stand-weaker}
use Rattle.holdback.proofs.Frames.{bytes_take, bytes_drop, end-small}
use Rattle.longqueue.specs.Queue.{frames_from, end_from, Standing}
use Rattle.longqueue.specs.Sound.{timely, fits, fitting_end, fitting_ends, Walked, Opening}
use Rattle.longqueue.proofs.Standing.{bytes_at, next_at, stand}
use Rattle.longqueue.proofs.Extents.{held-from, passing-extent, size-two}
use Rattle.longqueue.proofs.Changed.{empty-extent, empty-held, empty-same}

-- what is asked of a frame alone, apart
pub fits-passes : (s : Setup) (v least : ℕ) (bytes : List ℕ) → fits s v least bytes ≡ true → long_passes s bytes ≡ true
unfolding fits
fits-passes s v least bytes h = and_left (long_passes s bytes) (timely s v least bytes) h

fits-timely : (s : Setup) (v least : ℕ) (bytes : List ℕ) → fits s v least bytes ≡ true → timely s v least bytes ≡ true
unfolding fits
fits-timely s v least bytes h = and_right (long_passes s bytes) (timely s v least bytes) h

pub fits-formed : (s : Setup) (v least : ℕ) (bytes : List ℕ) → fits s v least bytes ≡ true → long_formed s.epsilon bytes ≡ true
fits-formed s v least bytes h = long-passes-formed s bytes (fits-passes s v least bytes h)

-- ---- the tests of the whole, of each frame by itself

module _ (s : Setup) (v least : ℕ) (b : List ℕ) where
  abbrev bytes : List (List ℕ)
  bytes = long_held_bytes s.epsilon b

  abbrev queue : List Frame
  queue = long_held s.epsilon b

  abbrev early : List ℕ → Bool
  early l = long_not_early s v (long_decode s.epsilon l)

  abbrev expired : List ℕ → Bool
  expired l = long_not_expired s least (long_decode s.epsilon l)

  early-is : every (long_not_early s v) queue ≡ every early bytes
  unfolding long_held
  early-is = every_map (long_not_early s v) (long_decode s.epsilon) bytes

  expired-is : every (long_not_expired s least) queue ≡ every expired bytes
  unfolding long_held
  expired-is = every_map (long_not_expired s least) (long_decode s.epsilon) bytes

  abbrev timed : Bool
  timed = every (long_not_early s v) queue && every (long_not_expired s least) queue

  -- a sound queue: few frames, each fits, and they are apart
  pub sound-few : long_sound_holdback s v least b ≡ true → two_at b 0 ≤ long_most
  unfolding long_sound_holdback
  sound-few h = leb-true (two_at b 0) long_most (and_left (leb (two_at b 0) long_most) _ h)

  pub sound-passing : long_sound_holdback s v least b ≡ true → every (long_passes s) bytes ≡ true
  unfolding long_sound_holdback
  sound-passing h = and_left (every (long_passes s) bytes) _ (and_right (leb (two_at b 0) long_most) _ h)

  sound-rest : long_sound_holdback s v least b ≡ true → (apart same_origin queue && timed) ≡ true
  unfolding long_sound_holdback
  sound-rest h = and_right (every (long_passes s) bytes) _ (and_right (leb (two_at b 0) long_most) _ h)

  pub sound-single : long_sound_holdback s v least b ≡ true → apart same_origin queue ≡ true
  sound-single h = and_left (apart same_origin queue) timed (sound-rest h)

  pub sound-fitting : long_sound_holdback s v least b ≡ true → every (fits s v least) bytes ≡ true
  unfolding fits timely
  sound-fitting h =
      let t : timed ≡ true = and_right (apart same_origin queue) timed (sound-rest h) in
      let e : every early bytes ≡ true = sym early-is ∙ and_left (every (long_not_early s v) queue) _ t in
      let o : every expired bytes ≡ true = sym expired-is ∙ and_right (every (long_not_early s v) queue) _ t in
      every-of-mem (fits s v least) bytes
      (λ l m. and_intro (every-mem (long_passes s) (sound-passing h) m) (and_intro (every-mem early e m) (every-mem expired o m)))

  -- and the other way round
  pub sound-by : two_at b 0 ≤ long_most → every (fits s v least) bytes ≡ true → apart same_origin queue ≡ true → long_sound_holdback s v least b ≡ true
  unfolding long_sound_holdback fits timely
  sound-by few each single =
      let only : (p : List ℕ → Bool) → ((l : List ℕ) → fits s v least l ≡ true → p l ≡ true) → every p bytes ≡ true = λ p h. every-mono (fits s v least) p bytes h each in
      and_intro (le-leb (two_at b 0) long_most few)
      (and_intro (only (long_passes s) (λ l h. and_left (long_passes s l) _ h))
      (and_intro single
      (and_intro (early-is ∙ only early (λ l h. and_left (early l) (expired l) (and_right (long_passes s l) _ h)))
      (expired-is ∙ only expired (λ l h. and_right (early l) (expired l) (and_right (long_passes s l) _ h))))))

-- ---- one frame, as the code goes

-- c, read six bytes on
pub lead_is : (epsilon : ℕ) (six bytes : List ℕ) (c : ℕ) → six ≡ six_on bytes → c ≡ (decode epsilon six).stamp.c → c ≡ (long_decode epsilon bytes).stamp.c
unfolding long_decode
lead_is epsilon six bytes c e h = h ∙ ap (λ (l : List ℕ). (decode epsilon l).stamp.c) e

-- positions are small
pub next_small : (s : Setup) (b : List ℕ) (at size : ℕ) → s.epsilon ≤ 16 → Bytes b → length b ≡ long_holdback_size s → at ≤ length b → size ≡ long_frame_end s.epsilon (lent b at) → at + size < 2 ^ 16
unfolding long_holdback_size longest_long width long_frame_end
next_small s b at size narrow clean sized inside ends =
    omega (arith, end-small s.epsilon (six_on (lent b at)) narrow (bytes_drop 6 (lent b at) (bytes_take (length b - at) (drop at b) (bytes_drop at b clean))))

-- by r + c of the frame, once it passes
module _ (s : Setup) (v least : ℕ) (bytes : List ℕ) where
  abbrev own : Frame
  own = long_decode s.epsilon bytes

  pub passes-small : 1 ≤ s.epsilon → long_passes s bytes ≡ true → (own.stamp.r < long_bound) × (own.stamp.c < s.epsilon)
  passes-small pos h = let ok = long-passes-decode s bytes pos h in (ok.r-below, ok.sound.close)

  pub passes-there : long_passes s bytes ≡ true → 10 ≤ length bytes
  passes-there h = omega (arith, (long-size s.epsilon bytes (long-passes-formed s bytes h)).shortest)

  module _ (r c : ℕ) (er : r ≡ own.stamp.r) (ec : c ≡ own.stamp.c) where
    early-is-not : long_not_early s v own ≡ leb (r + c) (v + (s.epsilon - 1))
    unfolding long_not_early sum
    early-is-not = ap (λ (n : ℕ). leb n (v + (s.epsilon - 1))) (sym (ap₂ ◌+◌ er ec))

    expired-is-not : long_not_expired s least own ≡ leb least (sum_due s (r + c))
    unfolding long_not_expired long_due due sum
    expired-is-not = ap (λ (n : ℕ). leb least (sum_due s n)) (sym (ap₂ ◌+◌ er ec))

    pub untimely : v + (s.epsilon - 1) < r + c → false ≡ timely s v least bytes
    unfolding timely
    untimely h =
        sym (ap (λ (t : Bool). t && long_not_expired s least own) (early-is-not ∙ lt-leb (r + c) (v + (s.epsilon - 1)) h))

    pub timely-rest : {after : ℕ} → r + c ≤ v + (s.epsilon - 1) → after ≡ sum_due s (r + c) → leb least after ≡ timely s v least bytes
    unfolding timely
    timely-rest h e =
        ap (leb least) e ∙ sym (ap₂ ◌&&◌ (early-is-not ∙ le-leb (r + c) (v + (s.epsilon - 1)) h) expired-is-not)

module _ (s : Setup) (v least : ℕ) (b : List ℕ) (at size : ℕ) (inside : at ≤ length b) (ends : size ≡ long_frame_end s.epsilon (lent b at)) where
  abbrev given : List ℕ
  given = take (at + size - at) (drop at b)

  size_is : size ≡ long_frame_end s.epsilon (drop at b)
  size_is = ends ∙ ap (long_frame_end s.epsilon) (lent_is b at)

  given_is : given ≡ bytes_at s.epsilon b at
  given_is = let e : at + size - at ≡ long_frame_end s.epsilon (drop at b) = omega (arith, size_is) in ap (λ (n : ℕ). take n (drop at b)) e

  -- it ends past the buffer
  pub fitting-past : length b < at + size → 0 ≡ fitting_end s v least b at
  unfolding fitting_end
  fitting-past past =
      sym (cond-false (next_at s.epsilon b at) 0
      (false-of-no (fits s v least (bytes_at s.epsilon b at))
      (λ h. omega (arith, size_is, long-end-inside s.epsilon (drop at b) (fits-formed s v least (bytes_at s.epsilon b at) h), length-drop at b))))

  fitting-no : fits s v least given ≡ false → 0 ≡ fitting_end s v least b at
  unfolding fitting_end
  fitting-no h = sym (cond-false (next_at s.epsilon b at) 0 (ap (fits s v least) (sym given_is) ∙ h))

  -- it does not pass 10 to 12
  pub fitting-refused : (number : ℕ) → number ≡ first_no (long_frame_questions s given) → (number ≡ 0 → ⊥) → 0 ≡ fitting_end s v least b at
  unfolding long_passes
  fitting-refused number e h =
      fitting-no
      (false-of-no (fits s v least given) (λ t. h (e ∙ eqb-true (first_no (long_frame_questions s given)) 0 (fits-passes s v least given t))))

  pub given-passes : (number : ℕ) → number ≡ first_no (long_frame_questions s given) → number ≡ 0 → long_passes s given ≡ true
  unfolding long_passes
  given-passes number e h = eq-eqb (first_no (long_frame_questions s given)) 0 (sym e ∙ h)

  -- it is early or expired
  pub fitting-untimely : timely s v least given ≡ false → 0 ≡ fitting_end s v least b at
  fitting-untimely h = fitting-no (false-of-no (fits s v least given) (λ t. clash (fits-timely s v least given t) h))

  pub fitting-yes : long_passes s given ≡ true → timely s v least given ≡ true → at + size ≡ fitting_end s v least b at
  unfolding fitting_end fits
  fitting-yes passed timed =
      ap (λ (n : ℕ). at + n) size_is
      ∙ sym (cond-true (next_at s.epsilon b at) 0 (ap (fits s v least) (sym given_is) ∙ and_intro passed timed))

-- ---- the walk over all frames

-- all frames fit, and end where they do, if those left do
pub record Fitting (s : Setup) (v least : ℕ) (b : List ℕ) (count at left : ℕ) : Type 0 where
  pub low : 2 ≤ at
  pub inside : at ≤ length b
  pub same : fitting_ends s v least b 2 count ≡ fitting_ends s v least b at left

pub fitting-starts : (s : Setup) (v least : ℕ) (b : List ℕ) (count : ℕ) → 2 ≤ length b → Fitting s v least b count 2 count
fitting-starts s v least b count h = record { low = omega arith; inside = h; same = refl }

fitting-more : (s : Setup) (v least : ℕ) (b : List ℕ) (at k : ℕ)
    → fitting_ends s v least b at (suc k) ≡ cond (fits s v least (bytes_at s.epsilon b at)) (fitting_ends s v least b (next_at s.epsilon b at) k) 0
unfolding fitting_ends every
fitting-more s v least b at k =
    ap₂ (λ (l : List (List ℕ)) (n : ℕ). cond (every (fits s v least) l) n 0) (cut-more (long_frame_end s.epsilon) b at k) (end_more (long_frame_end s.epsilon) b at k)
    ∙ go (fits s v least (bytes_at s.epsilon b at)) (every (fits s v least) (cut_by (long_frame_end s.epsilon) k (drop (next_at s.epsilon b at) b)))
  where
    go : (x y : Bool) → cond (x && y) (end_from s.epsilon b (next_at s.epsilon b at) k) 0 ≡ cond x (cond y (end_from s.epsilon b (next_at s.epsilon b at) k) 0) 0
    go true y = refl
    go false y = refl

module _ {s : Setup} {v least : ℕ} {b : List ℕ} {count at left : ℕ} (led : Fitting s v least b count at left) where
  module _ (more : 0 < left) (next : ℕ) (judged : next ≡ fitting_end s v least b at) where
    abbrev fit : Bool
    fit = fits s v least (bytes_at s.epsilon b at)

    split : fitting_ends s v least b 2 count ≡ cond fit (fitting_ends s v least b (next_at s.epsilon b at) (left - 1)) 0
    split =
        let e : left ≡ suc (left - 1) = omega arith in
        led.same ∙ ap (fitting_ends s v least b at) e ∙ fitting-more s v least b at (left - 1)

    next-yes : fit ≡ true → next ≡ next_at s.epsilon b at
    unfolding fitting_end
    next-yes h = judged ∙ cond-true (next_at s.epsilon b at) 0 h

    next-no : fit ≡ false → next ≡ 0
    unfolding fitting_end
    next-no h = judged ∙ cond-false (next_at s.epsilon b at) 0 h

    pub fitting-stops : next ≡ 0 → 0 ≡ fitting_ends s v least b 2 count
    fitting-stops z = go (true-or-false fit)
      where
        go : (fit ≡ true) ⊎ (fit ≡ false) → 0 ≡ fitting_ends s v least b 2 count
        go (inl h) = absurd (omega (arith, next-yes h, led.low))
        go (inr h) = sym (split ∙ cond-false _ 0 h)

    pub fitting-turns : (next ≡ 0 → ⊥) → Fitting s v least b count next (left - 1)
    fitting-turns z = go (true-or-false fit)
      where
        go : (fit ≡ true) ⊎ (fit ≡ false) → Fitting s v least b count next (left - 1)
        go (inl h) =
            record {
              low = omega (arith, next-yes h, led.low);
              inside = omega (arith, next-yes h, led.inside, long-end-inside s.epsilon (drop at b) (fits-formed s v least (bytes_at s.epsilon b at) h), length-drop at b);
              same = split ∙ cond-true _ 0 h ∙ ap (λ (n : ℕ). fitting_ends s v least b n (left - 1)) (sym (next-yes h));
            }
        go (inr h) = absurd (z (next-no h))

  pub fitting-ends : left ≤ 0 → at ≡ fitting_ends s v least b 2 count
  unfolding fitting_ends every cut_by end_by
  fitting-ends none = let e : left ≡ 0 = omega arith in sym (led.same ∙ ap (fitting_ends s v least b at) e)

-- ---- the whole

module _ (s : Setup) (v least : ℕ) (b : List ℕ) where
  abbrev all : Bool
  all = every (fits s v least) (long_held_bytes s.epsilon b)

  unsound-walked : long_sound_holdback s v least b ≡ false → Walked s v least b false 0 2
  unsound-walked h = record { sound-is = sym h; known = λ e. absurd (clash e refl); unsound = λ _. (refl, refl) }

  module _ (count : ℕ) (counted : count ≡ two_at b 0) where
    pub walked_many : long_most < count → Walked s v least b false 0 2
    walked_many h = unsound-walked (false-of-no (long_sound_holdback s v least b) (λ t. omega (arith, sound-few s v least b t)))

    abbrev single : Bool
    single = apart same_origin (frames_from s.epsilon b 2 count)

    single-is : apart same_origin (long_held s.epsilon b) ≡ single
    single-is = ap (apart same_origin) (held-from s.epsilon b ∙ ap (frames_from s.epsilon b 2) (sym counted))

    pub walked-twice : single ≡ false → Walked s v least b false 0 2
    walked-twice h = unsound-walked (false-of-no (long_sound_holdback s v least b) (λ t. clash (sound-single s v least b t) (single-is ∙ h)))

    -- what the first walk tells
    module _ (end : ℕ) (ended : end ≡ fitting_ends s v least b 2 count) where
      ended_is : end ≡ cond all (end_from s.epsilon b 2 (two_at b 0)) 0
      unfolding fitting_ends long_held_bytes
      ended_is = ended ∙ ap (fitting_ends s v least b 2) counted

      pub walked-unfit : end ≡ 0 → Walked s v least b false 0 2
      walked-unfit z =
          unsound-walked
          (false-of-no (long_sound_holdback s v least b)
          (λ t. omega (arith, ended_is ∙ cond-true (end_from s.epsilon b 2 (two_at b 0)) 0 (sound-fitting s v least b t), end_low (long_frame_end s.epsilon) b 2 (two_at b 0))))

      all_fit : (end ≡ 0 → ⊥) → (all ≡ true) × (end ≡ end_from s.epsilon b 2 (two_at b 0))
      all_fit z = go (true-or-false all)
        where
          go : (all ≡ true) ⊎ (all ≡ false) → (all ≡ true) × (end ≡ end_from s.epsilon b 2 (two_at b 0))
          go (inl h) = (h, ended_is ∙ cond-true (end_from s.epsilon b 2 (two_at b 0)) 0 h)
          go (inr h) = absurd (z (ended_is ∙ cond-false (end_from s.epsilon b 2 (two_at b 0)) 0 h))

      pub all-stand : (end ≡ 0 → ⊥) → length b ≡ long_holdback_size s → Standing s.epsilon (long_formed s.epsilon) b 2 count
      unfolding long_held_bytes
      all-stand z sized =
          rw counted
          (stand-weaker (λ l t. fits-formed s v least l t)
          (stand s.epsilon (fits s v least) (λ l t. fits-formed s v least l t) b 2 (two_at b 0) (omega (arith, size-two s)) (all_fit z).0))

      pub walked-sound : Bytes b → length b ≡ long_holdback_size s → count ≤ long_most → (end ≡ 0 → ⊥) → single ≡ true → Walked s v least b true count end
      walked-sound clean sized few z apart-all =
          let each : all ≡ true = (all_fit z).0 in
          let most : two_at b 0 ≤ long_most = omega arith in
          let passed : every (long_passes s) (long_held_bytes s.epsilon b) ≡ true = every-mono (fits s v least) (long_passes s) (long_held_bytes s.epsilon b) (λ l t. fits-passes s v least l t) each in
          record {
            sound-is = sym (sound-by s v least b most each (single-is ∙ apart-all));
            known = λ _. rw (counted, (all_fit z).1) (passing-extent s b clean sized most passed);
            unsound = λ e. absurd (clash refl e);
          }

  -- opening it
  module _ {sound : Bool} {count end : ℕ} (walk : Walked s v least b sound count end) where
    pub opening-sound : sound ≡ true → Opening s v least b b 0 count end
    opening-sound h =
        let is : long_sound_holdback s v least b ≡ true = sym walk.sound-is ∙ h in
        record {
          repair-is = sym (cond-true 0 2 is);
          opened-is = sym (cond-true b (long_encode_holdback (length b) []) is);
          held-is = sym (cond-true (long_held s.epsilon b) [] is);
          known = walk.known h;
          single = sound-single s v least b is;
        }

    pub opening-emptied : sound ≡ false → length b ≡ long_holdback_size s → (l : List ℕ) → l ≡ encode_holdback (length b) [] → Opening s v least b l 2 0 2
    unfolding apart
    opening-emptied h sized l made =
        let is : long_sound_holdback s v least b ≡ false = sym walk.sound-is ∙ h in
        let e : l ≡ long_encode_holdback (long_holdback_size s) [] = made ∙ empty-same (length b) ∙ ap (λ (n : ℕ). long_encode_holdback n []) sized in
        let none : long_held s.epsilon l ≡ [] = empty-held s l e in
        record {
          repair-is = sym (cond-false 0 2 is);
          opened-is = made ∙ empty-same (length b) ∙ sym (cond-false b (long_encode_holdback (length b) []) is);
          held-is = none ∙ sym (cond-false (long_held s.epsilon b) [] is);
          known = empty-extent s l e;
          single = ap (apart same_origin) none;
        }
