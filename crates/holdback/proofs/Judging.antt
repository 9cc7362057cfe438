-- Soundness of a queue, frame by frame.
-- Assumes nothing.
use Rattle.std.proofs.Common.{◌≡◌, ℕ, zero, suc, ◌<◌, ◌≤◌, Bool, true, false, not, ◌&&◌, leb, List, sym, refl, ap, ◌∙◌, ap₂, not-suc-le-zero, arith, le-leb, leb-true}
use Rattle.laws.specs.Lists.{tab, every, any, chained, apart}
use Rattle.laws.proofs.Numbers.{and_intro, and_left, and_right, or-false-left, or-false-right, or-false-intro, not_of_false, false_of_not}
use Rattle.laws.proofs.Lists.{length-tab, get_or-tab, every-index, every-mono, every-tab}
use Rattle.laws.proofs.Sorted.{pairwise-of-index, apart-index, apart-of-pairwise}
use Rattle.model.specs.Setup.{Setup, depth}
use Rattle.model.specs.Frame.{Frame, two_at, decode}
use Rattle.model.specs.Order.{before, due_near}
use Rattle.model.specs.Holdback.{held_bytes, held, passes, not_early, not_expired, same_origin, sound_holdback}
use Rattle.lemmas.proofs.Queue.{origin-sym}
use Rattle.holdback.specs.Queue.{bytes_at, frame_at}
use Rattle.holdback.specs.Sound.{fits, follows, is_new, frame_sound}
use Rattle.holdback.proofs.RoundTrip.{passing}
use Rattle.holdback.proofs.Frames.{held_bytes-tab, held-tab, FormedUpTo}

-- ---- tests of a list that is given by its entries

module _ {A : Type 0} where
  pub every-tab-at : (p : A → Bool) (n : ℕ) (f : ℕ → A) → every p (tab n f) ≡ true → (i : ℕ) → i < n → p (f i) ≡ true
  every-tab-at p n f h i k =
      ap p (sym (get_or-tab n f i (f 0) k)) ∙ every-index p (tab n f) (f 0) h i (rw (length-tab n f) k)

  chained-tab-at : (p : A → A → Bool) (n : ℕ) (f : ℕ → A) → chained p (tab n f) ≡ true → (i : ℕ) → suc i < n → p (f i) (f (suc i)) ≡ true
  unfolding chained tab
  chained-tab-at p zero f h i k = absurd (not-suc-le-zero k)
  chained-tab-at p (suc zero) f h i k = absurd (omega arith)
  chained-tab-at p (suc (suc n)) f h zero k = and_left (p (f 0) (f 1)) _ h
  chained-tab-at p (suc (suc n)) f h (suc i) k =
      chained-tab-at p (suc n) (λ j. f (suc j)) (and_right (p (f 0) (f 1)) _ h) i (omega arith)

  chained-tab : (p : A → A → Bool) (n : ℕ) (f : ℕ → A) → ((i : ℕ) → suc i < n → p (f i) (f (suc i)) ≡ true) → chained p (tab n f) ≡ true
  unfolding chained tab
  chained-tab p zero f h = refl
  chained-tab p (suc zero) f h = refl
  chained-tab p (suc (suc n)) f h =
      and_intro (h 0 (omega arith)) (chained-tab p (suc n) (λ j. f (suc j)) (λ i k. h (suc i) (omega arith)))

  any-tab-at : (p : A → Bool) (n : ℕ) (f : ℕ → A) → any p (tab n f) ≡ false → (i : ℕ) → i < n → p (f i) ≡ false
  unfolding any tab
  any-tab-at p zero f h i k = absurd (not-suc-le-zero k)
  any-tab-at p (suc n) f h zero k = or-false-left (p (f 0)) (any p (tab n (λ j. f (suc j)))) h
  any-tab-at p (suc n) f h (suc i) k =
      any-tab-at p n (λ j. f (suc j)) (or-false-right (p (f 0)) (any p (tab n (λ j. f (suc j)))) h) i (omega arith)

  any-tab : (p : A → Bool) (n : ℕ) (f : ℕ → A) → ((i : ℕ) → i < n → p (f i) ≡ false) → any p (tab n f) ≡ false
  unfolding any tab
  any-tab p zero f h = refl
  any-tab p (suc n) f h = or-false-intro (h 0 (omega arith)) (any-tab p n (λ j. f (suc j)) (λ i k. h (suc i) (omega arith)))

  apart-tab-at : (same : A → A → Bool) (n : ℕ) (f : ℕ → A) → apart same (tab n f) ≡ true → (i j : ℕ) → i < j → j < n → same (f i) (f j) ≡ false
  apart-tab-at same n f h i j k l =
      ap₂ same (sym (get_or-tab n f i (f 0) (omega arith))) (sym (get_or-tab n f j (f 0) l))
      ∙ apart-index same (tab n f) (f 0) h i j k (rw (length-tab n f) l)

  apart-tab : (same : A → A → Bool) (n : ℕ) (f : ℕ → A) → ((i j : ℕ) → i < j → j < n → same (f i) (f j) ≡ false) → apart same (tab n f) ≡ true
  apart-tab same n f h =
      apart-of-pairwise same (tab n f)
      (pairwise-of-index (λ x y. not (same x y)) (tab n f) (f 0)
      (λ i j k l.
      let m : j < n = rw (length-tab n f) at l in
      ap₂ (λ (x y : A). not (same x y)) (get_or-tab n f i (f 0) (omega arith)) (get_or-tab n f j (f 0) m)
      ∙ not_of_false (h i j k m)))

-- ---- one frame

-- what is asked of a frame alone
pub record Fitting (s : Setup) (v least : ℕ) (bytes : List ℕ) : Type 0 where
  pub passed : passes s bytes ≡ true
  pub early : not_early s v (decode s.epsilon bytes) ≡ true
  pub expired : not_expired s v least (decode s.epsilon bytes) ≡ true

pub fitting : (s : Setup) (v least : ℕ) (bytes : List ℕ) → fits s v least bytes ≡ true → Fitting s v least bytes
unfolding fits
fitting s v least bytes h =
    let f = decode s.epsilon bytes in
    let t = and_right (passes s bytes) (not_early s v f && not_expired s v least f) h in
    record {
      passed = and_left (passes s bytes) (not_early s v f && not_expired s v least f) h;
      early = and_left (not_early s v f) (not_expired s v least f) t;
      expired = and_right (not_early s v f) (not_expired s v least f) t;
    }

-- ---- the queue

module _ (s : Setup) (v least : ℕ) (b : List ℕ) where
  abbrev frame : ℕ → Frame
  frame = frame_at s.epsilon b

  frame-parts : (k : ℕ) → frame_sound s v least b k ≡ true → (fits s v least (bytes_at s.epsilon b k) ≡ true) × (follows s v b k ≡ true) × (is_new s b k ≡ true)
  unfolding frame_sound
  frame-parts k h =
      let t = and_right (fits s v least (bytes_at s.epsilon b k)) (follows s v b k && is_new s b k) h in (
        and_left (fits s v least (bytes_at s.epsilon b k)) (follows s v b k && is_new s b k) h,
        and_left (follows s v b k) (is_new s b k) t,
        and_right (follows s v b k) (is_new s b k) t,
      )

  pub frame-fits : (k : ℕ) → frame_sound s v least b k ≡ true → fits s v least (bytes_at s.epsilon b k) ≡ true
  frame-fits k h = (frame-parts k h).0

  pub frame-follows : (k : ℕ) → frame_sound s v least b k ≡ true → follows s v b k ≡ true
  frame-follows k h = (frame-parts k h).1

  pub frame-new : (k : ℕ) → frame_sound s v least b k ≡ true → is_new s b k ≡ true
  frame-new k h = (frame-parts k h).2

  fit : (k : ℕ) → frame_sound s v least b k ≡ true → Fitting s v least (bytes_at s.epsilon b k)
  fit k h = fitting s v least (bytes_at s.epsilon b k) (frame-fits k h)

  -- enough that the count is in its bound and each frame is sound
  pub sound-by : two_at b 0 ≤ depth s.n s.epsilon s.delta → ((k : ℕ) → k < two_at b 0 → frame_sound s v least b k ≡ true) → sound_holdback s v least b ≡ true
  unfolding sound_holdback follows is_new frame_at
  sound-by few each =
      let n : ℕ = two_at b 0 in
      let epsilon : ℕ = s.epsilon in
      rw (held_bytes-tab epsilon b, held-tab epsilon b, le-leb n (depth s.n epsilon s.delta) few)
      (and_intro (every-tab (passes s) n (bytes_at epsilon b) (λ k h. (fit k (each k h)).passed))
      (and_intro (chained-tab (before s v) n frame (λ k h. frame-follows (suc k) (each (suc k) h)))
      (and_intro
      (apart-tab same_origin n frame
      (λ i j h l.
      origin-sym (frame i) (frame j)
      ∙ any-tab-at (same_origin (frame j)) j frame (false_of_not (any (same_origin (frame j)) (tab j frame)) (frame-new j (each j l))) i h))
      (and_intro (every-tab (not_early s v) n frame (λ k h. (fit k (each k h)).early))
      (every-tab (not_expired s v least) n frame (λ k h. (fit k (each k h)).expired))))))

  module _ (h : sound_holdback s v least b ≡ true) where
    abbrev rest : Bool
    rest =
        every (passes s) (held_bytes s.epsilon b)
        && (chained (before s v) (held s.epsilon b) && (apart same_origin (held s.epsilon b)
        && (every (not_early s v) (held s.epsilon b) && every (not_expired s v least) (held s.epsilon b))))

    pub sound-few : two_at b 0 ≤ depth s.n s.epsilon s.delta
    unfolding sound_holdback
    sound-few =
        leb-true (two_at b 0) (depth s.n s.epsilon s.delta) (and_left (leb (two_at b 0) (depth s.n s.epsilon s.delta)) rest h)

    pub sound-passes : every (passes s) (held_bytes s.epsilon b) ≡ true
    unfolding sound_holdback
    sound-passes = and_left _ _ (and_right (leb (two_at b 0) (depth s.n s.epsilon s.delta)) rest h)

    rest-2 : (chained (before s v) (held s.epsilon b) && (apart same_origin (held s.epsilon b)
        && (every (not_early s v) (held s.epsilon b) && every (not_expired s v least) (held s.epsilon b)))) ≡ true
    unfolding sound_holdback
    rest-2 =
        and_right (every (passes s) (held_bytes s.epsilon b)) _ (and_right (leb (two_at b 0) (depth s.n s.epsilon s.delta)) rest h)

    pub sound-ordered : chained (before s v) (held s.epsilon b) ≡ true
    sound-ordered = and_left _ _ rest-2

    rest-3 : (apart same_origin (held s.epsilon b)
        && (every (not_early s v) (held s.epsilon b) && every (not_expired s v least) (held s.epsilon b))) ≡ true
    rest-3 = and_right (chained (before s v) (held s.epsilon b)) _ rest-2

    pub sound-single : apart same_origin (held s.epsilon b) ≡ true
    sound-single = and_left _ _ rest-3

    rest-4 : (every (not_early s v) (held s.epsilon b) && every (not_expired s v least) (held s.epsilon b)) ≡ true
    rest-4 = and_right (apart same_origin (held s.epsilon b)) _ rest-3

    sound-early : every (not_early s v) (held s.epsilon b) ≡ true
    sound-early = and_left _ _ rest-4

    pub sound-expired : every (not_expired s v least) (held s.epsilon b) ≡ true
    sound-expired = and_right (every (not_early s v) (held s.epsilon b)) _ rest-4

    -- it is sound by any lesser due clock too
    pub sound-lower : (least' : ℕ) → least' ≤ least → sound_holdback s v least' b ≡ true
    unfolding sound_holdback not_expired
    sound-lower least' lower =
        and_intro (le-leb (two_at b 0) (depth s.n s.epsilon s.delta) sound-few)
        (and_intro sound-passes
        (and_intro sound-ordered
        (and_intro sound-single
        (and_intro sound-early
        (every-mono (not_expired s v least) (not_expired s v least') (held s.epsilon b)
        (λ f o. le-leb least' (due_near s v f) (omega (arith, leb-true least (due_near s v f) o))) sound-expired)))))

    -- each frame of a sound queue is sound
    follows-at : (k : ℕ) → k < two_at b 0 → follows s v b k ≡ true
    unfolding follows
    follows-at zero l = refl
    follows-at (suc k) l =
        chained-tab-at (before s v) (two_at b 0) frame (rw (held-tab s.epsilon b) at sound-ordered) k l

    new-at : (k : ℕ) → k < two_at b 0 → is_new s b k ≡ true
    unfolding is_new
    new-at k l =
        not_of_false
        (any-tab (same_origin (frame k)) k frame
        (λ i m.
        origin-sym (frame k) (frame i)
        ∙ apart-tab-at same_origin (two_at b 0) frame (rw (held-tab s.epsilon b) at sound-single) i k m l))

    fits-at : (k : ℕ) → k < two_at b 0 → fits s v least (bytes_at s.epsilon b k) ≡ true
    unfolding fits frame_at
    fits-at k l =
        and_intro (every-tab-at (passes s) (two_at b 0) (bytes_at s.epsilon b) (rw (held_bytes-tab s.epsilon b) at sound-passes) k l)
        (and_intro (every-tab-at (not_early s v) (two_at b 0) frame (rw (held-tab s.epsilon b) at sound-early) k l)
        (every-tab-at (not_expired s v least) (two_at b 0) frame (rw (held-tab s.epsilon b) at sound-expired) k l))

    pub sound-frames : (k : ℕ) → k < two_at b 0 → frame_sound s v least b k ≡ true
    unfolding frame_sound
    sound-frames k l = and_intro (fits-at k l) (and_intro (follows-at k l) (new-at k l))

  -- each frame of the first k is well-formed
  pub sound-formed : (k : ℕ) → ((i : ℕ) → i < k → frame_sound s v least b i ≡ true) → FormedUpTo s.epsilon b k
  sound-formed k each i l = (passing s (bytes_at s.epsilon b i) (fit i (each i l)).passed).well
