-- 02, 2.10: frames of two widths. What is written reads back the same, whichever width it has; 10 to 12 by a tick's limits over the frame's own
-- counts; and a shelf of such frames. A frame's half width is a number here as elsewhere: only which of the two it is goes by the schedule.
-- Assumes nothing.
use Prim.Native.Nat.{ℕ, suc, ◌+◌, ◌-◌, ◌≤◌, ◌<◌}
use native.Mathlib.Omega.{arith}
use mathlib.Core.Path.{◌≡◌, refl, sym, ap, subst, ◌∙◌}
use mathlib.Core.Logic.{◌⊎◌, inl, inr}
use mathlib.Core.Bool.{true, ◌&&◌}
use mathlib.Core.List.{List, [], ◌∷◌, ◌++◌, map, append-nil, Memᴰ}
use lib.Dec.{leb, ltb, eqb}
use lib.ListN.{length, drop, get_or, length-map}
use borrow.Author.Tests.{le-leb, lt-ltb, eq-eqb, ne_eqb, leb-true, ltb-true, eqb-true}
use Rattle.laws.specs.Lists.{every, placed_at, padded}
use Rattle.laws.proofs.Numbers.{lt-or-ge, eq-or-ne, and_intro, and_left, and_right}
use Rattle.laws.proofs.Lists.{length-padded}
use Rattle.model.specs.Setup.{Setup, width, depth, longest_frame, holdback_length}
use Rattle.model.specs.Timestamp.{Timestamp, count_at, at_most, sound_timestamp}
use Rattle.model.specs.Frame.{Frame, two_at, encode, decode, frame_end, well_formed}
use Rattle.model.specs.Question.{Question, ask, first_no, ask_range}
use Rattle.model.specs.Holdback.{encode_frames, encode_holdback}
use Rattle.model.specs.Tick.{holdback_size}
use Rattle.model.specs.Schedule.{Schedule, steady, widening, widest_of, own_limits, half_of}
use Rattle.model.specs.Wider.{half_in, wider_formed, wider_decode, wider_end, frame_half, sound_within, questions_within, wider_frame_questions, wider_held_bytes, wider_held, wider_passes}
use Rattle.lemmas.proofs.Bounds.{Sound}
use Rattle.lemmas.proofs.Counts.{count_past, sound-from, sound-to}
use Rattle.lemmas.proofs.RoundTrip.{encode-bytes, length-encode, decode-encode, frame-end, well-formed-encode, encode-decode, formed-from, decode-wide, decode-payload, none-no, cut-frames, length-cut-by, decode-each, length-frames}
use Rattle.lemmas.proofs.Schedules.{Good}

-- ---- the two half widths

-- one of a schedule's
abbrev pub Half : Schedule → ℕ → Type 0
Half (steady s) half = half ≡ s.epsilon
Half (widening before after change) half = (half ≡ before.epsilon) ⊎ (half ≡ after.epsilon)

-- whatever number of counts is given
pub half-one : (g : Schedule) (count : ℕ) → Half g (half_of g count)
half-one (steady s) count = refl
half-one (widening before after change) count =
    elim (eq-or-ne count (width after.epsilon)) [
      | inl e ↦ inr (rw (eq-eqb count (width after.epsilon) e))
      | inr e ↦ inl (rw (ne_eqb count (width after.epsilon) e))
    ]

-- and where it is that of one of them, it is that one
width-injective : (a b : ℕ) → width a ≡ width b → a ≡ b
unfolding width
width-injective a b e = omega arith

pub half_back : (g : Schedule) (half : ℕ) → Half g half → half_of g (width half) ≡ half
half_back (steady s) half h = sym h
half_back (widening before after change) half (inr e) = rw (eq-eqb (width half) (width after.epsilon) (ap width e)) (sym e)
half_back (widening before after change) half (inl e) =
    elim (eq-or-ne (width half) (width after.epsilon)) [
      | inl q ↦ rw (eq-eqb (width half) (width after.epsilon) q) (sym (width-injective half after.epsilon q))
      | inr q ↦ rw (ne_eqb (width half) (width after.epsilon) q) (sym e)
    ]

pub half-some : (g : Schedule) → Good g → (half : ℕ) → Half g half → (1 ≤ half) × (half ≤ (widest_of g).epsilon)
half-some (steady s) good half h = (omega (arith, good.epsilon-pos), omega arith)
half-some (widening before after change) good half (inl e) = (omega (arith, good.old.epsilon-pos), omega (arith, good.epsilon))
half-some (widening before after change) good half (inr e) = (omega (arith, good.new.epsilon-pos), omega arith)

-- ---- one frame

-- its counts are as many as its half width says
abbrev pub HasWidth : Schedule → Frame → Type 0
HasWidth g f = length f.stamp.kn ≡ width (frame_half g f)

pub has_width_lem : (g : Schedule) (half : ℕ) (f : Frame) → Half g half → length f.stamp.kn ≡ width half → (frame_half g f ≡ half) × HasWidth g f
has_width_lem g half f h wide =
    let e : frame_half g f ≡ half = ap (half_of g) wide ∙ half_back g half h in
    (e, wide ∙ ap width (sym e))

-- the half width is written in its bytes, whatever stands behind them
half-written : (g : Schedule) (f : Frame) (rest : List ℕ) → half_in g (encode f ++ rest) ≡ frame_half g f
half-written g f rest =
    ap (λ (l : List ℕ). half_of g (get_or (l ++ rest) 4 0 - 1)) (encode-bytes f)
    ∙ ap (half_of g) (let e : suc (length f.stamp.kn) - 1 ≡ length f.stamp.kn = omega arith in e)

half-encoded : (g : Schedule) (f : Frame) → half_in g (encode f) ≡ frame_half g f
half-encoded g f = subst (λ (l : List ℕ). half_in g l ≡ frame_half g f) (append-nil (encode f)) (half-written g f [])

-- both round trips, for each width
pub wide-decode : (g : Schedule) (f : Frame) → HasWidth g f → wider_decode g (encode f) ≡ f
unfolding wider_decode
wide-decode g f wide = ap (λ (half : ℕ). decode half (encode f)) (half-encoded g f) ∙ decode-encode (frame_half g f) f wide

pub wide-encode : (g : Schedule) (bytes : List ℕ) → every (λ b. ltb b 256) bytes ≡ true → wider_formed g bytes ≡ true → encode (wider_decode g bytes) ≡ bytes
unfolding wider_decode wider_formed
wide-encode g bytes small formed = encode-decode (half_in g bytes) bytes small formed

-- where it ends
pub wide-end : (g : Schedule) (f : Frame) (rest : List ℕ) → HasWidth g f → wider_end g (encode f ++ rest) ≡ length (encode f)
unfolding wider_end
wide-end g f rest wide =
    ap (λ (half : ℕ). frame_end half (encode f ++ rest)) (half-written g f rest) ∙ frame-end (frame_half g f) f rest wide

-- question 10, both ways
pub wide-formed : (g : Schedule) (f : Frame) → HasWidth g f → length f.payload ≤ 32 → wider_formed g (encode f) ≡ true
unfolding wider_formed
wide-formed g f wide short =
    ap (λ (half : ℕ). well_formed half (encode f)) (half-encoded g f) ∙ well-formed-encode (frame_half g f) f wide short

-- what is read has one of the two widths
pub formed-wide : (g : Schedule) (bytes : List ℕ) → wider_formed g bytes ≡ true → HasWidth g (wider_decode g bytes) × (length (wider_decode g bytes).payload ≤ 32)
unfolding wider_formed wider_decode
formed-wide g bytes formed =
    let half = half_in g bytes in
    let o = formed-from half bytes formed in (
      (has_width_lem g half (decode half bytes) (half-one g (get_or bytes 4 0 - 1)) (decode-wide half bytes o)).1,
      rw (decode-payload half bytes o) o.third,
    )

-- ---- question 12

-- a stamp that is sound by an ε over its own counts is a sound one of its own width, with c below that ε: where counts are missing none is at c
pub within-from : (n epsilon half : ℕ) (t : Timestamp) → 1 ≤ epsilon → 1 ≤ half → length t.kn ≡ width half → sound_within n epsilon half t ≡ true → Sound n half t × (t.c < epsilon)
unfolding sound_within sound_timestamp count_at width
within-from n epsilon half t some some' wide h =
    let low : t.c ≤ epsilon - 1 = leb-true t.c (epsilon - 1) (and_left (leb t.c (epsilon - 1)) _ h) in
    let rest = and_right (leb t.c (epsilon - 1)) _ h in
    let top : 1 ≤ placed_at 0 t.kn (t.c + half) =
    leb-true 1 (placed_at 0 t.kn (t.c + half)) (and_left (leb 1 (placed_at 0 t.kn (t.c + half))) _ (and_right (at_most n t.kn) _ rest)) in
    let close : t.c < half =
    elim (lt-or-ge t.c half) [
      | inl k ↦ k
      | inr k ↦ absurd (let z : placed_at 0 t.kn (t.c + half) ≡ 0 = count_past 0 t.kn (t.c + half) (omega arith) in omega arith)
    ] in
    (sound-from n half t some' wide (and_intro (le-leb t.c (half - 1) (omega arith)) rest), omega arith)

pub within-to : (n epsilon half : ℕ) (t : Timestamp) → Sound n half t → t.c < epsilon → sound_within n epsilon half t ≡ true
unfolding sound_within sound_timestamp
within-to n epsilon half t sound close =
    and_intro (le-leb t.c (epsilon - 1) (omega arith)) (and_right (leb t.c (half - 1)) _ (sound-to n half t sound))

-- ---- questions 10 to 12

-- a frame that passes 10 to 12, by the limits given
pub record FrameWithin (g : Schedule) (s : Setup) (f : Frame) : Type 0 where
  pub station-below : f.station < s.n
  pub r-below : f.stamp.r < s.modulus
  pub wide : HasWidth g f
  pub sound : Sound s.n (frame_half g f) f.stamp
  pub close : f.stamp.c < s.epsilon
  pub short : length f.payload ≤ 32

module _ (g : Schedule) (s : Setup) where
  -- with others behind them, both ways
  pub within-passes : (f : Frame) (qs : List Question) → FrameWithin g s f → first_no (questions_within g s s.epsilon (encode f) ++ qs) ≡ first_no qs
  unfolding first_no ask_range
  within-passes f qs ok =
      rw (
        wide-decode g f ok.wide,
        wide-formed g f ok.wide ok.short,
        lt-ltb f.station s.n ok.station-below,
        lt-ltb f.stamp.r s.modulus ok.r-below,
        within-to s.n s.epsilon (frame_half g f) f.stamp ok.sound ok.close,
      )

  pub within-passed : (bytes : List ℕ) (qs : List Question) → Good g → 1 ≤ s.epsilon → first_no (questions_within g s s.epsilon bytes ++ qs) ≡ 0 → FrameWithin g s (wider_decode g bytes) × (first_no qs ≡ 0)
  unfolding ask_range
  within-passed bytes qs good some e =
      let f = wider_decode g bytes in
      let stamp : Question = ask (sound_within s.n s.epsilon (frame_half g f) f.stamp) 12 in
      let q10 = none-no (wider_formed g bytes) 9 (ask_range s f ∷ stamp ∷ qs) e in
      let q11 = none-no (ltb f.station s.n && ltb f.stamp.r s.modulus) 10 (stamp ∷ qs) q10.1 in
      let q12 = none-no (sound_within s.n s.epsilon (frame_half g f) f.stamp) 11 qs q11.1 in
      let o = formed-wide g bytes q10.0 in
      let t = within-from s.n s.epsilon (frame_half g f) f.stamp some (half-some g good (frame_half g f) (half-one g (length f.stamp.kn))).0 o.0 q12.0 in (
        record {
          station-below = ltb-true f.station s.n (and_left (ltb f.station s.n) (ltb f.stamp.r s.modulus) q11.0);
          r-below = ltb-true f.stamp.r s.modulus (and_right (ltb f.station s.n) (ltb f.stamp.r s.modulus) q11.0);
          wide = o.0;
          sound = t.0;
          close = t.1;
          short = o.1;
        },
        q12.1,
      )

-- by the limits of a tick's own clock
pub wide-passes : (g : Schedule) (f : Frame) → FrameWithin g (own_limits g) f → wider_passes g (encode f) ≡ true
unfolding wider_passes wider_frame_questions first_no
wide-passes g f ok = ap (λ (n : ℕ). eqb n 0) (within-passes g (own_limits g) f [] ok)

pub passes-wide : (g : Schedule) (bytes : List ℕ) → Good g → 1 ≤ (own_limits g).epsilon → wider_passes g bytes ≡ true → FrameWithin g (own_limits g) (wider_decode g bytes)
unfolding wider_passes wider_frame_questions
passes-wide g bytes good some h = (within-passed g (own_limits g) bytes [] good some (eqb-true (first_no (wider_frame_questions g bytes)) 0 h)).0

-- ---- a shelf

module _ (g : Schedule) (queue : List Frame) (wide : (f : Frame) → Memᴰ f queue → HasWidth g f) where
  pub wide-held-bytes : (rest : List ℕ) → wider_held_bytes g (encode_frames queue ++ rest) ≡ map encode queue
  unfolding wider_held_bytes encode_frames
  wide-held-bytes rest = cut-frames (wider_end g) encode queue rest (λ f m l. wide-end g f l (wide f m))

  pub wide-held : (rest : List ℕ) → wider_held g (encode_frames queue ++ rest) ≡ queue
  unfolding wider_held
  wide-held rest = ap (map (wider_decode g)) (wide-held-bytes rest) ∙ decode-each (wider_decode g) encode queue (λ f m. wide-decode g f (wide f m))

  pub wide-holdback : (size : ℕ) → wider_held g (encode_holdback size queue) ≡ queue
  unfolding encode_holdback padded
  wide-holdback size = wide-held _

-- a shelf holds as many frames as its count says
pub length-wide-held : (g : Schedule) (bytes : List ℕ) → length (wider_held g bytes) ≡ two_at bytes 0
unfolding wider_held wider_held_bytes
length-wide-held g bytes = length-map (wider_held_bytes g bytes) (wider_decode g) ∙ length-cut-by (wider_end g) (two_at bytes 0) (drop 2 bytes)

-- a frame of either width has the longest length at most, and the shelf its size
pub wide_fits : (g : Schedule) (s : Setup) (f : Frame) → Good g → FrameWithin g s f → length (encode f) ≤ longest_frame (widest_of g).epsilon
unfolding longest_frame width
wide_fits g s f good ok =
    omega (arith, length-encode f, ok.wide, ok.short, (half-some g good (frame_half g f) (half-one g (length f.stamp.kn))).1)

pub length-wide-holdback :
    (g : Schedule) (s : Setup) (queue : List Frame) → Good g → ((f : Frame) → Memᴰ f queue → FrameWithin g s f)
    → length queue ≤ depth (widest_of g).n (widest_of g).epsilon (widest_of g).delta
    → length (encode_holdback (holdback_size (widest_of g)) queue) ≡ holdback_size (widest_of g)
unfolding encode_holdback encode_frames holdback_length
length-wide-holdback g s queue good ok few =
    length-padded _ (encode_frames queue)
    (length-frames encode queue (longest_frame (widest_of g).epsilon) (depth (widest_of g).n (widest_of g).epsilon (widest_of g).delta) (λ f m. wide_fits g s f good (ok f m)) few)
