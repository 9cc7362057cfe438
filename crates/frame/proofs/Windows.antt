-- The frame at the front of a window, which is taken to end where its counts say: its places are those of the window. Assumes nothing.
use mathlib.Core.Path.{◌≡◌, sym, ap, ◌∙◌}
use mathlib.Core.Bool.{Bool, true, false, ◌&&◌}
use mathlib.Core.List.{List, [], ◌∷◌}
use Prim.Native.Nat.{ℕ, ◌+◌, ◌*◌, ◌-◌, ◌≤◌, ◌<◌}
use native.Mathlib.Omega.{arith}
use lib.Dec.{eqb, ltb}
use lib.ListN.{length, take, drop, get_or, length-drop}
use lib.Seq.{get_or-take, length-take-le, take-take}
use borrow.Author.Tests.{eq-eqb, ne_eqb, lt-leb, le-leb}
use Rattle.laws.proofs.Numbers.{and-true, and-false}
use Rattle.laws.proofs.Lists.{drop-take, length-tab}
use Rattle.model.specs.Setup.{Setup, width}
use Rattle.model.specs.Timestamp.{sound_timestamp}
use Rattle.model.specs.Frame.{well_formed, frame_end, payload_count_at, two_at, counts_of, decode}
use Rattle.model.specs.Question.{Question, ask, first_no, ask_range, ask_stamp, frame_questions}
use Rattle.lemmas.proofs.Questions.{yes-cons, no-cons}
use Rattle.timestamp.specs.Views.{of_counts}
use Rattle.timestamp.specs.Window.{ceiling_at, ceilings_of}
use Rattle.frame.proofs.Asking.{form-right, stamp-no, stamp-sound}

module _ (epsilon : ℕ) (w : List ℕ) where
  abbrev pub frame_in : List ℕ
  frame_in = take (frame_end epsilon w) w

  pub end_is : frame_end epsilon w ≡ 7 + 2 * epsilon + get_or w (6 + 2 * epsilon) 0
  unfolding frame_end payload_count_at width
  end_is = omega arith

  -- what stands before the payload
  same_place : (i : ℕ) → i < 7 + 2 * epsilon → get_or frame_in i 0 ≡ get_or w i 0
  same_place i h = get_or-take (frame_end epsilon w) w i 0 (omega (arith, end_is))

  -- nothing is left over of a frame that ends in the window
  ends_there : frame_end epsilon w ≤ length w → length frame_in ≡ frame_end epsilon frame_in
  unfolding frame_end payload_count_at width
  ends_there ends =
      length-take-le (frame_end epsilon w) w ends
      ∙ ap (λ (k : ℕ). 6 + 2 * epsilon + 1 + k) (sym (same_place (6 + 2 * epsilon) (omega arith)))

  -- the three counts, the last one first
  pub long-no : 32 < get_or w (6 + 2 * epsilon) 0 → false ≡ well_formed epsilon frame_in
  unfolding well_formed payload_count_at width
  long-no h =
      rw (
        same_place 0 (omega arith),
        same_place 4 (omega arith),
        same_place (6 + 2 * epsilon) (omega arith),
        lt-leb (get_or w (6 + 2 * epsilon) 0) 32 h,
        and-false (eqb (get_or w 4 0) (1 + 2 * epsilon)),
        and-false (eqb (get_or w 0 0) 3),
      )

  pub second-no : (get_or w 4 0 ≡ 1 + 2 * epsilon → ⊥) → false ≡ well_formed epsilon frame_in
  unfolding well_formed width
  second-no h =
      rw (
        same_place 0 (omega arith),
        same_place 4 (omega arith),
        ne_eqb (get_or w 4 0) (1 + 2 * epsilon) h,
        and-false (eqb (get_or w 0 0) 3),
      )

  pub first-decides : 39 + 2 * epsilon ≤ length w → get_or w (6 + 2 * epsilon) 0 ≤ 32 → get_or w 4 0 ≡ 1 + 2 * epsilon → eqb (get_or w 0 0) 3 ≡ well_formed epsilon frame_in
  unfolding well_formed payload_count_at width
  first-decides room h k =
      rw (
        same_place 0 (omega arith),
        same_place 4 (omega arith),
        eq-eqb (get_or w 4 0) (1 + 2 * epsilon) k,
        same_place (6 + 2 * epsilon) (omega arith),
        le-leb (get_or w (6 + 2 * epsilon) 0) 32 h,
        eq-eqb (length frame_in) (frame_end epsilon frame_in) (ends_there (omega (arith, end_is))),
      )
      (sym (and-true (eqb (get_or w 0 0) 3)))

  -- the counts of the stamp
  counts-there : epsilon ≤ 16 → take (2 * epsilon) (take 33 (drop 6 w)) ≡ counts_of epsilon frame_in
  unfolding counts_of width
  counts-there narrow =
      let m = frame_end epsilon w - 6 in
      let split : frame_end epsilon w ≡ 6 + m = omega (arith, end_is) in
      let wide : 2 * epsilon ≤ m = omega (arith, end_is) in
      let inside : 2 * epsilon ≤ 33 = omega arith in
      take-take (2 * epsilon) 33 (drop 6 w) inside
      ∙ sym (take-take (2 * epsilon) m (drop 6 w) wide)
      ∙ ap (take (2 * epsilon)) (sym (drop-take 6 m w))
      ∙ ap (λ (k : ℕ). take (2 * epsilon) (drop 6 (take k w))) (sym split)

module _ (s : Setup) (w : List ℕ) where
  abbrev bytes : List ℕ
  bytes = take (frame_end s.epsilon w) w

  place : (i : ℕ) → i < 7 → get_or bytes i 0 ≡ get_or w i 0
  place i h = same_place s.epsilon w i (omega arith)

  -- 11: the station and r
  abbrev pub ranged : Bool
  ranged = ltb (get_or w 1 0) s.n && ltb (two_at w 2) s.modulus

  same-range : ask_range s (decode s.epsilon bytes) ≡ ask ranged 11
  unfolding ask_range decode two_at
  same-range = rw (place 1 (omega arith), place 2 (omega arith), place 3 (omega arith))

  module _ (formed : well_formed s.epsilon bytes ≡ true) where
    asked : first_no (frame_questions s bytes) ≡ first_no (ask ranged 11 ∷ ask_stamp s (decode s.epsilon bytes) ∷ [])
    asked =
        form-right s bytes formed
        ∙ ap (λ (q : Question). first_no (q ∷ ask_stamp s (decode s.epsilon bytes) ∷ [])) same-range

    pub range-no : ranged ≡ false → first_no (frame_questions s bytes) ≡ 11
    range-no h = asked ∙ no-cons ranged 11 (ask_stamp s (decode s.epsilon bytes) ∷ []) h

    module _ (inside : ranged ≡ true) where
      -- 12: with c, the counts of the window decide
      abbrev pub stamp_sound : Bool
      stamp_sound = sound_timestamp s.n s.epsilon (of_counts (get_or w 5 0) (take (2 * s.epsilon) (take 33 (drop 6 w))))

      same-stamp : s.epsilon ≤ 16 → stamp_sound ≡ sound_timestamp s.n s.epsilon (decode s.epsilon bytes).stamp
      unfolding sound_timestamp decode
      same-stamp narrow = rw (counts-there s.epsilon w narrow, place 5 (omega arith))

      left : first_no (frame_questions s bytes) ≡ first_no (ask_stamp s (decode s.epsilon bytes) ∷ [])
      left = asked ∙ yes-cons ranged 11 (ask_stamp s (decode s.epsilon bytes) ∷ []) inside

      pub window-no : s.epsilon ≤ 16 → stamp_sound ≡ false → first_no (frame_questions s bytes) ≡ 12
      window-no narrow h = left ∙ stamp-no s (decode s.epsilon bytes) [] (sym (same-stamp narrow) ∙ h)

      pub window-right : s.epsilon ≤ 16 → stamp_sound ≡ true → first_no (frame_questions s bytes) ≡ 0
      unfolding first_no
      window-right narrow h = left ∙ stamp-sound s (decode s.epsilon bytes) [] (sym (same-stamp narrow) ∙ h)

-- what is lent to the question
pub ceilings-long : (n epsilon : ℕ) (limits : List ℕ) → limits ≡ ceilings_of n epsilon → length limits ≡ 96
unfolding ceilings_of
ceilings-long n epsilon limits e = ap length e ∙ length-tab 96 (ceiling_at n epsilon)

pub window-long : (w : List ℕ) → 39 ≤ length w → 32 ≤ length (take 33 (drop 6 w))
window-long w h =
    let longer : 33 ≤ length (drop 6 w) = omega (arith, length-drop 6 w) in
    omega (arith, length-take-le 33 (drop 6 w) longer)
