-- Reader and writer with both pairs, behind 1 and 19: the plain ones of the pair that has the width. Assumes nothing.
use Prim.Native.Nat.{ℕ, zero, suc, ◌-◌}
use native.Mathlib.Omega.{arith}
use mathlib.Core.Path.{◌≡◌, refl, sym, ap, ap₂, subst, ◌∙◌}
use mathlib.Core.Bool.{Bool, true, false, ◌&&◌, cond}
use mathlib.Core.Logic.{inl, inr}
use mathlib.Core.List.{List, [], ◌∷◌}
use lib.Dec.{ltb}
use lib.ListN.{get_or}
use Rattle.laws.proofs.Numbers.{eq-or-ne}
use Rattle.model.specs.Setup.{Setup, in_limits, is_member}
use Rattle.model.specs.Timestamp.{Timestamp, sound_timestamp}
use Rattle.model.specs.Frame.{Frame, well_formed, decode, encode}
use Rattle.model.specs.Question.{first_no, ask_setup, ask_form, ask_range, ask_stamp, frame_questions}
use Rattle.model.specs.Codec.{read_questions, ReadAnswer, read_by, read, frame_of, write_frame_questions, write_by, write_frame, write}
use Rattle.model.specs.Schedule.{Schedule, Wider, wider_setup, ask_both, ask_wider}
use Rattle.model.specs.Wider.{half_in, wider_formed, wider_decode, sound_within}
use Rattle.model.specs.WiderCalls.{pairs_of, read_in_questions, ReadInAnswer, is_wide, read_in_by, read_in, written_half, write_in_questions, write_in}
use Rattle.lemmas.proofs.Bounds.{Limits}
use Rattle.lemmas.proofs.Questions.{yes-cons}
use Rattle.lemmas.proofs.RoundTrip.{none-no}
use Rattle.lemmas.proofs.Schedules.{Good}
use Rattle.frame.specs.Answers.{refused_read}
use Rattle.frame.proofs.Asking.{written-refused}
use Rattle.pairs.specs.Views.{pair_of}
use Rattle.pairs.proofs.Sides.{pair-half, pair-good, pair-n, pair-modulus, Asked, asked-from, pair-valid, refused-others, passed-others}
use Rattle.widerframe.proofs.Widths.{frame-half, width-side}

-- a reader's answer, with the width beside it
abbrev pub with_width : Bool → ReadAnswer → ReadInAnswer
with_width wide a = record { number = a.number; wide = wide; station = a.station; stamp = a.stamp; payload = a.payload }

-- the number that a reader answers
read_number : (s : Setup) (own : ℕ) (bytes : List ℕ) → (read s own bytes).number ≡ first_no (read_questions s own bytes)
unfolding read
read_number s own bytes = go (first_no (read_questions s own bytes))
  where
    go : (k : ℕ) → (read_by k (decode s.epsilon bytes)).number ≡ k
    go zero = refl
    go (suc k) = refl

module _ (s : Setup) (w : Wider) (own : ℕ) where
  -- ---- the reader

  module _ (bytes : List ℕ) where
    abbrev g : Schedule
    g = pairs_of s w

    abbrev frame : Frame
    frame = wider_decode g bytes

    -- one that is refused by 1 or 19
    pub read-in-refused : (k : ℕ) → k ≡ first_no (ask_both s w own ∷ ask_wider s w ∷ []) → (k ≡ 0 → ⊥) → read_in s w own bytes ≡ with_width false (refused_read k)
    unfolding read_in read_in_questions
    read-in-refused k e h = ap (λ (m : ℕ). read_in_by m (is_wide s g frame) frame) (sym (refused-others s w own _ k e h)) ∙ go k h
      where
        go : (m : ℕ) → (m ≡ 0 → ⊥) → read_in_by m (is_wide s g frame) frame ≡ with_width false (refused_read m)
        go zero z = absurd (z refl)
        go (suc m) z = refl

    module _ (passed : 0 ≡ first_no (ask_both s w own ∷ ask_wider s w ∷ [])) (side : Setup) (es : side ≡ pair_of g (get_or bytes 4 0 - 1)) where
      good : Good g
      good = (asked-from s w own passed).both.widens

      side-n : side.n ≡ s.n
      side-n = ap (λ (u : Setup). u.n) es ∙ pair-n g good (get_or bytes 4 0 - 1)

      side-modulus : side.modulus ≡ s.modulus
      side-modulus = ap (λ (u : Setup). u.modulus) es ∙ pair-modulus g good (get_or bytes 4 0 - 1)

      side-half : side.epsilon ≡ half_in g bytes
      side-half = ap (λ (u : Setup). u.epsilon) es ∙ pair-half g (get_or bytes 4 0 - 1)

      side-valid : (in_limits side && is_member side own) ≡ true
      side-valid = pair-valid s w own side (asked-from s w own passed) (subst Limits (sym es) (pair-good g good (get_or bytes 4 0 - 1))) side-n

      -- the plain reader's questions, and its frame
      same_number : first_no (read_in_questions s w own bytes) ≡ first_no (read_questions side own bytes)
      unfolding read_in_questions read_questions ask_setup
      same_number =
          passed-others s w own _ passed
          ∙ (width-side g good s side bytes side-n side-modulus side-half
          ∙ sym (yes-cons (in_limits side && is_member side own) 1 (frame_questions side bytes) side-valid))

      same-frame : frame ≡ decode side.epsilon bytes
      unfolding wider_decode
      same-frame = ap (λ (half : ℕ). decode half bytes) (sym side-half)

      -- where it is accepted, the width is the one that its counts have
      same_width : first_no (read_questions side own bytes) ≡ 0 → is_wide s g frame ≡ ltb s.epsilon side.epsilon
      unfolding read_questions ask_setup frame_questions ask_form wider_formed
      same_width e =
          let p = none-no (in_limits side && is_member side own) 0 (frame_questions side bytes) e in
          let formed = (none-no (well_formed side.epsilon bytes) 9 (ask_range side (decode side.epsilon bytes) ∷ ask_stamp side (decode side.epsilon bytes) ∷ []) p.1).0 in
          ap (ltb s.epsilon) ((frame-half g bytes (ap (λ (half : ℕ). well_formed half bytes) (sym side-half) ∙ formed)).0 ∙ sym side-half)

      pub read-in-side :
          (wide : Bool) → ((read side own bytes).number ≡ 0 → wide ≡ ltb s.epsilon side.epsilon) → (((read side own bytes).number ≡ 0 → ⊥) → wide ≡ false)
          → read_in s w own bytes ≡ with_width wide (read side own bytes)
      unfolding read_in read
      read-in-side wide yes' no' =
          ap₂ (λ (m : ℕ) (f : Frame). read_in_by m (is_wide s g frame) f) same_number same-frame ∙ go (first_no (read_questions side own bytes)) refl
        where
          f : Frame
          f = decode side.epsilon bytes

          go : (k : ℕ) → first_no (read_questions side own bytes) ≡ k → read_in_by k (is_wide s g frame) f ≡ with_width wide (read_by k f)
          go zero e = rw (same_width e) (ap (λ (b : Bool). with_width b (read_by 0 f)) (sym (yes' (read_number side own bytes ∙ e))))
          go (suc k) e = ap (λ (b : Bool). with_width b (read_by (suc k) f)) (sym (no' (λ z. omega (arith, sym (read_number side own bytes) ∙ z, e))))

      pub payload-in-side : (read_in s w own bytes).payload ≡ (read side own bytes).payload
      payload-in-side =
          elim (eq-or-ne (read side own bytes).number 0) [
            | inl z ↦ ap (λ (r : ReadInAnswer). r.payload) (read-in-side (ltb s.epsilon side.epsilon) (λ _. refl) (λ h. absurd (h z)))
            | inr h ↦ ap (λ (r : ReadInAnswer). r.payload) (read-in-side false (λ z. absurd (h z)) (λ _. refl))
          ]

  -- ---- the writer

  pub write-in-refused : (station : ℕ) (wide : Bool) (t : Timestamp) (payload buffer : List ℕ) (k : ℕ) → k ≡ first_no (ask_both s w own ∷ ask_wider s w ∷ []) → (k ≡ 0 → ⊥)
      → write_in s w own station wide t payload buffer ≡ record { number = k; size = 0; buffer = buffer }
  unfolding write_in write_in_questions
  write-in-refused station wide t payload buffer k e h =
      let f = frame_of (written_half s w wide) station t payload in
      ap (λ (m : ℕ). write_by m f buffer) (sym (refused-others s w own _ k e h)) ∙ written-refused k (encode f) buffer h

  pub write-in-side :
      (passed : 0 ≡ first_no (ask_both s w own ∷ ask_wider s w ∷ [])) (station : ℕ) (wide : Bool) (t : Timestamp) (payload buffer : List ℕ)
      → write_in s w own station wide t payload buffer ≡ write (cond wide (wider_setup s w) s) own station t payload buffer
  unfolding write_in write_in_questions write_frame write_frame_questions ask_setup ask_range ask_stamp sound_within sound_timestamp is_member
  write-in-side passed station wide t payload buffer = go wide
    where
      asked : Asked s w own
      asked = asked-from s w own passed

      go : (b : Bool) → write_in s w own station b t payload buffer ≡ write (cond b (wider_setup s w) s) own station t payload buffer
      go true =
          ap (λ (m : ℕ). write_by m (frame_of w.epsilon station t payload) buffer)
          (passed-others s w own _ passed ∙ sym (yes-cons (in_limits (wider_setup s w) && is_member (wider_setup s w) own) 1 _ (pair-valid s w own (wider_setup s w) asked asked.both.widens.new refl)))
      go false =
          ap (λ (m : ℕ). write_by m (frame_of s.epsilon station t payload) buffer)
          (passed-others s w own _ passed ∙ sym (yes-cons (in_limits s && is_member s own) 1 _ (pair-valid s w own s asked asked.both.widens.old refl)))
