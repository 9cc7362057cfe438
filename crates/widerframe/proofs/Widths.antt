-- The questions of a frame by its own width and by the limits of v. Assumes nothing.
use Prim.Native.Nat.{ℕ, zero, suc, ◌-◌, ◌*◌, ◌≤◌, ◌<◌}
use native.Mathlib.Omega.{arith}
use mathlib.Core.Path.{◌≡◌, refl, sym, ap, ◌∙◌}
use mathlib.Core.Bool.{Bool, true, false, ◌&&◌}
use mathlib.Core.List.{List, [], ◌∷◌}
use lib.Dec.{ltb}
use lib.ListN.{length, take, get_or}
use lib.Seq.{get_or-take}
use borrow.Author.Tests.{lt-ltb, ltb-true, eq-eqb, ne_eqb}
use Rattle.laws.proofs.Numbers.{and_intro, and_left, and_right, same_test}
use Rattle.model.specs.Setup.{Setup, width}
use Rattle.model.specs.Timestamp.{Timestamp, sound_timestamp}
use Rattle.model.specs.Frame.{Frame, decode, frame_end, payload_count_at}
use Rattle.model.specs.Question.{ask, first_no, ask_form, ask_range, ask_stamp, frame_questions}
use Rattle.model.specs.Schedule.{Schedule, widening, own_limits, modulus_of}
use Rattle.model.specs.Wider.{half_in, wider_formed, wider_decode, wider_end, frame_half, sound_within, questions_within, wider_frame_questions}
use Rattle.model.proofs.Steady.{sound-one}
use Rattle.lemmas.proofs.Counts.{sound-from, sound-to}
use Rattle.lemmas.proofs.RoundTrip.{formed-from, decode-wide}
use Rattle.lemmas.proofs.Schedules.{Good, limits-good, limits-n, limits-modulus}
use Rattle.lemmas.proofs.WideFrames.{HasWidth, half-one, half-some, has_width_lem, within-from, within-to}
use Rattle.pairs.specs.Views.{pair_of}
use Rattle.pairs.proofs.Sides.{pair-half, pair-n, pair-modulus}
use Rattle.widerframe.specs.Own.{close_by, side_number}

-- 12: sound by its own width, and c below ε
pub sound-within :
    (n epsilon half : ℕ) (t : Timestamp) → 1 ≤ epsilon → 1 ≤ half → length t.kn ≡ width half
    → sound_within n epsilon half t ≡ (sound_timestamp n half t && ltb t.c epsilon)
sound-within n epsilon half t some some' wide =
    same_test (sound_within n epsilon half t) (sound_timestamp n half t && ltb t.c epsilon)
    (λ h. let o = within-from n epsilon half t some some' wide h in and_intro (sound-to n half t o.0) (lt-ltb t.c epsilon o.1))
    (λ h.
    within-to n epsilon half t (sound-from n half t some' wide (and_left (sound_timestamp n half t) (ltb t.c epsilon) h))
    (ltb-true t.c epsilon (and_right (sound_timestamp n half t) (ltb t.c epsilon) h)))

-- a frame that passes 10 has the width by which it is read
pub frame-half : (g : Schedule) (bytes : List ℕ) → wider_formed g bytes ≡ true → (frame_half g (wider_decode g bytes) ≡ half_in g bytes) × HasWidth g (wider_decode g bytes)
unfolding wider_formed wider_decode
frame-half g bytes formed =
    let half = half_in g bytes in
    has_width_lem g half (decode half bytes) (half-one g (get_or bytes 4 0 - 1)) (decode-wide half bytes (formed-from half bytes formed))

-- three questions, the last with one more part
with-close : (form range sound close : Bool) → first_no (ask form 10 ∷ ask range 11 ∷ ask (sound && close) 12 ∷ []) ≡ close_by (first_no (ask form 10 ∷ ask range 11 ∷ ask sound 12 ∷ [])) close
unfolding first_no
with-close false range sound close = refl
with-close true false sound close = refl
with-close true true false close = refl
with-close true true true true = refl
with-close true true true false = refl

-- 10 to 12 of a frame by an ε, from those by its own width
module _ (g : Schedule) (good : Good g) (s side : Setup) (epsilon : ℕ) (bytes : List ℕ) (some : 1 ≤ epsilon)
    (n : side.n ≡ s.n) (modulus : side.modulus ≡ s.modulus) (half : side.epsilon ≡ half_in g bytes) where
  abbrev frame : Frame
  frame = wider_decode g bytes

  abbrev ranged : Bool
  ranged = ltb frame.station s.n && ltb frame.stamp.r s.modulus

  pub side-questions :
      frame_questions side bytes
      ≡ ask (wider_formed g bytes) 10 ∷ ask ranged 11 ∷ ask (sound_timestamp s.n (half_in g bytes) frame.stamp) 12 ∷ []
  unfolding frame_questions ask_form ask_range ask_stamp wider_formed wider_decode
  side-questions = rw (n, modulus, half)

  pub within-side : first_no (questions_within g s epsilon bytes) ≡ close_by (first_no (frame_questions side bytes)) (ltb frame.stamp.c epsilon)
  unfolding ask_range first_no
  within-side = rw side-questions (go (wider_formed g bytes) refl)
    where
      go : (formed : Bool) → wider_formed g bytes ≡ formed
          → first_no (ask formed 10 ∷ ask ranged 11 ∷ ask (sound_within s.n epsilon (frame_half g frame) frame.stamp) 12 ∷ [])
          ≡ close_by (first_no (ask formed 10 ∷ ask ranged 11 ∷ ask (sound_timestamp s.n (half_in g bytes) frame.stamp) 12 ∷ [])) (ltb frame.stamp.c epsilon)
      go false e = refl
      go true e =
          let o = frame-half g bytes e in
          let half_pos = (half-some g good (half_in g bytes) (half-one g (get_or bytes 4 0 - 1))).0 in
          rw (o.0, sound-within s.n epsilon (half_in g bytes) frame.stamp some half_pos (o.1 ∙ ap width o.0))
          (with-close true ranged (sound_timestamp s.n (half_in g bytes) frame.stamp) (ltb frame.stamp.c epsilon))

-- by the frame's width alone
pub width-side :
    (g : Schedule) (good : Good g) (s side : Setup) (bytes : List ℕ) → side.n ≡ s.n → side.modulus ≡ s.modulus → side.epsilon ≡ half_in g bytes
    → first_no (questions_within g s (frame_half g (wider_decode g bytes)) bytes) ≡ first_no (frame_questions side bytes)
unfolding ask_range first_no
width-side g good s side bytes n modulus half = rw (side-questions g good s side 1 bytes (omega arith) n modulus half) (go (wider_formed g bytes) refl)
  where
    f : Frame
    f = wider_decode g bytes

    in-range : Bool
    in-range = ltb f.station s.n && ltb f.stamp.r s.modulus

    go : (formed : Bool) → wider_formed g bytes ≡ formed
        → first_no (ask formed 10 ∷ ask in-range 11 ∷ ask (sound_within s.n (frame_half g f) (frame_half g f) f.stamp) 12 ∷ [])
        ≡ first_no (ask formed 10 ∷ ask in-range 11 ∷ ask (sound_timestamp s.n (half_in g bytes) f.stamp) 12 ∷ [])
    go false e = refl
    go true e = rw ((frame-half g bytes e).0, sound-one s.n (half_in g bytes) f.stamp)

-- by the limits of v
pub own-side :
    (g : Schedule) → Good g → (side : Setup) (bytes : List ℕ) → side ≡ pair_of g (get_or bytes 4 0 - 1)
    → first_no (wider_frame_questions g bytes) ≡ close_by (first_no (frame_questions side bytes)) (ltb (get_or bytes 5 0) (own_limits g).epsilon)
unfolding wider_frame_questions wider_decode decode
own-side g good side bytes e =
    let own = limits-good g good (modulus_of g) in
    let count = get_or bytes 4 0 - 1 in
    within-side g good (own_limits g) side (own_limits g).epsilon bytes own.epsilon-pos
    (ap (λ (s : Setup). s.n) e ∙ pair-n g good count ∙ sym (limits-n g good (modulus_of g)))
    (ap (λ (s : Setup). s.modulus) e ∙ pair-modulus g good count ∙ sym (limits-modulus g good (modulus_of g)))
    (ap (λ (s : Setup). s.epsilon) e ∙ pair-half g count)

-- a no by its own width ends it
pub close-no : (k : ℕ) (close : Bool) → (k ≡ 0 → ⊥) → k ≡ close_by k close
close-no zero close h = absurd (h refl)
close-no (suc k) close h = refl

-- ---- a frame at the front of a window

-- by the pair whose width it has
pub side_after :
    (before after : Setup) (change : ℕ) (w : List ℕ) → get_or w 4 0 - 1 ≡ 2 * after.epsilon
    → first_no (frame_questions after (take (frame_end after.epsilon w) w)) ≡ side_number (widening before after change) w
unfolding wider_end width
side_after before after change w e = rw (eq-eqb (get_or w 4 0 - 1) (2 * after.epsilon) e)

pub side_before :
    (before after : Setup) (change : ℕ) (w : List ℕ) → (get_or w 4 0 - 1 ≡ 2 * after.epsilon → ⊥)
    → first_no (frame_questions before (take (frame_end before.epsilon w) w)) ≡ side_number (widening before after change) w
unfolding wider_end width
side_before before after change w e = rw (ne_eqb (get_or w 4 0 - 1) (2 * after.epsilon) e)

module _ (g : Schedule) (w : List ℕ) where
  abbrev pub frame_in : List ℕ
  frame_in = take (wider_end g w) w

  place_in : (i : ℕ) → i < 7 → get_or frame_in i 0 ≡ get_or w i 0
  unfolding wider_end frame_end payload_count_at
  place_in i h = get_or-take (wider_end g w) w i 0 (omega arith)

  -- 10 to 12, with the pair and c of the window
  pub own-window : Good g → first_no (wider_frame_questions g frame_in) ≡ close_by (side_number g w) (ltb (get_or w 5 0) (own_limits g).epsilon)
  own-window good =
      own-side g good (pair_of g (get_or w 4 0 - 1)) frame_in (ap (λ (x : ℕ). pair_of g (x - 1)) (sym (place_in 4 (omega arith))))
      ∙ ap (λ (x : ℕ). close_by (side_number g w) (ltb x (own_limits g).epsilon)) (place_in 5 (omega arith))
