-- The questions of an engine's reader and writer (02, 2.9), one by one, and what stands in its frame as the code lends it. Assumes nothing.
use mathlib.Core.Path.{◌≡◌, refl, sym, ◌∙◌}
use mathlib.Core.Bool.{Bool, true, false, ◌&&◌}
use mathlib.Core.List.{List, [], ◌∷◌}
use Prim.Native.Nat.{ℕ, ◌+◌, ◌*◌, ◌-◌, ◌≤◌}
use native.Mathlib.Omega.{arith}
use lib.Dec.{leb}
use lib.ListN.{length, take, drop, set, length-drop}
use lib.Seq.{take_all, take-take}
use borrow.Author.Tests.{leb-true}
use borrow.Rule.Slice.PartMut.{put_mid, mid_of}
use Rattle.laws.specs.Lists.{overlay}
use Rattle.laws.proofs.Numbers.{and_left}
use Rattle.model.specs.Setup.{Setup, is_member, width}
use Rattle.model.specs.Timestamp.{Timestamp, sound_timestamp, trimmed, widened}
use Rattle.model.specs.Frame.{Frame, section, later_sections, counts_of, payload_count_at, decode}
use Rattle.model.specs.Question.{first_no, ask_range, ask_stamp}
use Rattle.model.specs.Codec.{frame_of}
use Rattle.model.specs.Long.{long_bound, plainly, long_limits, ask_long_setup, low_first, long_encode, six_on, long_formed, long_decode, long_frame_questions, long_read, long_write_questions, long_write_frame}
use Rattle.lemmas.proofs.Bounds.{LongLimits}
use Rattle.lemmas.proofs.Questions.{yes-cons, no-cons, long-limits-from}
use Rattle.lemmas.proofs.RoundTrip.{LaterFormed, later-wide, none-no}
use Rattle.lemmas.proofs.LongFrames.{LongFormed, long-formed-from}
use Rattle.splice.specs.Bytes.{pasted}
use Rattle.timestamp.specs.Views.{of_counts}
use Rattle.frame.specs.Answers.{refused_read}
use Rattle.frame.proofs.Asking.{by-accepted, by-refused, all_asked, all_right, contents-fit, written-accepted, written-refused}
use Rattle.frame.proofs.Laying.{front, two_then, lent_laid, behind-laid, length-later}
use Rattle.longframe.specs.Lay.{LongRoom}

-- ---- 10 to 12, of bytes

module _ (s : Setup) (bytes : List ℕ) where
  pub form-no : long_formed s.epsilon bytes ≡ false → first_no (long_frame_questions s bytes) ≡ 10
  unfolding long_frame_questions
  form-no h =
      no-cons _ 10 (ask_range (plainly s) (long_decode s.epsilon bytes) ∷ ask_stamp (plainly s) (long_decode s.epsilon bytes) ∷ []) h

  pub form-right : long_formed s.epsilon bytes ≡ true
      → first_no (long_frame_questions s bytes) ≡ first_no (ask_range (plainly s) (long_decode s.epsilon bytes) ∷ ask_stamp (plainly s) (long_decode s.epsilon bytes) ∷ [])
  unfolding long_frame_questions
  form-right h =
      yes-cons _ 10 (ask_range (plainly s) (long_decode s.epsilon bytes) ∷ ask_stamp (plainly s) (long_decode s.epsilon bytes) ∷ []) h

-- what stands six bytes on, as the code lends it
pub six-part : (s : List ℕ) → take (length s) (drop 6 s) ≡ six_on s
six-part s = take_all (length s) (drop 6 s) (simp length-drop (omega arith))

module _ (epsilon : ℕ) (s : List ℕ) (h : long_formed epsilon s ≡ true) where
  -- a well-formed frame has r, and its counts
  pub clock-there : 10 ≤ length s
  unfolding width
  clock-there = let o : LongFormed epsilon s = long-formed-from epsilon s h in omega (arith, o.long, o.later.size)

  pub counts-there : payload_count_at epsilon ≤ length (six_on s)
  unfolding payload_count_at
  counts-there = let o : LaterFormed epsilon (six_on s) = (long-formed-from epsilon s h).later in omega (arith, o.size)

  pub counts-wide : length (counts_of epsilon (six_on s)) ≡ 2 * epsilon
  unfolding width decode
  counts-wide = later-wide epsilon (six_on s) (long-formed-from epsilon s h).later

-- the counts and c decide whether its stamp is sound
pub counts-sound : (n epsilon c : ℕ) (s kn : List ℕ) → c ≡ (decode epsilon (six_on s)).stamp.c → kn ≡ counts_of epsilon (six_on s)
    → sound_timestamp n epsilon (of_counts c kn) ≡ sound_timestamp n epsilon (long_decode epsilon s).stamp
unfolding sound_timestamp long_decode decode
counts-sound n epsilon c s kn e k = rw (k, e)

-- all the counts, by value
pub counts-taken : (epsilon : ℕ) (s : List ℕ) → take (2 * epsilon) (drop 0 (counts_of epsilon s)) ≡ counts_of epsilon s
unfolding counts_of width
counts-taken epsilon s = take-take (2 * epsilon) (2 * epsilon) (drop 6 s) (omega arith)

-- ---- 1

-- the setup and the own number in their limits
abbrev pub valid : Setup → ℕ → Bool
valid s own = long_limits s && is_member s own

pub setup-from : (s : Setup) (own : ℕ) → valid s own ≡ true → LongLimits s
setup-from s own h = long-limits-from s (and_left (long_limits s) (is_member s own) h)

-- ---- the reader

module _ (s : Setup) (own : ℕ) (bytes : List ℕ) where
  pub setup-no : valid s own ≡ false → first_no (ask_long_setup s own ∷ long_frame_questions s bytes) ≡ 1
  unfolding ask_long_setup
  setup-no h = no-cons _ 1 (long_frame_questions s bytes) h

  pub setup-right : valid s own ≡ true → first_no (ask_long_setup s own ∷ long_frame_questions s bytes) ≡ first_no (long_frame_questions s bytes)
  unfolding ask_long_setup
  setup-right h = yes-cons _ 1 (long_frame_questions s bytes) h

  -- what an accepted frame has
  pub read-passed : first_no (ask_long_setup s own ∷ long_frame_questions s bytes) ≡ 0 → (LongLimits s) × (long_formed s.epsilon bytes ≡ true)
  unfolding ask_long_setup long_frame_questions
  read-passed e =
      let p = none-no (valid s own) 0 (long_frame_questions s bytes) e in (
        setup-from s own p.0,
        (none-no (long_formed s.epsilon bytes) 9 (ask_range (plainly s) (long_decode s.epsilon bytes) ∷ ask_stamp (plainly s) (long_decode s.epsilon bytes) ∷ []) p.1).0,
      )

  module _ (number : ℕ) (e : number ≡ first_no (ask_long_setup s own ∷ long_frame_questions s bytes)) where
    pub read-accepted : number ≡ 0
        → long_read s own bytes ≡ record { number = 0; station = (long_decode s.epsilon bytes).station; stamp = widened (long_decode s.epsilon bytes).stamp; payload = (long_decode s.epsilon bytes).payload }
    unfolding long_read
    read-accepted z = rw (← e) (by-accepted number (long_decode s.epsilon bytes) z)

    pub read-refused : (number ≡ 0 → ⊥) → long_read s own bytes ≡ refused_read number
    unfolding long_read
    read-refused z = rw (← e) (by-refused number (long_decode s.epsilon bytes) z)

-- ---- the writer

-- its first section, and the later ones in what is lent on
pub node-laid : (l : List ℕ) (station r : ℕ) → 10 ≤ length l
    → pasted (set (set l 0 9) 1 station) 2 (low_first 8 r) ≡ overlay (section (station ∷ low_first 8 r)) l
unfolding section low_first
node-laid l station r h = two_then l 0 9 station (low_first 8 r) (omega arith) ∙ front (9 ∷ station ∷ low_first 8 r) l

pub length-frame : (epsilon station : ℕ) (t : Timestamp) (payload : List ℕ)
    → length (long_encode (frame_of epsilon station t payload)) ≡ 13 + 2 * epsilon + length payload
unfolding long_encode section low_first
length-frame epsilon station t payload = omega (arith, length-later epsilon station t payload)

pub frame-laid : (l : List ℕ) (epsilon station : ℕ) (t : Timestamp) (payload l1 ys : List ℕ) → 10 ≤ length l
    → l1 ≡ overlay (section (station ∷ low_first 8 t.r)) l → length l1 ≡ length l
    → ys ≡ pasted (mid_of 6 (length l1 - 6) l1) 4 (later_sections (frame_of epsilon 0 t payload))
    → put_mid 6 (length l1 - 6) l1 ys ≡ overlay (long_encode (frame_of epsilon station t payload)) l
unfolding long_encode frame_of trimmed section low_first
frame-laid l epsilon station t payload l1 ys h e1 same e2 =
    behind-laid l (section (station ∷ low_first 8 t.r)) (later_sections (frame_of epsilon 0 t payload)) l1 (put_mid 6 (length l1 - 6) l1 ys) 10 refl e1
    (lent_laid l1 6 4 (later_sections (frame_of epsilon 0 t payload)) ys (omega arith) e2)

module _ (s : Setup) (own : ℕ) (f : Frame) (buffer : List ℕ) where
  pub all_asked_lem : first_no (long_write_questions s own f buffer) ≡ first_no (all_asked s.n s.epsilon long_bound f (valid s own) (leb (length (long_encode f)) (length buffer)))
  unfolding long_write_questions ask_long_setup ask_range ask_stamp
  all_asked_lem = refl

  module _ (number : ℕ) (e : number ≡ first_no (long_write_questions s own f buffer)) where
    pub write-accepted : number ≡ 0
        → long_write_frame s own f buffer ≡ record { number = 0; size = length (long_encode f); buffer = overlay (long_encode f) buffer }
    unfolding long_write_frame
    write-accepted z = rw (← e) (written-accepted number (long_encode f) buffer z)

    pub write-refused : (number ≡ 0 → ⊥) → long_write_frame s own f buffer ≡ record { number = number; size = 0; buffer = buffer }
    unfolding long_write_frame
    write-refused z = rw (← e) (written-refused number (long_encode f) buffer z)

-- what an accepted writer can lay down
pub room_of : (s : Setup) (own station : ℕ) (t : Timestamp) (payload buffer : List ℕ)
    → first_no (long_write_questions s own (frame_of s.epsilon station t payload) buffer) ≡ 0 → LongRoom s.epsilon station t payload buffer
unfolding frame_of trimmed
room_of s own station t payload buffer e =
    let f = frame_of s.epsilon station t payload in
    let p = all_right s.n s.epsilon long_bound f (valid s own) (leb (length (long_encode f)) (length buffer)) (sym (all_asked_lem s own f buffer) ∙ e) in
    let l : LongLimits s = setup-from s own p.0 in
    let (short, (member, (below, close))) = contents-fit s.n s.epsilon long_bound f p.1.0 in
    let h6 : length (long_encode f) ≤ length buffer = leb-true (length (long_encode f)) (length buffer) p.1.1 in
    record {
      narrow = l.epsilon-most;
      station-fits = omega arith;
      c-fits = omega arith;
      payload-fits = omega arith;
      room = omega (arith, length-frame s.epsilon station t payload);
    }
