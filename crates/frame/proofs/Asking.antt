-- The questions of reader and writer, one by one: a question that gets a yes is passed over, one that gets a no answers. Assumes nothing.
use mathlib.Core.Path.{◌≡◌, refl, sym, ap, ◌∙◌}
use mathlib.Core.Bool.{Bool, true, false, ◌&&◌, cond}
use mathlib.Core.List.{List, [], ◌∷◌, ◌++◌}
use Prim.Native.Nat.{ℕ, zero, suc, ◌+◌, ◌*◌, ◌-◌, ◌≤◌, ◌<◌}
use native.Mathlib.Omega.{arith}
use lib.Dec.{leb, ltb}
use lib.ListN.{length, take, drop, length-drop}
use lib.Seq.{take_all}
use borrow.Author.Tests.{lt-ltb, le-ltb, lt-leb, le-leb, ltb-true, leb-true}
use Rattle.laws.specs.Lists.{overlay, every}
use Rattle.laws.proofs.Numbers.{and_left, and_right}
use Rattle.model.specs.Setup.{Setup, in_limits, is_member, width}
use Rattle.model.specs.Timestamp.{Timestamp, sound_timestamp, trimmed, widened}
use Rattle.model.specs.Frame.{Frame, well_formed, counts_of, decode, encode, payload_count_at}
use Rattle.model.specs.Question.{Question, ask, first_no, ask_setup, ask_form, ask_range, ask_stamp, frame_questions}
use Rattle.model.specs.Codec.{read_questions, read_by, read, frame_of, ask_payload, write_frame_questions, written_by, write_frame, write_questions}
use Rattle.lemmas.proofs.Bounds.{Limits}
use Rattle.lemmas.proofs.Questions.{first-yes, yes-cons, no-cons, no-append, yes-append, front-append, setup-from}
use Rattle.lemmas.proofs.RoundTrip.{none-no, formed-from, decode-wide}
use Rattle.timestamp.specs.Views.{of_counts}
use Rattle.frame.specs.Lay.{Room, contents_questions}
use Rattle.frame.specs.Answers.{refused_read}
use Rattle.frame.proofs.Laying.{length-frame}

-- ---- 1

-- the setup and the own number in their limits
abbrev pub valid : Setup → ℕ → Bool
valid s own = in_limits s && is_member s own

module _ (s : Setup) (own : ℕ) (qs : List Question) where
  pub setup-no : valid s own ≡ false → first_no (ask_setup s own ∷ qs) ≡ 1
  unfolding ask_setup
  setup-no h = no-cons _ 1 qs h

  pub setup-right : valid s own ≡ true → first_no (ask_setup s own ∷ qs) ≡ first_no qs
  unfolding ask_setup
  setup-right h = yes-cons _ 1 qs h

-- ---- 11 and 12, of any frame

module _ (s : Setup) (f : Frame) (qs : List Question) where
  pub station-no : s.n ≤ f.station → first_no (ask_range s f ∷ qs) ≡ 11
  unfolding ask_range
  station-no h = no-cons _ 11 qs (rw (le-ltb f.station s.n h))

  module _ (h : f.station < s.n) where
    pub r-no : s.modulus ≤ f.stamp.r → first_no (ask_range s f ∷ qs) ≡ 11
    unfolding ask_range
    r-no k = no-cons _ 11 qs (rw (lt-ltb f.station s.n h, le-ltb f.stamp.r s.modulus k))

    pub in-range : f.stamp.r < s.modulus → first_no (ask_range s f ∷ qs) ≡ first_no qs
    unfolding ask_range
    in-range k = yes-cons _ 11 qs (rw (lt-ltb f.station s.n h, lt-ltb f.stamp.r s.modulus k))

  pub stamp-no : sound_timestamp s.n s.epsilon f.stamp ≡ false → first_no (ask_stamp s f ∷ qs) ≡ 12
  unfolding ask_stamp
  stamp-no h = no-cons _ 12 qs h

  pub stamp-sound : sound_timestamp s.n s.epsilon f.stamp ≡ true → first_no (ask_stamp s f ∷ qs) ≡ first_no qs
  unfolding ask_stamp
  stamp-sound h = yes-cons _ 12 qs h

-- ---- 10 to 12, of bytes

module _ (s : Setup) (bytes : List ℕ) where
  pub form-no : well_formed s.epsilon bytes ≡ false → first_no (frame_questions s bytes) ≡ 10
  unfolding frame_questions ask_form
  form-no h = no-cons _ 10 (ask_range s (decode s.epsilon bytes) ∷ ask_stamp s (decode s.epsilon bytes) ∷ []) h

  pub form-right : well_formed s.epsilon bytes ≡ true
      → first_no (frame_questions s bytes) ≡ first_no (ask_range s (decode s.epsilon bytes) ∷ ask_stamp s (decode s.epsilon bytes) ∷ [])
  unfolding frame_questions ask_form
  form-right h = yes-cons _ 10 (ask_range s (decode s.epsilon bytes) ∷ ask_stamp s (decode s.epsilon bytes) ∷ []) h

-- the counts of a frame, as the code lends them
pub counts-part : (epsilon : ℕ) (s : List ℕ) → take (6 + 2 * epsilon - 6) (drop 6 s) ≡ (decode epsilon s).stamp.kn
unfolding decode counts_of width
counts-part epsilon s = let e : 6 + 2 * epsilon - 6 ≡ 2 * epsilon = omega arith in ap (λ (n : ℕ). take n (drop 6 s)) e

-- they are all of its counts
pub counts-long : (epsilon : ℕ) (s : List ℕ) → well_formed epsilon s ≡ true → length (take (6 + 2 * epsilon - 6) (drop 6 s)) ≡ 2 * epsilon
unfolding width
counts-long epsilon s w = ap length (counts-part epsilon s) ∙ decode-wide epsilon s (formed-from epsilon s w)

-- and with c they decide whether its stamp is sound
pub counts-sound : (n epsilon c : ℕ) (s : List ℕ) → c ≡ (decode epsilon s).stamp.c
    → sound_timestamp n epsilon (of_counts c (take (6 + 2 * epsilon - 6) (drop 6 s))) ≡ sound_timestamp n epsilon (decode epsilon s).stamp
unfolding sound_timestamp
counts-sound n epsilon c s e = rw (counts-part epsilon s, e)

-- ---- the reader

-- a reader's answers
module _ (number : ℕ) (f : Frame) where
  pub by-accepted : number ≡ 0 → read_by number f ≡ record { number = 0; station = f.station; stamp = widened f.stamp; payload = f.payload }
  by-accepted z = rw z

  pub by-refused : (number ≡ 0 → ⊥) → read_by number f ≡ refused_read number
  by-refused z = go number z
    where
      go : (k : ℕ) → (k ≡ 0 → ⊥) → read_by k f ≡ refused_read k
      go zero h = absurd (h refl)
      go (suc k) h = refl

module _ (s : Setup) (own : ℕ) (bytes : List ℕ) where
  -- what an accepted frame has
  pub read-passed : first_no (read_questions s own bytes) ≡ 0 → (in_limits s ≡ true) × (well_formed s.epsilon bytes ≡ true)
  unfolding read_questions ask_setup frame_questions ask_form
  read-passed e =
      let p = none-no (valid s own) 0 (frame_questions s bytes) e in
      (and_left (in_limits s) (is_member s own) p.0, (none-no (well_formed s.epsilon bytes) 9 (ask_range s (decode s.epsilon bytes) ∷ ask_stamp s (decode s.epsilon bytes) ∷ []) p.1).0)

  module _ (number : ℕ) (e : number ≡ first_no (read_questions s own bytes)) where
    pub read-accepted : number ≡ 0
        → read s own bytes ≡ record { number = 0; station = (decode s.epsilon bytes).station; stamp = widened (decode s.epsilon bytes).stamp; payload = (decode s.epsilon bytes).payload }
    unfolding read
    read-accepted z = rw (← e) (by-accepted number (decode s.epsilon bytes) z)

    pub read-refused : (number ≡ 0 → ⊥) → read s own bytes ≡ refused_read number
    unfolding read
    read-refused z = rw (← e) (by-refused number (decode s.epsilon bytes) z)

-- the payload is what stands after its count
pub payload-part : (epsilon : ℕ) (s : List ℕ) → take (length s - (7 + 2 * epsilon)) (drop (7 + 2 * epsilon) s) ≡ (decode epsilon s).payload
unfolding decode payload_count_at width
payload-part epsilon s =
    let e : 6 + 2 * epsilon + 1 ≡ 7 + 2 * epsilon = omega arith in
    rw e (take_all (length s - (7 + 2 * epsilon)) (drop (7 + 2 * epsilon) s) (simp length-drop (omega arith)))

-- ---- the writer: its questions on what is to be written, and the ones before and behind them

module _ (n epsilon bound : ℕ) (f : Frame) where
  abbrev pub as_setup : Setup
  as_setup = record { n = n; epsilon = epsilon; delta = 0; modulus = bound }

  pub payload-no : 32 < length f.payload → first_no (contents_questions n epsilon bound f) ≡ 4
  unfolding ask_payload
  payload-no k = no-cons _ 4 (ask_range as_setup f ∷ ask_stamp as_setup f ∷ []) (lt-leb (length f.payload) 32 k)

  pub payload-right : length f.payload ≤ 32 → first_no (contents_questions n epsilon bound f) ≡ first_no (ask_range as_setup f ∷ ask_stamp as_setup f ∷ [])
  unfolding ask_payload
  payload-right k = yes-cons _ 4 (ask_range as_setup f ∷ ask_stamp as_setup f ∷ []) (le-leb (length f.payload) 32 k)

  -- what it says that none of them gets a no
  pub contents-fit : first_no (contents_questions n epsilon bound f) ≡ 0
      → (length f.payload ≤ 32) × ((f.station < n) × ((f.stamp.r < bound) × (f.stamp.c ≤ epsilon - 1)))
  unfolding ask_payload ask_range ask_stamp sound_timestamp
  contents-fit e =
      let p4 = none-no (leb (length f.payload) 32) 3 (ask_range as_setup f ∷ ask_stamp as_setup f ∷ []) e in
      let p11 = none-no (ltb f.station n && ltb f.stamp.r bound) 10 (ask_stamp as_setup f ∷ []) p4.1 in
      let p12 = none-no (sound_timestamp n epsilon f.stamp) 11 [] p11.1 in (
        leb-true (length f.payload) 32 p4.0,
        (
          ltb-true f.station n (and_left (ltb f.station n) (ltb f.stamp.r bound) p11.0),
          (
            ltb-true f.stamp.r bound (and_right (ltb f.station n) (ltb f.stamp.r bound) p11.0),
            leb-true f.stamp.c (epsilon - 1) (and_left (leb f.stamp.c (epsilon - 1)) _ p12.0),
          ),
        ),
      )

  -- 1 before them, and 6 behind them
  module _ (valid room : Bool) where
    abbrev pub all_asked : List Question
    all_asked = ask valid 1 ∷ (contents_questions n epsilon bound f ++ (ask room 6 ∷ []))

    pub valid-no : valid ≡ false → first_no all_asked ≡ 1
    valid-no h = no-cons valid 1 (contents_questions n epsilon bound f ++ (ask room 6 ∷ [])) h

    module _ (h : valid ≡ true) where
      pub contents-no : (k : ℕ) → k ≡ first_no (contents_questions n epsilon bound f) → (k ≡ 0 → ⊥) → k ≡ first_no all_asked
      contents-no k e z =
          no-append (contents_questions n epsilon bound f) (ask room 6 ∷ []) k e z
          ∙ sym (yes-cons valid 1 (contents_questions n epsilon bound f ++ (ask room 6 ∷ [])) h)

      pub contents-right : first_no (contents_questions n epsilon bound f) ≡ 0 → first_no all_asked ≡ cond room 0 6
      unfolding first_no every ask_payload ask_range ask_stamp
      contents-right e =
          yes-cons valid 1 (contents_questions n epsilon bound f ++ (ask room 6 ∷ [])) h
          ∙ yes-append (contents_questions n epsilon bound f) (ask room 6 ∷ []) refl e

    -- none of all of them gets a no
    pub all_right : first_no all_asked ≡ 0 → (valid ≡ true) × ((first_no (contents_questions n epsilon bound f) ≡ 0) × (room ≡ true))
    unfolding every ask_payload ask_range ask_stamp
    all_right e =
        let p = none-no valid 0 (contents_questions n epsilon bound f ++ (ask room 6 ∷ [])) e in
        let q = front-append (contents_questions n epsilon bound f) (ask room 6 ∷ []) p.1 in
        (p.0, (q, first-yes room 5 [] (sym (yes-append (contents_questions n epsilon bound f) (ask room 6 ∷ []) refl q) ∙ p.1)))

-- a writer's answers
module _ (number : ℕ) (bytes buffer : List ℕ) where
  pub written-accepted : number ≡ 0 → written_by number bytes buffer ≡ record { number = 0; size = length bytes; buffer = overlay bytes buffer }
  written-accepted z = rw z

  pub written-refused : (number ≡ 0 → ⊥) → written_by number bytes buffer ≡ record { number = number; size = 0; buffer = buffer }
  written-refused z = go number z
    where
      go : (k : ℕ) → (k ≡ 0 → ⊥) → written_by k bytes buffer ≡ record { number = k; size = 0; buffer = buffer }
      go zero h = absurd (h refl)
      go (suc k) h = refl

module _ (s : Setup) (own : ℕ) (f : Frame) (buffer : List ℕ) where
  pub all_asked_lem : first_no (write_frame_questions s own f buffer) ≡ first_no (all_asked s.n s.epsilon s.modulus f (valid s own) (leb (length (encode f)) (length buffer)))
  unfolding write_frame_questions ask_setup ask_range ask_stamp
  all_asked_lem = refl

  module _ (number : ℕ) (e : number ≡ first_no (write_frame_questions s own f buffer)) where
    pub write-accepted : number ≡ 0
        → write_frame s own f buffer ≡ record { number = 0; size = length (encode f); buffer = overlay (encode f) buffer }
    unfolding write_frame
    write-accepted z = rw (← e) (written-accepted number (encode f) buffer z)

    pub write-refused : (number ≡ 0 → ⊥) → write_frame s own f buffer ≡ record { number = number; size = 0; buffer = buffer }
    unfolding write_frame
    write-refused z = rw (← e) (written-refused number (encode f) buffer z)

-- what an accepted writer can lay down
pub room_of : (s : Setup) (own station : ℕ) (t : Timestamp) (payload buffer : List ℕ)
    → first_no (write_questions s own station t payload buffer) ≡ 0 → Room s.epsilon station t payload buffer
unfolding frame_of trimmed
room_of s own station t payload buffer e =
    let f = frame_of s.epsilon station t payload in
    let p = all_right s.n s.epsilon s.modulus f (valid s own) (leb (length (encode f)) (length buffer)) (sym (all_asked_lem s own f buffer) ∙ e) in
    let l : Limits s = (setup-from s own p.0).0 in
    let (short, (member, (below, close))) = contents-fit s.n s.epsilon s.modulus f p.1.0 in
    let h6 : length (encode f) ≤ length buffer = leb-true (length (encode f)) (length buffer) p.1.1 in
    record {
      narrow = l.epsilon-most;
      station-fits = omega arith;
      r-fits = omega arith;
      c-fits = omega arith;
      payload-fits = omega arith;
      room = omega (arith, length-frame s.epsilon station t payload);
    }
