-- What is written reads back the same: frame, queue, delivery.
-- Assumes nothing.
use Prim.Native.Nat.{ℕ, zero, suc, ◌+◌, ◌*◌, ◌-◌, ◌/◌, ◌%◌, ◌≤◌, ◌<◌}
use native.Mathlib.Omega.{arith}
use native.Mathlib.Nat.{mul-le-mul_right, mul_comm}
use native.Mathlib.Numerals.{add-one}
use mathlib.Core.Path.{◌≡◌, refl, sym, ap, ap₂, ◌∙◌}
use mathlib.Core.Bool.{Bool, true, ◌&&◌}
use mathlib.Core.List.{List, [], ◌∷◌, ◌++◌, map, append_assoc, append-nil, map-id, Memᴰ}
use lib.Dec.{leb, ltb, eqb}
use lib.ListN.{length, take, drop, get_or, length-map, length-append, length-take, length-drop, replicate, take-append-drop}
use lib.Seq.{take_at, get_or_at, take-append_seam, drop-append_seam, drop-append-add, get_or-append-add, drop-cons, drop-drop}
use borrow.Author.Tests.{le-leb, lt-ltb, eq-eqb, leb-true, ltb-true, eqb-true}
use Rattle.laws.specs.Lists.{tab, every, joined, padded}
use Rattle.laws.proofs.Numbers.{and_intro, and_left, and_right}
use Rattle.laws.proofs.Lists.{tab-take, every-index, map-map, map-ext, length-joined-le, length-padded}
use Rattle.model.specs.Setup.{Setup, width, depth, longest_frame, holdback_length}
use Rattle.model.specs.Timestamp.{sound_timestamp}
use Rattle.model.specs.Frame.{Frame, section, two_bytes, two_at, later_sections, encode, decode, counts_of, payload_count_at, later_formed, well_formed, frame_end}
use Rattle.model.specs.Question.{Question, ask, first_no, ask_form, ask_range, ask_stamp, frame_questions}
use Rattle.model.specs.Holdback.{cut_frames, cut_by, held_bytes, held, passes, frames_by, encode_frames, encode_holdback}
use Rattle.lemmas.proofs.Bounds.{Limits, FrameOk}
use Rattle.lemmas.proofs.Questions.{first-yes, other-yes}
use Rattle.lemmas.proofs.Counts.{sound-from, sound-to}

-- the bytes of a frame, opened
pub encode-bytes : (f : Frame) → encode f ≡ 3 ∷ f.station ∷ f.stamp.r % 256 ∷ f.stamp.r / 256 ∷ suc (length f.stamp.kn) ∷ f.stamp.c ∷ (f.stamp.kn ++ (length f.payload ∷ f.payload))
unfolding encode section two_bytes
encode-bytes f = refl

pub length-encode : (f : Frame) → length (encode f) ≡ 7 + length f.stamp.kn + length f.payload
length-encode f =
    rw (encode-bytes f) (omega (arith, length-append f.stamp.kn (length f.payload ∷ f.payload)))

-- the third section, behind six bytes
module _ (w : ℕ) (a b c d e g : ℕ) (kn : List ℕ) (p : ℕ) (rest : List ℕ) (wide : length kn ≡ w) where
  abbrev six : List ℕ
  six = a ∷ b ∷ c ∷ d ∷ e ∷ g ∷ []

  count-third : get_or (six ++ (kn ++ (p ∷ rest))) (6 + w) 0 ≡ p
  count-third = get_or-append-add six (kn ++ (p ∷ rest)) w 0 ∙ get_or_at kn p rest 0 w wide

  drop-third : drop (6 + w + 1) (six ++ (kn ++ (p ∷ rest))) ≡ rest
  drop-third =
      let e : 6 + w + 1 ≡ 6 + (length kn + 1) = omega arith in
      rw e (drop-append-add six (kn ++ (p ∷ rest)) (length kn + 1) ∙ drop-append-add kn (p ∷ rest) 1)

-- the low byte and the high byte make the number
pub two_bytes_lem : (x : ℕ) → x % 256 + 256 * (x / 256) ≡ x
two_bytes_lem x = omega arith

-- the later sections of a frame behind four bytes, whatever these are and whatever stands behind the frame
abbrev pub behind_four : ℕ → ℕ → ℕ → ℕ → Frame → List ℕ
behind_four a b c d f = a ∷ b ∷ c ∷ d ∷ later_sections f

module _ (a b c d epsilon : ℕ) (f : Frame) (wide : length f.stamp.kn ≡ width epsilon) where
  length-later : length (behind_four a b c d f) ≡ 7 + length f.stamp.kn + length f.payload
  unfolding section
  length-later = omega (arith, length-append f.stamp.kn (length f.payload ∷ f.payload))

  pub decode-later :
      decode epsilon (behind_four a b c d f)
      ≡ record { station = b; stamp = record { r = c + 256 * d; c = f.stamp.c; kn = f.stamp.kn }; payload = f.payload }
  unfolding decode counts_of two_at payload_count_at section
  decode-later = λ i.
      record {
        station = b;
        stamp = record { r = c + 256 * d; c = f.stamp.c; kn = take_at f.stamp.kn (length f.payload ∷ f.payload) (width epsilon) wide i };
        payload = drop-third (width epsilon) a b c d (suc (length f.stamp.kn)) f.stamp.c f.stamp.kn (length f.payload) f.payload wide i;
      }

  -- the count of the third section, and where the frame ends
  pub later-count : (rest : List ℕ) → get_or (behind_four a b c d f ++ rest) (6 + width epsilon) 0 ≡ length f.payload
  unfolding section
  later-count rest =
      rw (append_assoc f.stamp.kn (length f.payload ∷ f.payload) rest)
      (count-third (width epsilon) a b c d (suc (length f.stamp.kn)) f.stamp.c f.stamp.kn (length f.payload) (f.payload ++ rest) wide)

  pub later-end : (rest : List ℕ) → frame_end epsilon (behind_four a b c d f ++ rest) ≡ 7 + length f.stamp.kn + length f.payload
  unfolding frame_end payload_count_at
  later-end rest = omega (arith, later-count rest)

  pub later-formed : length f.payload ≤ 32 → later_formed epsilon (behind_four a b c d f) ≡ true
  unfolding frame_end payload_count_at section
  later-formed short =
      let count : get_or (behind_four a b c d f) (6 + width epsilon) 0 ≡ length f.payload = rw append-nil at (later-count []) in
      let size : length (behind_four a b c d f) ≡ 6 + width epsilon + 1 + get_or (behind_four a b c d f) (6 + width epsilon) 0 = omega (arith, length-later) in
      and_intro (eq-eqb (suc (length f.stamp.kn)) (1 + width epsilon) (omega arith))
      (and_intro (le-leb (get_or (behind_four a b c d f) (6 + width epsilon) 0) 32 (omega arith))
      (eq-eqb (length (behind_four a b c d f)) (6 + width epsilon + 1 + get_or (behind_four a b c d f) (6 + width epsilon) 0) size))

encode-later : (f : Frame) → encode f ≡ behind_four 3 f.station (f.stamp.r % 256) (f.stamp.r / 256) f
unfolding encode section two_bytes
encode-later f = refl

pub decode-encode : (epsilon : ℕ) (f : Frame) → length f.stamp.kn ≡ width epsilon → decode epsilon (encode f) ≡ f
decode-encode epsilon f wide =
    ap (decode epsilon) (encode-later f)
    ∙ (decode-later 3 f.station (f.stamp.r % 256) (f.stamp.r / 256) epsilon f wide
    ∙ ap (λ (x : ℕ). record { station = f.station; stamp = record { r = x; c = f.stamp.c; kn = f.stamp.kn }; payload = f.payload }) (two_bytes_lem f.stamp.r))

-- where a frame ends, whatever stands behind it
pub frame-end : (epsilon : ℕ) (f : Frame) (rest : List ℕ) → length f.stamp.kn ≡ width epsilon → frame_end epsilon (encode f ++ rest) ≡ length (encode f)
frame-end epsilon f rest wide =
    ap (λ (l : List ℕ). frame_end epsilon (l ++ rest)) (encode-later f)
    ∙ (later-end 3 f.station (f.stamp.r % 256) (f.stamp.r / 256) epsilon f wide rest ∙ sym (length-encode f))

-- what question 10 says of the second and the third section
pub record LaterFormed (epsilon : ℕ) (s : List ℕ) : Type 0 where
  pub second : get_or s 4 0 ≡ suc (width epsilon)
  pub third : get_or s (6 + width epsilon) 0 ≤ 32
  pub size : length s ≡ 7 + width epsilon + get_or s (6 + width epsilon) 0

pub later-formed-from : (epsilon : ℕ) (s : List ℕ) → later_formed epsilon s ≡ true → LaterFormed epsilon s
unfolding frame_end payload_count_at
later-formed-from epsilon s h =
    let w = width epsilon in
    let c = get_or s (6 + w) 0 in
    let h₂ = and_right (eqb (get_or s 4 0) (1 + w)) _ h in
    let second = eqb-true (get_or s 4 0) (1 + w) (and_left _ _ h) in
    let size = eqb-true (length s) (6 + w + 1 + c) (and_right (leb c 32) _ h₂) in
    record { second = omega arith; third = leb-true c 32 (and_left _ _ h₂); size = omega arith }

-- what question 10 says
pub record Formed (epsilon : ℕ) (s : List ℕ) : Type 0 where
  pub first : get_or s 0 0 ≡ 3
  pub second : get_or s 4 0 ≡ suc (width epsilon)
  pub third : get_or s (6 + width epsilon) 0 ≤ 32
  pub size : length s ≡ 7 + width epsilon + get_or s (6 + width epsilon) 0

pub formed-from : (epsilon : ℕ) (s : List ℕ) → well_formed epsilon s ≡ true → Formed epsilon s
unfolding well_formed
formed-from epsilon s h =
    let l = later-formed-from epsilon s (and_right (eqb (get_or s 0 0) 3) _ h) in
    record { first = eqb-true (get_or s 0 0) 3 (and_left _ _ h); second = l.second; third = l.third; size = l.size }

pub formed-to : (epsilon : ℕ) (s : List ℕ) → Formed epsilon s → well_formed epsilon s ≡ true
unfolding well_formed frame_end payload_count_at
formed-to epsilon s o =
    let w = width epsilon in
    let c = get_or s (6 + w) 0 in
    let e2 : get_or s 4 0 ≡ 1 + w = omega arith in
    let e4 : length s ≡ 6 + w + 1 + c = omega arith in
    and_intro (eq-eqb (get_or s 0 0) 3 o.first) (and_intro (eq-eqb (get_or s 4 0) (1 + w) e2)
    (and_intro (le-leb c 32 o.third) (eq-eqb (length s) (6 + w + 1 + c) e4)))

pub well-formed-encode : (epsilon : ℕ) (f : Frame) → length f.stamp.kn ≡ width epsilon → length f.payload ≤ 32 → well_formed epsilon (encode f) ≡ true
unfolding well_formed
well-formed-encode epsilon f wide short =
    rw (encode-later f) (later-formed 3 f.station (f.stamp.r % 256) (f.stamp.r / 256) epsilon f wide short)

-- what a well-formed frame holds, by its later sections
later_of : {epsilon : ℕ} {s : List ℕ} → Formed epsilon s → LaterFormed epsilon s
later_of o = record { second = o.second; third = o.third; size = o.size }

pub later-wide : (epsilon : ℕ) (s : List ℕ) → LaterFormed epsilon s → length (decode epsilon s).stamp.kn ≡ width epsilon
unfolding decode counts_of
later-wide epsilon s o = rw (length-take, length-drop) (omega arith)

pub later-payload : (epsilon : ℕ) (s : List ℕ) → LaterFormed epsilon s → length (decode epsilon s).payload ≡ get_or s (6 + width epsilon) 0
unfolding decode payload_count_at
later-payload epsilon s o = rw length-drop (omega arith)

pub decode-wide : (epsilon : ℕ) (s : List ℕ) → Formed epsilon s → length (decode epsilon s).stamp.kn ≡ width epsilon
decode-wide epsilon s o = later-wide epsilon s (later_of o)

pub decode-payload : (epsilon : ℕ) (s : List ℕ) → Formed epsilon s → length (decode epsilon s).payload ≡ get_or s (6 + width epsilon) 0
decode-payload epsilon s o = later-payload epsilon s (later_of o)

-- a list by its first six places
six-front : (s : List ℕ) → 6 ≤ length s → s ≡ get_or s 0 0 ∷ get_or s 1 0 ∷ get_or s 2 0 ∷ get_or s 3 0 ∷ get_or s 4 0 ∷ get_or s 5 0 ∷ drop 6 s
unfolding tab
six-front s h = sym (take-append-drop 6 s) ∙ ap (λ (l : List ℕ). l ++ drop 6 s) (sym (tab-take 6 s 0 h))

-- the rest, by its counts, the count of the payload and the payload
rest_of : (w : ℕ) (s : List ℕ) → 6 + w < length s → take w (drop 6 s) ++ (get_or s (6 + w) 0 ∷ drop (6 + w + 1) s) ≡ drop 6 s
rest_of w s h = rw (add-one (6 + w), ← drop-cons s (6 + w) 0 h, ← drop-drop w 6 s) (take-append-drop w (drop 6 s))

-- the later sections of a frame, from what stands there
pub later-decoded : (epsilon : ℕ) (s : List ℕ) → LaterFormed epsilon s → later_sections (decode epsilon s) ≡ drop 4 s
unfolding decode counts_of payload_count_at section
later-decoded epsilon s o =
    let w = later-wide epsilon s o in
    let p = later-payload epsilon s o in
    let t = rest_of (width epsilon) s (omega arith) in
    rw (w, p, t, ← o.second) (sym (drop-cons s 4 0 (omega arith) ∙ ap (λ (l : List ℕ). get_or s 4 0 ∷ l) (drop-cons s 5 0 (omega arith))))

-- an accepted frame is the one that the writer makes of its contents; a byte is below 256
pub encode-decode : (epsilon : ℕ) (s : List ℕ) → every (λ b. ltb b 256) s ≡ true → well_formed epsilon s ≡ true → encode (decode epsilon s) ≡ s
unfolding decode counts_of two_at payload_count_at
encode-decode epsilon s bytes formed =
    let o = formed-from epsilon s formed in
    let w = decode-wide epsilon s o in
    let p = decode-payload epsilon s o in
    let low : get_or s 2 0 < 256 = ltb-true (get_or s 2 0) 256 (every-index (λ b. ltb b 256) s 0 bytes 2 (omega arith)) in
    let r0 : (get_or s 2 0 + 256 * get_or s 3 0) % 256 ≡ get_or s 2 0 = omega arith in
    let r1 : (get_or s 2 0 + 256 * get_or s 3 0) / 256 ≡ get_or s 3 0 = omega arith in
    let t = rest_of (width epsilon) s (omega arith) in
    rw (encode-bytes (decode epsilon s), w, p, r0, r1, t, ← o.second) (ap₂ ◌∷◌ (sym o.first) refl ∙ sym (six-front s (omega arith)))

-- questions 10 to 12, with others behind them: what they say, both ways
pub frame-passes : (s : Setup) (f : Frame) (qs : List Question) → FrameOk s f → first_no (frame_questions s (encode f) ++ qs) ≡ first_no qs
unfolding frame_questions first_no ask_form ask_range ask_stamp
frame-passes s f qs ok =
    rw (
      decode-encode s.epsilon f ok.sound.wide,
      well-formed-encode s.epsilon f ok.sound.wide ok.short,
      lt-ltb f.station s.n ok.station-below,
      lt-ltb f.stamp.r s.modulus ok.r-below,
      sound-to s.n s.epsilon f.stamp ok.sound,
    )

pub passes-encode : (s : Setup) (f : Frame) → Limits s → FrameOk s f → passes s (encode f) ≡ true
unfolding passes frame_questions first_no
passes-encode s f limits ok = ap (λ (n : ℕ). eqb n 0) (frame-passes s f [] ok)

-- a list of questions of which none gets a no: the first, and the others
pub none-no : (holds : Bool) (k : ℕ) (qs : List Question) → first_no (ask holds (suc k) ∷ qs) ≡ 0 → (holds ≡ true) × (first_no qs ≡ 0)
none-no holds k qs e = (first-yes holds k qs e, other-yes holds k qs e)

-- questions 11 and 12
pub bounds-passed :
    (s : Setup) (f : Frame) (qs : List Question) → 1 ≤ s.epsilon → length f.stamp.kn ≡ width s.epsilon → length f.payload ≤ 32
    → first_no (ask_range s f ∷ ask_stamp s f ∷ qs) ≡ 0 → FrameOk s f × (first_no qs ≡ 0)
unfolding ask_range ask_stamp
bounds-passed s f qs some wide short e =
    let q11 = none-no (ltb f.station s.n && ltb f.stamp.r s.modulus) 10 (ask_stamp s f ∷ qs) e in
    let q12 = none-no (sound_timestamp s.n s.epsilon f.stamp) 11 qs q11.1 in (
      record {
        station-below = ltb-true f.station s.n (and_left (ltb f.station s.n) (ltb f.stamp.r s.modulus) q11.0);
        r-below = ltb-true f.stamp.r s.modulus (and_right (ltb f.station s.n) (ltb f.stamp.r s.modulus) q11.0);
        sound = sound-from s.n s.epsilon f.stamp some wide q12.0;
        short = short;
      },
      q12.1,
    )

-- question 10
pub form-passed : (s : Setup) (bytes : List ℕ) (qs : List Question) → first_no (frame_questions s bytes ++ qs) ≡ 0 → well_formed s.epsilon bytes ≡ true
unfolding frame_questions ask_form
form-passed s bytes qs e =
    first-yes (well_formed s.epsilon bytes) 9 (ask_range s (decode s.epsilon bytes) ∷ ask_stamp s (decode s.epsilon bytes) ∷ qs) e

pub frame-passed : (s : Setup) (bytes : List ℕ) (qs : List Question) → Limits s → first_no (frame_questions s bytes ++ qs) ≡ 0 → FrameOk s (decode s.epsilon bytes) × (first_no qs ≡ 0)
unfolding frame_questions ask_form
frame-passed s bytes qs limits e =
    let f = decode s.epsilon bytes in
    let q10 = none-no (well_formed s.epsilon bytes) 9 (ask_range s f ∷ ask_stamp s f ∷ qs) e in
    let o = formed-from s.epsilon bytes q10.0 in
    bounds-passed s f qs limits.epsilon-pos (decode-wide s.epsilon bytes o) (rw (decode-payload s.epsilon bytes o) o.third) q10.1

pub passes-decode : (s : Setup) (bytes : List ℕ) → Limits s → passes s bytes ≡ true → FrameOk s (decode s.epsilon bytes)
unfolding passes frame_questions
passes-decode s bytes limits h =
    (frame-passed s bytes [] limits (eqb-true (first_no (frame_questions s bytes)) 0 h)).0

pub passes-formed : (s : Setup) (bytes : List ℕ) → passes s bytes ≡ true → well_formed s.epsilon bytes ≡ true
unfolding passes frame_questions
passes-formed s bytes h = form-passed s bytes [] (eqb-true (first_no (frame_questions s bytes)) 0 h)

-- what was joined is cut up again, whatever stands behind it, where each piece says where it ends
module _ {A : Type 0} (end : List ℕ → ℕ) (bytes : A → List ℕ) where
  pub cut-joined-by :
      (queue : List A) (rest : List ℕ) → ((x : A) → Memᴰ x queue → (l : List ℕ) → end (bytes x ++ l) ≡ length (bytes x))
      → cut_by end (length queue) (joined bytes queue ++ rest) ≡ map bytes queue
  unfolding cut_by joined
  cut-joined-by [] rest ends = refl
  cut-joined-by (x ∷ queue) rest ends =
      rw (
        append_assoc (bytes x) (joined bytes queue) rest,
        ends x (Memᴰ.head refl) (joined bytes queue ++ rest),
        take-append_seam,
        drop-append_seam,
      )
      (ap₂ ◌∷◌ refl (cut-joined-by queue rest (λ y m. ends y (Memᴰ.tail m))))

-- the count of a queue or a delivery
pub two-at-frames : (bytes : Frame → List ℕ) (queue : List Frame) (rest : List ℕ) → two_at (frames_by bytes queue ++ rest) 0 ≡ length queue
unfolding two_at two_bytes
two-at-frames bytes queue rest = two_bytes_lem (length queue)

-- and its frames, whatever stands behind them
pub cut-frames :
    (end : List ℕ → ℕ) (bytes : Frame → List ℕ) (queue : List Frame) (rest : List ℕ)
    → ((f : Frame) → Memᴰ f queue → (l : List ℕ) → end (bytes f ++ l) ≡ length (bytes f))
    → cut_by end (two_at (frames_by bytes queue ++ rest) 0) (drop 2 (frames_by bytes queue ++ rest)) ≡ map bytes queue
unfolding two_at two_bytes
cut-frames end bytes queue rest ends = rw (two_bytes_lem (length queue)) (cut-joined-by end bytes queue rest ends)

pub held-encode :
    (epsilon : ℕ) (queue : List Frame) (rest : List ℕ)
    → ((f : Frame) → Memᴰ f queue → length f.stamp.kn ≡ width epsilon) → length queue < 65536
    → held_bytes epsilon (encode_frames queue ++ rest) ≡ map encode queue
unfolding held_bytes encode_frames cut_frames
held-encode epsilon queue rest wide few = cut-frames (frame_end epsilon) encode queue rest (λ f m l. frame-end epsilon f l (wide f m))

pub two-at-encode : (queue : List Frame) (rest : List ℕ) → two_at (encode_frames queue ++ rest) 0 ≡ length queue
unfolding encode_frames
two-at-encode queue rest = two-at-frames encode queue rest

-- a shelf holds as many frames as its count says
pub length-cut-by : (end : List ℕ → ℕ) (k : ℕ) (s : List ℕ) → length (cut_by end k s) ≡ k
unfolding cut_by
length-cut-by end zero s = refl
length-cut-by end (suc k) s = ap suc (length-cut-by end k (drop (end s) s))

pub length_cut : (epsilon k : ℕ) (s : List ℕ) → length (cut_frames epsilon k s) ≡ k
unfolding cut_frames
length_cut epsilon k s = length-cut-by (frame_end epsilon) k s

pub length-held : (epsilon : ℕ) (s : List ℕ) → length (held epsilon s) ≡ two_at s 0
unfolding held held_bytes
length-held epsilon s = length-map (cut_frames epsilon (two_at s 0) (drop 2 s)) (decode epsilon) ∙ length_cut epsilon (two_at s 0) (drop 2 s)

-- what was encoded decodes
pub decode-each :
    (back : List ℕ → Frame) (bytes : Frame → List ℕ) (queue : List Frame) → ((f : Frame) → Memᴰ f queue → back (bytes f) ≡ f)
    → map back (map bytes queue) ≡ queue
decode-each back bytes queue same = map-map back bytes queue ∙ (map-ext (λ f. back (bytes f)) (λ f. f) queue same ∙ map-id queue)

pub decode-frames :
    (epsilon : ℕ) (queue : List Frame) → ((f : Frame) → Memᴰ f queue → length f.stamp.kn ≡ width epsilon)
    → map (decode epsilon) (map encode queue) ≡ queue
decode-frames epsilon queue wide = decode-each (decode epsilon) encode queue (λ f m. decode-encode epsilon f (wide f m))

pub held-frames :
    (epsilon : ℕ) (queue : List Frame) (rest : List ℕ)
    → ((f : Frame) → Memᴰ f queue → length f.stamp.kn ≡ width epsilon) → length queue < 65536
    → held epsilon (encode_frames queue ++ rest) ≡ queue
unfolding held
held-frames epsilon queue rest wide few =
    ap (map (decode epsilon)) (held-encode epsilon queue rest wide few) ∙ decode-frames epsilon queue wide

pub held-holdback :
    (epsilon size : ℕ) (queue : List Frame)
    → ((f : Frame) → Memᴰ f queue → length f.stamp.kn ≡ width epsilon) → length queue < 65536
    → held epsilon (encode_holdback size queue) ≡ queue
unfolding encode_holdback padded
held-holdback epsilon size queue wide few = held-frames epsilon queue (replicate (size - length (encode_frames queue)) 0) wide few

-- a frame has its longest length at most
pub frame-fits : (s : Setup) (f : Frame) → FrameOk s f → length (encode f) ≤ longest_frame s.epsilon
unfolding longest_frame
frame-fits s f ok = omega (arith, length-encode f)

-- so many frames of such a length fit
pub length-frames :
    (bytes : Frame → List ℕ) (queue : List Frame) (longest most : ℕ) → ((f : Frame) → Memᴰ f queue → length (bytes f) ≤ longest)
    → length queue ≤ most → length (frames_by bytes queue) ≤ 2 + longest * most
unfolding two_bytes
length-frames bytes queue longest most one few =
    omega (arith, length-joined-le bytes queue longest one, mul-le-mul_right longest few, mul_comm most longest)

pub length-holdback :
    (s : Setup) (queue : List Frame) → Limits s → ((f : Frame) → Memᴰ f queue → FrameOk s f)
    → length queue ≤ depth s.n s.epsilon s.delta
    → length (encode_holdback (holdback_length s.n s.epsilon s.delta) queue) ≡ holdback_length s.n s.epsilon s.delta
unfolding encode_holdback encode_frames holdback_length
length-holdback s queue limits ok few =
    length-padded _ (encode_frames queue)
    (length-frames encode queue (longest_frame s.epsilon) (depth s.n s.epsilon s.delta) (λ f m. frame-fits s f (ok f m)) few)
