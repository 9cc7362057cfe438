-- 02, 2.9: the frames of an engine with long clocks, and its shelf: what is written reads back the same.
-- Assumes nothing.
use Prim.Native.Nat.{ℕ, zero, suc, ◌+◌, ◌*◌, ◌/◌, ◌%◌, ◌^◌, ◌≤◌, ◌<◌}
use native.Mathlib.Omega.{arith}
use native.Mathlib.Nat.{pow-zero, pow-suc}
use native.Mathlib.Numerals.{add-one}
use mathlib.Core.Path.{◌≡◌, refl, sym, ap, ap₂, ◌∙◌}
use mathlib.Core.Bool.{true}
use mathlib.Core.List.{List, [], ◌∷◌, ◌++◌, map, append_assoc, append-nil, Memᴰ}
use lib.Dec.{eqb, ltb}
use lib.ListN.{length, take, drop, get_or, length-append, length-drop, take-append-drop}
use lib.Seq.{get_or-append_seam, take-append_seam, drop-append_seam, drop-cons, drop-drop}
use borrow.Author.Tests.{lt-ltb, eq-eqb, le-leb, eqb-true, ltb-true}
use Rattle.laws.specs.Lists.{every, joined}
use Rattle.laws.proofs.Numbers.{and_intro, and_left, and_right}
use Rattle.laws.proofs.Lists.{length-padded, every-index}
use Rattle.model.specs.Setup.{Setup, width}
use Rattle.model.specs.Frame.{Frame, section, two_at, later_sections, frame_end, decode}
use Rattle.model.specs.Question.{Question, first_no, ask_range, ask_stamp}
use Rattle.model.specs.Batch.{ends_after, entries_of}
use Rattle.model.specs.Long.{long_bound, plainly, six_on, low_first, number_at, long_encode, long_frame_end, long_formed, long_decode, long_frame_questions, long_passes, longest_long, long_most, long_holdback_size, long_held_bytes, long_held, long_encode_frames, long_encode_holdback}
use Rattle.lemmas.proofs.Bounds.{FrameOk}
use Rattle.lemmas.proofs.Counts.{sound-to}
use Rattle.lemmas.proofs.RoundTrip.{behind_four, decode-later, later-end, later-formed, LaterFormed, later-formed-from, later-wide, later-payload, later-decoded, none-no, bounds-passed, two-at-frames, cut-frames, decode-each, length-frames}

-- a number in k bytes, wherever it stands
pub number-low :
    (k x : ℕ) (front rest : List ℕ) → x < 256 ^ k → number_at k (front ++ (low_first k x ++ rest)) (length front) ≡ x
unfolding number_at low_first
number-low zero x front rest h = let one : x < 1 = rw (pow-zero 256) at h in omega arith
number-low (suc k) x front rest h =
    let below : x / 256 < 256 ^ k = omega (arith, pow-suc 256 k) in
    let low : get_or (front ++ (x % 256 ∷ (low_first k (x / 256) ++ rest))) (length front) 0 ≡ x % 256 = get_or-append_seam front (x % 256) (low_first k (x / 256) ++ rest) 0 in
    let high : number_at k (front ++ (x % 256 ∷ (low_first k (x / 256) ++ rest))) (length front + 1) ≡ x / 256 =
    ap₂ (number_at k) (sym (append_assoc front (x % 256 ∷ []) (low_first k (x / 256) ++ rest))) (sym (length-append front (x % 256 ∷ [])))
    ∙ number-low k (x / 256) (front ++ (x % 256 ∷ [])) rest below in
    omega arith

-- a clock of eight bytes
pub clock-fits : (x : ℕ) → x < long_bound → x < 256 ^ 8
clock-fits x h = omega arith

-- the upper four bytes of r, which stand before the later sections
abbrev upper_four : ℕ → ℕ
upper_four r = r / 256 / 256 / 256 / 256

abbrev upper : Frame → List ℕ
upper f =
    behind_four (upper_four f.stamp.r % 256) (upper_four f.stamp.r / 256 % 256) (upper_four f.stamp.r / 256 / 256 % 256) (upper_four f.stamp.r / 256 / 256 / 256 % 256) f

long-six : (f : Frame) (rest : List ℕ) → drop 6 (long_encode f ++ rest) ≡ upper f ++ rest
unfolding long_encode section low_first
long-six f rest = refl

long-whole : (f : Frame) → drop 6 (long_encode f) ≡ upper f
unfolding long_encode section low_first
long-whole f = refl

module _ (epsilon : ℕ) (f : Frame) (wide : length f.stamp.kn ≡ width epsilon) where
  upper-decoded : (decode epsilon (drop 6 (long_encode f))).stamp.c ≡ f.stamp.c × ((decode epsilon (drop 6 (long_encode f))).stamp.kn ≡ f.stamp.kn) × ((decode epsilon (drop 6 (long_encode f))).payload ≡ f.payload)
  upper-decoded =
      let same =
      ap (decode epsilon) (long-whole f)
      ∙ decode-later (upper_four f.stamp.r % 256) (upper_four f.stamp.r / 256 % 256) (upper_four f.stamp.r / 256 / 256 % 256) (upper_four f.stamp.r / 256 / 256 / 256 % 256) epsilon f wide in
      (ap (λ (g : Frame). g.stamp.c) same, ap (λ (g : Frame). g.stamp.kn) same, ap (λ (g : Frame). g.payload) same)

  pub length-long : length (long_encode f) ≡ 13 + length f.stamp.kn + length f.payload
  unfolding long_encode section low_first
  length-long = omega (arith, length-append f.stamp.kn (length f.payload ∷ f.payload))

  pub long-decode-encode : f.stamp.r < long_bound → long_decode epsilon (long_encode f) ≡ f
  unfolding long_decode
  long-decode-encode below =
      let clock : number_at 8 (long_encode f) 2 ≡ f.stamp.r = unfold long_encode section low_first in (number-low 8 f.stamp.r (9 ∷ f.station ∷ []) (later_sections f) (clock-fits f.stamp.r below)) in
      let station : get_or (long_encode f) 1 0 ≡ f.station = unfold long_encode section in refl in
      let (c-is, kn-is, payload-is) = upper-decoded in
      λ i. record { station = station i; stamp = record { r = clock i; c = c-is i; kn = kn-is i }; payload = payload-is i }

  -- where it ends, whatever stands behind it
  pub long-end : (rest : List ℕ) → long_frame_end epsilon (long_encode f ++ rest) ≡ length (long_encode f)
  unfolding long_frame_end
  long-end rest =
      let end : frame_end epsilon (drop 6 (long_encode f ++ rest)) ≡ 7 + length f.stamp.kn + length f.payload =
      ap (frame_end epsilon) (long-six f rest)
      ∙ later-end (upper_four f.stamp.r % 256) (upper_four f.stamp.r / 256 % 256) (upper_four f.stamp.r / 256 / 256 % 256) (upper_four f.stamp.r / 256 / 256 / 256 % 256) epsilon f wide rest in
      omega (arith, length-long)

  pub long-formed : length f.payload ≤ 32 → long_formed epsilon (long_encode f) ≡ true
  unfolding long_formed
  long-formed short =
      let first : get_or (long_encode f) 0 0 ≡ 9 = unfold long_encode section low_first in refl in
      and_intro (eq-eqb (get_or (long_encode f) 0 0) 9 first)
      (rw (long-whole f)
      (later-formed (upper_four f.stamp.r % 256) (upper_four f.stamp.r / 256 % 256) (upper_four f.stamp.r / 256 / 256 % 256) (upper_four f.stamp.r / 256 / 256 / 256 % 256) epsilon f wide short))

-- a frame in its bounds, those of a setup whose clocks are all below 2^63, passes 10 to 12
pub long-frame-passes : (s : Setup) (f : Frame) (qs : List Question) → FrameOk (plainly s) f → first_no (long_frame_questions s (long_encode f) ++ qs) ≡ first_no qs
unfolding long_frame_questions first_no ask_range ask_stamp
long-frame-passes s f qs ok =
    rw (
      long-decode-encode s.epsilon f ok.sound.wide ok.r-below,
      long-formed s.epsilon f ok.sound.wide ok.short,
      lt-ltb f.station s.n ok.station-below,
      lt-ltb f.stamp.r long_bound ok.r-below,
      sound-to s.n s.epsilon f.stamp ok.sound,
    )

pub long-passes-encode : (s : Setup) (f : Frame) → FrameOk (plainly s) f → long_passes s (long_encode f) ≡ true
unfolding long_passes first_no
long-passes-encode s f ok =
    ap (λ (n : ℕ). eqb n 0) (ap first_no (sym (append-nil (long_frame_questions s (long_encode f)))) ∙ long-frame-passes s f [] ok)

-- what question 10 says
pub record LongFormed (epsilon : ℕ) (s : List ℕ) : Type 0 where
  pub first : get_or s 0 0 ≡ 9
  pub later : LaterFormed epsilon (six_on s)
  pub long : length s ≡ 6 + length (six_on s)

pub long-formed-from : (epsilon : ℕ) (s : List ℕ) → long_formed epsilon s ≡ true → LongFormed epsilon s
unfolding long_formed
long-formed-from epsilon s h =
    let later = later-formed-from epsilon (six_on s) (and_right (eqb (get_or s 0 0) 9) _ h) in
    record { first = eqb-true (get_or s 0 0) 9 (and_left _ _ h); later = later; long = omega (arith, length-drop 6 s, later.size) }

-- questions 10 to 12, with others behind them: what they say
pub long-form-passed : (s : Setup) (bytes : List ℕ) (qs : List Question) → first_no (long_frame_questions s bytes ++ qs) ≡ 0 → long_formed s.epsilon bytes ≡ true
unfolding long_frame_questions
long-form-passed s bytes qs e =
    (none-no (long_formed s.epsilon bytes) 9 (ask_range (plainly s) (long_decode s.epsilon bytes) ∷ ask_stamp (plainly s) (long_decode s.epsilon bytes) ∷ qs) e).0

pub long-frame-passed :
    (s : Setup) (bytes : List ℕ) (qs : List Question) → 1 ≤ s.epsilon → first_no (long_frame_questions s bytes ++ qs) ≡ 0
    → FrameOk (plainly s) (long_decode s.epsilon bytes) × (first_no qs ≡ 0)
unfolding long_frame_questions long_decode
long-frame-passed s bytes qs some e =
    let f = long_decode s.epsilon bytes in
    let q10 = none-no (long_formed s.epsilon bytes) 9 (ask_range (plainly s) f ∷ ask_stamp (plainly s) f ∷ qs) e in
    let o = (long-formed-from s.epsilon bytes q10.0).later in
    bounds-passed (plainly s) f qs some (later-wide s.epsilon (six_on bytes) o)
    (rw (later-payload s.epsilon (six_on bytes) o) o.third) q10.1

pub long-passes-formed : (s : Setup) (bytes : List ℕ) → long_passes s bytes ≡ true → long_formed s.epsilon bytes ≡ true
unfolding long_passes
long-passes-formed s bytes h =
    long-form-passed s bytes [] (ap first_no (append-nil (long_frame_questions s bytes)) ∙ eqb-true (first_no (long_frame_questions s bytes)) 0 h)

pub long-passes-decode : (s : Setup) (bytes : List ℕ) → 1 ≤ s.epsilon → long_passes s bytes ≡ true → FrameOk (plainly s) (long_decode s.epsilon bytes)
unfolding long_passes
long-passes-decode s bytes some h =
    (long-frame-passed s bytes [] some (ap first_no (append-nil (long_frame_questions s bytes)) ∙ eqb-true (first_no (long_frame_questions s bytes)) 0 h)).0

-- the bytes of a number, from the number that they make; a byte is below 256
pub low-number :
    (k : ℕ) (s : List ℕ) (at : ℕ) → ((i : ℕ) → i < length s → get_or s i 0 < 256) → at + k ≤ length s → low_first k (number_at k s at) ≡ take k (drop at s)
unfolding number_at low_first
low-number zero s at bytes h = refl
low-number (suc k) s at bytes h =
    let here : get_or s at 0 < 256 = bytes at (omega arith) in
    let low : (get_or s at 0 + 256 * number_at k s (at + 1)) % 256 ≡ get_or s at 0 = omega arith in
    let high : (get_or s at 0 + 256 * number_at k s (at + 1)) / 256 ≡ number_at k s (at + 1) = omega arith in
    rw (low, high, low-number k s (at + 1) bytes (omega arith), drop-cons s at 0 (omega arith), add-one at)

-- the bytes of a frame, opened
pub long-bytes : (f : Frame) → long_encode f ≡ 9 ∷ f.station ∷ (low_first 8 f.stamp.r ++ later_sections f)
unfolding long_encode section low_first
long-bytes f = refl

-- a list by its first two places and the eight behind them
front_of : (s : List ℕ) → 10 ≤ length s → get_or s 0 0 ∷ get_or s 1 0 ∷ (take 8 (drop 2 s) ++ drop 10 s) ≡ s
front_of s h =
    let two : s ≡ get_or s 0 0 ∷ get_or s 1 0 ∷ drop 2 s = drop-cons s 0 0 (omega arith) ∙ ap (λ (l : List ℕ). get_or s 0 0 ∷ l) (drop-cons s 1 0 (omega arith)) in
    let rest : take 8 (drop 2 s) ++ drop 10 s ≡ drop 2 s = ap (λ (l : List ℕ). take 8 (drop 2 s) ++ l) (sym (drop-drop 8 2 s)) ∙ take-append-drop 8 (drop 2 s) in
    ap (λ (l : List ℕ). get_or s 0 0 ∷ get_or s 1 0 ∷ l) rest ∙ sym two

-- an accepted frame is the one that the writer makes of its contents; a byte is below 256
pub long-encode-decode : (epsilon : ℕ) (s : List ℕ) → every (λ b. ltb b 256) s ≡ true → long_formed epsilon s ≡ true → long_encode (long_decode epsilon s) ≡ s
unfolding long_decode
long-encode-decode epsilon s bytes formed =
    let o = long-formed-from epsilon s formed in
    let later : later_sections (long_decode epsilon s) ≡ drop 10 s = unfold long_decode in later-decoded epsilon (six_on s) o.later ∙ drop-drop 4 6 s in
    let size : 10 ≤ length s = omega arith in
    let small : (i : ℕ) → i < length s → get_or s i 0 < 256 = λ i h. ltb-true (get_or s i 0) 256 (every-index (λ b. ltb b 256) s 0 bytes i h) in
    long-bytes (long_decode epsilon s)
    ∙ (ap₂ ◌∷◌ (sym o.first) (ap (λ (l : List ℕ). get_or s 1 0 ∷ l) (ap₂ ◌++◌ (low-number 8 s 2 small size) later)) ∙ front_of s size)

-- the frames of a shelf or a hand-out, whatever stands behind them
module _ (s : Setup) (queue : List Frame) (ok : (f : Frame) → Memᴰ f queue → FrameOk (plainly s) f) where
  pub long-held-bytes : (rest : List ℕ) → long_held_bytes s.epsilon (long_encode_frames queue ++ rest) ≡ map long_encode queue
  unfolding long_held_bytes long_encode_frames
  long-held-bytes rest =
      cut-frames (long_frame_end s.epsilon) long_encode queue rest (λ f m l. long-end s.epsilon f (ok f m).sound.wide l)

  pub long-held-frames : (rest : List ℕ) → long_held s.epsilon (long_encode_frames queue ++ rest) ≡ queue
  unfolding long_held
  long-held-frames rest =
      ap (map (long_decode s.epsilon)) (long-held-bytes rest)
      ∙ decode-each (long_decode s.epsilon) long_encode queue (λ f m. long-decode-encode s.epsilon f (ok f m).sound.wide (ok f m).r-below)

  pub long-fits : length queue ≤ long_most → length (long_encode_frames queue) ≤ long_holdback_size s
  unfolding long_encode_frames long_holdback_size longest_long
  long-fits few =
      length-frames long_encode queue (45 + width s.epsilon) long_most
      (λ f m. omega (arith, length-long s.epsilon f (ok f m).sound.wide, (ok f m).sound.wide, (ok f m).short)) few

  pub long-size : length queue ≤ long_most → length (long_encode_holdback (long_holdback_size s) queue) ≡ long_holdback_size s
  unfolding long_encode_holdback
  long-size few = length-padded (long_holdback_size s) (long_encode_frames queue) (long-fits few)

pub long-count : (queue : List Frame) (rest : List ℕ) → two_at (long_encode_frames queue ++ rest) 0 ≡ length queue
unfolding long_encode_frames
long-count queue rest = two-at-frames long_encode queue rest

-- a bundle of entries
module _ {A : Type 0} (bytes : A → List ℕ) where
  pub batch-ends : (l : List A) → ends_after (length l) (joined (λ x. length (bytes x) ∷ bytes x) l) ≡ true
  unfolding ends_after joined
  batch-ends [] = refl
  batch-ends (x ∷ l) =
      and_intro
      (le-leb (length (bytes x)) (length (bytes x ++ joined (λ y. length (bytes y) ∷ bytes y) l))
      (omega (arith, length-append (bytes x) (joined (λ y. length (bytes y) ∷ bytes y) l))))
      (rw (drop-append_seam (bytes x) (joined (λ y. length (bytes y) ∷ bytes y) l)) (batch-ends l))

  pub batch-entries : (l : List A) → entries_of (length l) (joined (λ x. length (bytes x) ∷ bytes x) l) ≡ map bytes l
  unfolding entries_of joined
  batch-entries [] = refl
  batch-entries (x ∷ l) =
      ap₂ ◌∷◌ (take-append_seam (bytes x) (joined (λ y. length (bytes y) ∷ bytes y) l))
      (ap (entries_of (length l)) (drop-append_seam (bytes x) (joined (λ y. length (bytes y) ∷ bytes y) l)) ∙ batch-entries l)
