-- Reader and writer are inverse to one another, and so are the encodings of the queue and of the delivery: of a station's codec and of an engine's.
-- Assumes nothing.
use Prim.Native.Nat.{ℕ, zero, suc, ◌+◌, ◌*◌, ◌-◌, ◌/◌, ◌%◌, ◌≤◌, ◌<◌}
use native.Mathlib.Omega.{arith}
use mathlib.Core.Path.{◌≡◌, refl, sym, ap, ◌∙◌}
use mathlib.Core.Bool.{Bool, true, ◌&&◌}
use mathlib.Core.List.{List, [], ◌∷◌, ◌++◌, map, append_assoc, Memᴰ}
use lib.Dec.{leb, ltb}
use lib.ListN.{length, take, drop, replicate, length-map, take-append-drop}
use lib.Seq.{drop-append_seam}
use borrow.Author.Tests.{le-leb, lt-ltb, leb-true, ltb-true, eqb-true}
use Rattle.laws.specs.Lists.{every, joined, overlay, padded}
use Rattle.laws.proofs.Numbers.{and_left, and_right}
use Rattle.laws.proofs.Lists.{every-mem, every_take, every_drop, every-mono, take-overlay}
use Rattle.model.specs.Setup.{Setup, width, in_limits, is_member, depth, holdback_length, longest_payload}
use Rattle.model.specs.Timestamp.{Timestamp, trimmed, widened}
use Rattle.model.specs.Frame.{Frame, encode, decode, well_formed, frame_end, two_at, two_bytes}
use Rattle.model.specs.Question.{ask, first_no, ask_setup, ask_form, ask_range, ask_stamp, frame_questions}
use Rattle.model.specs.Codec.{ask_payload, ReadAnswer, read_questions, read_by, read, frame_of, WriteAnswer, write_frame_questions, written_by, write_by, write_frame}
use Rattle.model.specs.Holdback.{cut_frames, cut_by, held_bytes, held, passes, sound_holdback, frames_by, encode_frames, encode_holdback}
use Rattle.theory.specs.Demand2.{are_bytes, has_width, Demand2Codec}
use Rattle.lemmas.proofs.Bounds.{FrameOk}
use Rattle.lemmas.proofs.Questions.{setup-from, first-yes}
use Rattle.lemmas.proofs.Counts.{sound-to, trimmed-wide, trimmed-widened}
use Rattle.lemmas.proofs.RoundTrip.{none-no, length-cut-by, bounds-passed, formed-from, decode-wide, decode-payload, passes-formed, well-formed-encode, decode-encode, encode-decode, held-frames, held-holdback}

-- ---- a frame, whatever its first section is

-- how a frame is laid down and told, where 1 asks whether this holds: what is laid down is well-formed and holds the frame, and the other way round
pub record Coding (s : Setup) (valid : Bool) (formed : List ℕ → Bool) (back : List ℕ → Frame) (bytes : Frame → List ℕ) : Type 0 where
  pub limits : valid ≡ true → (1 ≤ s.epsilon) × (s.epsilon ≤ 16)
  pub made : (f : Frame) → FrameOk s f → (formed (bytes f) ≡ true) × (back (bytes f) ≡ f)
  pub shape : (b : List ℕ) → formed b ≡ true → (length (back b).stamp.kn ≡ width s.epsilon) × (length (back b).payload ≤ 32)
  pub again : (b : List ℕ) → every (λ x. ltb x 256) b ≡ true → formed b ≡ true → bytes (back b) ≡ b

module _ (s : Setup) (valid : Bool) (formed : List ℕ → Bool) (back : List ℕ → Frame) (bytes : Frame → List ℕ) where
  abbrev read_with : List ℕ → ReadAnswer
  read_with b = read_by (first_no (ask valid 1 ∷ ask (formed b) 10 ∷ ask_range s (back b) ∷ ask_stamp s (back b) ∷ [])) (back b)

  abbrev number_of : Frame → List ℕ → ℕ
  number_of f buffer =
      first_no (ask valid 1 ∷ ask_payload f.payload ∷ ask_range s f ∷ ask_stamp s f ∷ ask (leb (length (bytes f)) (length buffer)) 6 ∷ [])

  abbrev write_with : Frame → List ℕ → WriteAnswer
  write_with f buffer = written_by (number_of f buffer) (bytes f) buffer

  -- the writer accepts what is in its bounds and fits, and nothing else
  pub record Written (f : Frame) (buffer : List ℕ) : Type 0 where
    pub setup : valid ≡ true
    pub frame : FrameOk s f
    pub fits : length (bytes f) ≤ length buffer

  pub written-with : (f : Frame) (buffer : List ℕ) → Written f buffer → write_with f buffer ≡ written_by 0 (bytes f) buffer
  unfolding ask_payload ask_range ask_stamp first_no
  written-with f buffer o =
      rw (
        o.setup,
        le-leb (length f.payload) longest_payload o.frame.short,
        lt-ltb f.station s.n o.frame.station-below,
        lt-ltb f.stamp.r s.modulus o.frame.r-below,
        sound-to s.n s.epsilon f.stamp o.frame.sound,
        le-leb (length (bytes f)) (length buffer) o.fits,
      )

  -- a number 0 says that no question got a no
  write-number : (f : Frame) (buffer : List ℕ) → (write_with f buffer).number ≡ 0 → number_of f buffer ≡ 0
  write-number f buffer = go (number_of f buffer)
    where
      go : (k : ℕ) → (written_by k (bytes f) buffer).number ≡ 0 → k ≡ 0
      go zero e = refl
      go (suc k) e = e

  pub read-number-with : (b : List ℕ) → (read_with b).number ≡ 0 → first_no (ask valid 1 ∷ ask (formed b) 10 ∷ ask_range s (back b) ∷ ask_stamp s (back b) ∷ []) ≡ 0
  read-number-with b = go (first_no (ask valid 1 ∷ ask (formed b) 10 ∷ ask_range s (back b) ∷ ask_stamp s (back b) ∷ []))
    where
      go : (k : ℕ) → (read_by k (back b)).number ≡ 0 → k ≡ 0
      go zero e = refl
      go (suc k) e = e

  module _ (coding : Coding s valid formed back bytes) where
    written_from : (f : Frame) (buffer : List ℕ) → length f.stamp.kn ≡ width s.epsilon → number_of f buffer ≡ 0 → Written f buffer
    unfolding ask_payload
    written_from f buffer wide e =
        let room = ask (leb (length (bytes f)) (length buffer)) 6 in
        let q1 = none-no valid 0 (ask_payload f.payload ∷ ask_range s f ∷ ask_stamp s f ∷ room ∷ []) e in
        let q4 = none-no (leb (length f.payload) longest_payload) 3 (ask_range s f ∷ ask_stamp s f ∷ room ∷ []) q1.1 in
        let q12 = bounds-passed s f (room ∷ []) (coding.limits q1.0).0 wide (leb-true (length f.payload) longest_payload q4.0) q4.1 in
        record {
          setup = q1.0;
          frame = q12.0;
          fits = leb-true (length (bytes f)) (length buffer) (first-yes (leb (length (bytes f)) (length buffer)) 5 [] q12.1);
        }

    -- the reader accepts what the writer makes
    pub read_made : (f : Frame) → valid ≡ true → FrameOk s f → read_with (bytes f) ≡ read_by 0 f
    unfolding ask_range ask_stamp first_no
    read_made f ok frame =
        rw (
          (coding.made f frame).1,
          ok,
          (coding.made f frame).0,
          lt-ltb f.station s.n frame.station-below,
          lt-ltb f.stamp.r s.modulus frame.r-below,
          sound-to s.n s.epsilon f.stamp frame.sound,
        )

    -- a written frame reads back the same: the writer's station, stamp and ticket; the places past the 2ε counts come back 0
    pub read-written :
        (station : ℕ) (t : Timestamp) (payload buffer : List ℕ) → (write_with (frame_of s.epsilon station t payload) buffer).number ≡ 0
        → read_with (take (write_with (frame_of s.epsilon station t payload) buffer).size (write_with (frame_of s.epsilon station t payload) buffer).buffer)
        ≡ record { number = 0; station = station; stamp = widened (trimmed s.epsilon t); payload = payload }
    unfolding frame_of
    read-written station t payload buffer e =
        let f = frame_of s.epsilon station t payload in
        let o = written_from f buffer (trimmed-wide s.epsilon t) (write-number f buffer e) in
        let w = written-with f buffer o in
        ap (λ (a : WriteAnswer). read_with (take a.size a.buffer)) w
        ∙ (ap read_with (take-overlay (bytes f) buffer) ∙ read_made f o.setup o.frame)

    -- an accepted frame, its bytes below 256, is what the writer makes of its contents, in any buffer that is long enough
    pub written_read :
        (b buffer : List ℕ) → every (λ x. ltb x 256) b ≡ true → (read_with b).number ≡ 0 → length b ≤ length buffer
        → write_with (frame_of s.epsilon (read_with b).station (read_with b).stamp (read_with b).payload) buffer
        ≡ record { number = 0; size = length b; buffer = overlay b buffer }
    unfolding frame_of
    written_read b buffer below e fits =
        let z = read-number-with b e in
        let f = back b in
        let q1 = none-no valid 0 (ask (formed b) 10 ∷ ask_range s f ∷ ask_stamp s f ∷ []) z in
        let q10 = none-no (formed b) 9 (ask_range s f ∷ ask_stamp s f ∷ []) q1.1 in
        let (wide, short) = coding.shape b q10.0 in
        let ok = (bounds-passed s f [] (coding.limits q1.0).0 wide short q10.1).0 in
        let same : bytes f ≡ b = coding.again b below q10.0 in
        let whole : frame_of s.epsilon f.station (widened f.stamp) f.payload ≡ f =
        ap (λ (t : Timestamp). record { station = f.station; stamp = t; payload = f.payload }) (trimmed-widened s.epsilon f.stamp (coding.limits q1.0).1 wide) in
        rw (z, whole, written-with f buffer (record { setup = q1.0; frame = ok; fits = rw same fits }), same)

-- ---- the frames of a queue or a delivery

-- a two-byte number, written again
two-front : (s : List ℕ) → 2 ≤ length s → every (λ b. ltb b 256) s ≡ true → two_bytes (two_at s 0) ++ drop 2 s ≡ s
unfolding two_bytes two_at every
two-front [] h below = absurd (omega arith)
two-front (x ∷ []) h below = absurd (omega arith)
two-front (x ∷ (y ∷ s)) h below =
    let low : x < 256 = ltb-true x 256 (and_left (ltb x 256) _ below) in
    let e : (x + 256 * y) % 256 ≡ x = omega arith in
    let q : (x + 256 * y) / 256 ≡ y = omega arith in
    rw (e, q)

-- general: what a list begins with can be laid over it
overlay-front : (e rest l : List ℕ) → e ++ rest ≡ l → overlay e l ≡ l
unfolding overlay
overlay-front e rest l h = rw (← h, drop-append_seam e rest)

module _ (end : List ℕ → ℕ) (formed : List ℕ → Bool) (back : List ℕ → Frame) (bytes : Frame → List ℕ)
    (again : (b : List ℕ) → every (λ x. ltb x 256) b ≡ true → formed b ≡ true → bytes (back b) ≡ b) where
  -- k frames of which each is well formed, and the rest
  cut-front :
      (k : ℕ) (s : List ℕ) → every (λ b. ltb b 256) s ≡ true → every formed (cut_by end k s) ≡ true
      → (rest : List ℕ) × (joined bytes (map back (cut_by end k s)) ++ rest ≡ s)
  unfolding cut_by joined every
  cut-front zero s below all = (s, refl)
  cut-front (suc k) s below all =
      let n = end s in
      let t = cut-front k (drop n s) (every_drop (λ b. ltb b 256) n s below) (and_right (formed (take n s)) _ all) in (
        t.0,
        rw (again (take n s) (every_take (λ b. ltb b 256) n s below) (and_left (formed (take n s)) _ all), append_assoc (take n s) (joined bytes (map back (cut_by end k (drop n s)))) t.0, t.1)
            (take-append-drop n s),
      )

  -- bytes that hold well-formed frames begin with what is made of these frames
  pub front_by :
      (s : List ℕ) → 2 ≤ length s → every (λ b. ltb b 256) s ≡ true → every formed (cut_by end (two_at s 0) (drop 2 s)) ≡ true
      → overlay (frames_by bytes (map back (cut_by end (two_at s 0) (drop 2 s)))) s ≡ s
  front_by s long below all =
      let pieces = cut_by end (two_at s 0) (drop 2 s) in
      let body = joined bytes (map back pieces) in
      let t = cut-front (two_at s 0) (drop 2 s) (every_drop (λ b. ltb b 256) 2 s below) all in
      let count : length (map back pieces) ≡ two_at s 0 = length-map pieces back ∙ length-cut-by end (two_at s 0) (drop 2 s) in
      overlay-front (two_bytes (length (map back pieces)) ++ body) t.0 s
      (rw (count, append_assoc (two_bytes (two_at s 0)) body t.0, t.1) (two-front s long below))

-- and where zeros stand behind them, the whole of it is what the tick writes
pub whole_by : (size : ℕ) (front bytes : List ℕ) → overlay front bytes ≡ bytes → drop (length front) bytes ≡ replicate (size - length front) 0 → padded size front ≡ bytes
unfolding padded overlay
whole_by size front bytes laid zeros = ap (λ (l : List ℕ). front ++ l) (sym zeros) ∙ laid

-- ---- a station's

module _ (s : Setup) (own : ℕ) where
  station-coding : Coding s (in_limits s && is_member s own) (well_formed s.epsilon) (decode s.epsilon) encode
  station-coding =
      record {
        limits = λ h. let l = (setup-from s own h).0 in (l.epsilon-pos, l.epsilon-most);
        made = λ f ok. (well-formed-encode s.epsilon f ok.sound.wide ok.short, decode-encode s.epsilon f ok.sound.wide);
        shape = λ b h.
            let o = formed-from s.epsilon b h in
            (decode-wide s.epsilon b o, rw (decode-payload s.epsilon b o) o.third);
        again = encode-decode s.epsilon;
      }

  pub written-to :
      (f : Frame) (buffer : List ℕ) → (in_limits s && is_member s own) ≡ true → FrameOk s f → length (encode f) ≤ length buffer
      → write_frame s own f buffer ≡ write_by 0 f buffer
  unfolding write_frame write_frame_questions ask_setup
  written-to f buffer valid ok fits =
      written-with s (in_limits s && is_member s own) (well_formed s.epsilon) (decode s.epsilon) encode f buffer
      (record { setup = valid; frame = ok; fits = fits })

pub frames-front :
    (epsilon : ℕ) (bytes : List ℕ) → 2 ≤ length bytes → every (λ b. ltb b 256) bytes ≡ true → every (well_formed epsilon) (held_bytes epsilon bytes) ≡ true
    → overlay (encode_frames (held epsilon bytes)) bytes ≡ bytes
unfolding encode_frames held held_bytes cut_frames
frames-front epsilon bytes long below all =
    front_by (frame_end epsilon) (well_formed epsilon) (decode epsilon) encode (encode-decode epsilon) bytes long below all

-- the frames of a sound queue, encoded, are the front of its bytes
pub holdback-front :
    (s : Setup) (v least : ℕ) (bytes : List ℕ) → 2 ≤ length bytes → every (λ b. ltb b 256) bytes ≡ true → sound_holdback s v least bytes ≡ true
    → overlay (encode_frames (held s.epsilon bytes)) bytes ≡ bytes
unfolding sound_holdback
holdback-front s v least bytes long below h =
    let h₁ = and_right (leb (two_at bytes 0) (depth s.n s.epsilon s.delta)) _ h in
    let all = and_left (every (passes s) (held_bytes s.epsilon bytes)) _ h₁ in
    frames-front s.epsilon bytes long below
    (every-mono (passes s) (well_formed s.epsilon) (held_bytes s.epsilon bytes) (λ b p. passes-formed s b p) all)

-- the frames of a delivery, laid over the caller's buffer
pub held-delivery :
    (epsilon : ℕ) (queue : List Frame) (old : List ℕ)
    → ((f : Frame) → Memᴰ f queue → length f.stamp.kn ≡ width epsilon) → length queue < 65536
    → held epsilon (overlay (encode_frames queue) old) ≡ queue
unfolding overlay
held-delivery epsilon queue old wide few = held-frames epsilon queue (drop (length (encode_frames queue)) old) wide few

-- the test for 2ε counts, as the lemmas say it
all-wide :
    (epsilon : ℕ) (queue : List Frame) → every (has_width epsilon) queue ≡ true
    → (f : Frame) → Memᴰ f queue → length f.stamp.kn ≡ width epsilon
unfolding has_width
all-wide epsilon queue h f m = eqb-true (length f.stamp.kn) (width epsilon) (every-mem (has_width epsilon) h m)

pub demand2-codec : Demand2Codec
unfolding are_bytes read read_questions ask_setup frame_questions ask_form write_frame write_frame_questions encode_holdback holdback_length
demand2-codec s own =
    let valid = in_limits s && is_member s own in
    record {
      frame_read = read-written s valid (well_formed s.epsilon) (decode s.epsilon) encode (station-coding s own);
      frame_written = written_read s valid (well_formed s.epsilon) (decode s.epsilon) encode (station-coding s own);
      holdback_read = λ size queue wide few. held-holdback s.epsilon size queue (all-wide s.epsilon queue wide) few;
      holdback_written = λ v least bytes size below h zeros.
          whole_by (holdback_length s.n s.epsilon s.delta) (encode_frames (held s.epsilon bytes)) bytes
          (holdback-front s v least bytes (omega arith) below h) zeros;
      delivery_read = λ queue old wide few. held-delivery s.epsilon queue old (all-wide s.epsilon queue wide) few;
      delivery_written = frames-front s.epsilon;
    }
