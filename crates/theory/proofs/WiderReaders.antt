-- 02, 2.10: reader and writer with both pairs are inverse to one another, for each width.
-- Assumes nothing.
use Prim.Native.Nat.{ℕ, zero, suc, ◌≤◌}
use native.Mathlib.Omega.{arith}
use mathlib.Core.Path.{◌≡◌, refl, sym, ap, subst, ◌∙◌}
use mathlib.Core.Bool.{Bool, true, false, ◌&&◌}
use mathlib.Core.List.{List, [], Memᴰ}
use mathlib.Core.Logic.{inl, inr}
use lib.Dec.{leb, ltb}
use lib.ListN.{length, take, drop}
use borrow.Author.Tests.{eqb-true, le-leb, lt-ltb, le-ltb, leb-true, ltb-true}
use Rattle.laws.specs.Lists.{every, overlay}
use Rattle.laws.proofs.Numbers.{lt-or-ge, and_left, and_right}
use Rattle.laws.proofs.Lists.{every-mem, every-mono, take-overlay}
use Rattle.model.specs.Setup.{Setup, width, depth_of, holdback_length, is_member, longest_payload}
use Rattle.model.specs.Timestamp.{Timestamp, trimmed, widened}
use Rattle.model.specs.Frame.{Frame, two_at, encode}
use Rattle.model.specs.Question.{first_no, ask_range}
use Rattle.model.specs.Codec.{ask_payload, frame_of, WriteAnswer, written_by}
use Rattle.model.specs.Holdback.{encode_frames, encode_holdback}
use Rattle.model.specs.Tick.{holdback_size}
use Rattle.model.specs.Schedule.{Schedule, widest_of, Wider, both_in_limits, ask_both, ask_wider, along, own_limits}
use Rattle.model.specs.Wider.{wider_formed, wider_decode, wider_end, frame_half, sound_within, questions_within, wider_frame_questions, wider_held_bytes, wider_held, wider_passes, wider_sound_holdback}
use Rattle.model.specs.WiderCalls.{pairs_of, read_in_questions, ReadInAnswer, is_wide, read_in_by, read_in, written_half, write_in_questions, write_in}
use Rattle.theory.specs.Demand2.{are_bytes, has_width}
use Rattle.theory.specs.WiderAny.{fits_in, Demand2CodecIn}
use Rattle.lemmas.proofs.Bounds.{Sound}
use Rattle.lemmas.proofs.Questions.{yes-cons}
use Rattle.lemmas.proofs.RoundTrip.{none-no}
use Rattle.lemmas.proofs.Counts.{trimmed-wide, trimmed-widened}
use Rattle.lemmas.proofs.WideFrames.{Half, half-one, has_width_lem, wide-decode, wide-encode, within-from, within-to, FrameWithin, within-passes, within-passed, wide-held, wide-holdback}
use Rattle.lemmas.proofs.WiderCall.{BothPairs, both-from}
use Rattle.theory.proofs.Readers.{front_by, whole_by}

-- the setup with another ε
abbrev with_half : Setup → ℕ → Setup
with_half s half = record { n = s.n; epsilon = half; delta = s.delta; modulus = s.modulus }

module _ (s : Setup) (w : Wider) (own : ℕ) where
  abbrev pairs : Schedule
  pairs = pairs_of s w

  -- 1 and 19
  abbrev asked : Bool
  asked = both_in_limits s w && is_member s own

  abbrev wider : Bool
  wider = leb s.epsilon w.epsilon && leb s.delta w.delta

  -- what is written has one of the two widths
  written-half : (wide : Bool) → Half pairs (written_half s w wide)
  written-half true = inr refl
  written-half false = inl refl

  half-limits : BothPairs s w → (half : ℕ) → Half pairs half → (1 ≤ half) × (half ≤ 16)
  half-limits both half (inl e) = (omega (arith, both.widens.old.epsilon-pos), omega (arith, both.widens.old.epsilon-most))
  half-limits both half (inr e) = (omega (arith, both.widens.new.epsilon-pos), omega (arith, both.widens.new.epsilon-most))

  -- a half width, as the writer is told it
  told-half : BothPairs s w → (half : ℕ) → Half pairs half → written_half s w (ltb s.epsilon half) ≡ half
  told-half both half (inl e) = rw (le-ltb s.epsilon half (omega arith)) (sym e)
  told-half both half (inr e) =
      elim (lt-or-ge s.epsilon half) [
        | inl h ↦ rw (lt-ltb s.epsilon half h) (sym e)
        | inr h ↦ rw (le-ltb s.epsilon half h) (omega (arith, both.widens.epsilon))
      ]

  -- the writer accepts what is in its bounds and fits, and nothing else
  record Writes (half : ℕ) (f : Frame) (buffer : List ℕ) : Type 0 where
    setup : asked ≡ true
    larger : wider ≡ true
    frame : FrameWithin pairs (with_half s half) f
    same : frame_half pairs f ≡ half
    fits : length (encode f) ≤ length buffer

  writes-from :
      (half : ℕ) (f : Frame) (buffer : List ℕ) → Half pairs half → length f.stamp.kn ≡ width half → first_no (write_in_questions s w own half f buffer) ≡ 0
      → BothPairs s w × Writes half f buffer
  unfolding write_in_questions ask_both ask_wider ask_payload ask_range
  writes-from half f buffer is wide e =
      let q1 = none-no asked 0 _ e in
      let q19 = none-no wider 18 _ q1.1 in
      let q4 = none-no (leb (length f.payload) longest_payload) 3 _ q19.1 in
      let q11 = none-no (ltb f.station s.n && ltb f.stamp.r s.modulus) 10 _ q4.1 in
      let q12 = none-no (sound_within s.n half half f.stamp) 11 _ q11.1 in
      let q6 = none-no (leb (length (encode f)) (length buffer)) 5 [] q12.1 in
      let both = both-from s w (and_left (both_in_limits s w) (is_member s own) q1.0) q19.0 in
      let limits = half-limits both half is in
      let has = has_width_lem pairs half f is wide in
      let t = within-from s.n half half f.stamp limits.0 limits.0 wide q12.0 in (
        both,
        record {
          setup = q1.0;
          larger = q19.0;
          frame =
              record {
                station-below = ltb-true f.station s.n (and_left (ltb f.station s.n) (ltb f.stamp.r s.modulus) q11.0);
                r-below = ltb-true f.stamp.r s.modulus (and_right (ltb f.station s.n) (ltb f.stamp.r s.modulus) q11.0);
                wide = has.1;
                sound = rw has.0 t.0;
                close = t.1;
                short = leb-true (length f.payload) longest_payload q4.0;
              };
          same = has.0;
          fits = leb-true (length (encode f)) (length buffer) q6.0;
        },
      )

  writes-to : (half : ℕ) (f : Frame) (buffer : List ℕ) → Writes half f buffer → first_no (write_in_questions s w own half f buffer) ≡ 0
  unfolding write_in_questions ask_both ask_wider ask_payload ask_range first_no
  writes-to half f buffer o =
      rw (
        o.setup,
        o.larger,
        le-leb (length f.payload) longest_payload o.frame.short,
        lt-ltb f.station s.n o.frame.station-below,
        lt-ltb f.stamp.r s.modulus o.frame.r-below,
        within-to s.n half half f.stamp (subst (λ (h : ℕ). Sound s.n h f.stamp) o.same o.frame.sound) o.frame.close,
        le-leb (length (encode f)) (length buffer) o.fits,
      )

  -- the reader accepts what the writer makes
  reads-yes : (half : ℕ) (f : Frame) (buffer : List ℕ) → Writes half f buffer → first_no (questions_within pairs s half (encode f)) ≡ 0
  unfolding ask_range first_no
  reads-yes half f buffer o = within-passes pairs (with_half s half) f [] o.frame

  read-number-in : (half : ℕ) (f : Frame) (buffer : List ℕ) → Writes half f buffer → first_no (read_in_questions s w own (encode f)) ≡ 0
  unfolding read_in_questions ask_both ask_wider
  read-number-in half f buffer o =
      yes-cons asked 1 _ o.setup
      ∙ (yes-cons wider 19 _ o.larger
      ∙ subst (λ (h : ℕ). first_no (questions_within pairs s h (encode f)) ≡ 0) (sym (ap (frame_half pairs) (wide-decode pairs f o.frame.wide) ∙ o.same))
      (reads-yes half f buffer o))

  read-made-in : (half : ℕ) (f : Frame) (buffer : List ℕ) → Writes half f buffer → read_in s w own (encode f) ≡ read_in_by 0 (ltb s.epsilon half) f
  unfolding read_in
  read-made-in half f buffer o =
      let back : wider_decode pairs (encode f) ≡ f = wide-decode pairs f o.frame.wide in
      ap (λ (k : ℕ). read_in_by k (is_wide s pairs (wider_decode pairs (encode f))) (wider_decode pairs (encode f))) (read-number-in half f buffer o)
      ∙ (ap (λ (x : Frame). read_in_by 0 (is_wide s pairs x) x) back ∙ ap (λ (h : ℕ). read_in_by 0 (ltb s.epsilon h) f) o.same)

  -- a number 0 says that no question got a no
  write-passed : (half : ℕ) (f : Frame) (buffer : List ℕ) → (written_by (first_no (write_in_questions s w own half f buffer)) (encode f) buffer).number ≡ 0 → first_no (write_in_questions s w own half f buffer) ≡ 0
  write-passed half f buffer = go (first_no (write_in_questions s w own half f buffer))
    where
      go : (k : ℕ) → (written_by k (encode f) buffer).number ≡ 0 → k ≡ 0
      go zero e = refl
      go (suc k) e = e

  read-passed : (bytes : List ℕ) → (read_in s w own bytes).number ≡ 0 → first_no (read_in_questions s w own bytes) ≡ 0
  unfolding read_in
  read-passed bytes = go (first_no (read_in_questions s w own bytes))
    where
      go : (k : ℕ) → (read_in_by k (is_wide s pairs (wider_decode pairs bytes)) (wider_decode pairs bytes)).number ≡ 0 → k ≡ 0
      go zero e = refl
      go (suc k) e = e

  -- a written frame reads back the same
  read-written-in :
      (station : ℕ) (wide : Bool) (t : Timestamp) (payload buffer : List ℕ) → (write_in s w own station wide t payload buffer).number ≡ 0
      → read_in s w own (take (write_in s w own station wide t payload buffer).size (write_in s w own station wide t payload buffer).buffer)
      ≡ record {
        number = 0;
        wide = ltb s.epsilon (written_half s w wide);
        station = station;
        stamp = widened (trimmed (written_half s w wide) t);
        payload = payload;
      }
  unfolding write_in frame_of
  read-written-in station wide t payload buffer e =
      let half = written_half s w wide in
      let f = frame_of half station t payload in
      let yes = write-passed half f buffer e in
      let o = (writes-from half f buffer (written-half wide) (trimmed-wide half t) yes).1 in
      ap (λ (k : ℕ). read_in s w own (take (written_by k (encode f) buffer).size (written_by k (encode f) buffer).buffer)) yes
      ∙ (ap (read_in s w own) (take-overlay (encode f) buffer) ∙ read-made-in half f buffer o)

  -- what the reader accepts is in its bounds, by its own half width
  reads-from :
      (bytes : List ℕ) → first_no (read_in_questions s w own bytes) ≡ 0
      → (asked ≡ true) × (wider ≡ true) × BothPairs s w
      × FrameWithin pairs (with_half s (frame_half pairs (wider_decode pairs bytes))) (wider_decode pairs bytes) × (wider_formed pairs bytes ≡ true)
  unfolding read_in_questions ask_both ask_wider ask_range
  reads-from bytes e =
      let f = wider_decode pairs bytes in
      let q1 = none-no asked 0 _ e in
      let q19 = none-no wider 18 _ q1.1 in
      let both = both-from s w (and_left (both_in_limits s w) (is_member s own) q1.0) q19.0 in
      let some = half-limits both (frame_half pairs f) (half-one pairs (length f.stamp.kn)) in
      let q10 = none-no (wider_formed pairs bytes) 9 _ q19.1 in
      (q1.0, q19.0, both, (within-passed pairs (with_half s (frame_half pairs f)) bytes [] both.widens some.0 q19.1).0, q10.0)

  -- an accepted frame is the one that the writer makes of its contents
  written-read-in :
      (bytes buffer : List ℕ) → are_bytes bytes ≡ true → (read_in s w own bytes).number ≡ 0 → length bytes ≤ length buffer
      → write_in s w own (read_in s w own bytes).station (read_in s w own bytes).wide (read_in s w own bytes).stamp (read_in s w own bytes).payload buffer
      ≡ record { number = 0; size = length bytes; buffer = overlay bytes buffer }
  unfolding read_in write_in frame_of are_bytes
  written-read-in bytes buffer small e fits =
      let f = wider_decode pairs bytes in
      let half = frame_half pairs f in
      let yes = read-passed bytes e in
      let (setup, larger, both, frame, formed) = reads-from bytes yes in
      let is = half-one pairs (length f.stamp.kn) in
      let told : written_half s w (ltb s.epsilon half) ≡ half = told-half both half is in
      let same : encode f ≡ bytes = wide-encode pairs bytes small formed in
      let whole : frame_of half f.station (widened f.stamp) f.payload ≡ f =
      ap (λ (t : Timestamp). record { station = f.station; stamp = t; payload = f.payload })
      (trimmed-widened half f.stamp (half-limits both half is).1 frame.wide) in
      let o : Writes half f buffer = record { setup = setup; larger = larger; frame = frame; same = refl; fits = rw same fits } in
      ap
      (λ (k : ℕ).
      let a : ReadInAnswer = read_in_by k (is_wide s pairs f) f in
      write_in s w own a.station a.wide a.stamp a.payload buffer)
      yes
      ∙ (ap (λ (h : ℕ). written h (frame_of h f.station (widened f.stamp) f.payload)) told
      ∙ (ap (written half) whole
      ∙ (ap (λ (k : ℕ). written_by k (encode f) buffer) (writes-to half f buffer o) ∙ ap (λ (b : List ℕ). written_by 0 b buffer) same)))
    where
      written : ℕ → Frame → WriteAnswer
      written h g = written_by (first_no (write_in_questions s w own h g buffer)) (encode g) buffer

-- ---- the shelf and the hand-out

-- the test for one of the two widths, as the lemmas say it
all-wide-in : (g : Schedule) (queue : List Frame) → every (fits_in g) queue ≡ true → (f : Frame) → Memᴰ f queue → length f.stamp.kn ≡ width (frame_half g f)
unfolding fits_in has_width
all-wide-in g queue h f m = eqb-true (length f.stamp.kn) (width (frame_half g f)) (every-mem (fits_in g) h m)

frames-front-in :
    (g : Schedule) (bytes : List ℕ) → 2 ≤ length bytes → are_bytes bytes ≡ true → every (wider_formed g) (wider_held_bytes g bytes) ≡ true
    → overlay (encode_frames (wider_held g bytes)) bytes ≡ bytes
unfolding are_bytes encode_frames wider_held wider_held_bytes
frames-front-in g bytes long below all = front_by (wider_end g) (wider_formed g) (wider_decode g) encode (wide-encode g) bytes long below all

-- what passes 10 to 12 is well-formed
passes-formed-in : (g : Schedule) (bytes : List ℕ) → wider_passes g bytes ≡ true → wider_formed g bytes ≡ true
unfolding wider_passes wider_frame_questions
passes-formed-in g bytes h = (none-no (wider_formed g bytes) 9 _ (eqb-true (first_no (wider_frame_questions g bytes)) 0 h)).0

-- the frames of a sound shelf, encoded, are the front of its bytes
holdback-front-in :
    (g : Schedule) (v least : ℕ) (bytes : List ℕ) → 2 ≤ length bytes → are_bytes bytes ≡ true → wider_sound_holdback g v least bytes ≡ true
    → overlay (encode_frames (wider_held g bytes)) bytes ≡ bytes
unfolding wider_sound_holdback
holdback-front-in g v least bytes long below h =
    let few = leb (two_at bytes 0) (depth_of (own_limits g)) in
    let all = and_left (every (wider_passes g) (wider_held_bytes g bytes)) _ (and_right few _ h) in
    frames-front-in g bytes long below (every-mono (wider_passes g) (wider_formed g) (wider_held_bytes g bytes) (passes-formed-in g) all)

-- a shelf has room for its count
size-some : (s : Setup) → 2 ≤ holdback_size s
unfolding holdback_length
size-some s = omega arith

pub demand2-codec-in : Demand2CodecIn
unfolding encode_holdback overlay
demand2-codec-in s w own =
    record {
      frame_read = read-written-in s w own;
      frame_written = written-read-in s w own;
      holdback_read = λ v size queue fits. wide-holdback (along s w v) queue (all-wide-in (along s w v) queue fits) size;
      holdback_written = λ v least bytes size below h zeros.
          let g : Schedule = along s w v in
          whole_by (holdback_size (widest_of g)) (encode_frames (wider_held g bytes)) bytes
          (holdback-front-in g v least bytes (omega (arith, size, size-some (widest_of g))) below h) zeros;
      delivery_read = λ v queue old fits.
          wide-held (along s w v) queue (all-wide-in (along s w v) queue fits) (drop (length (encode_frames queue)) old);
      delivery_written = λ v bytes long below all. frames-front-in (along s w v) bytes long below all;
    }
