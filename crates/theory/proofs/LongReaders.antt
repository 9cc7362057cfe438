-- 02, 2.9: an engine's codec round-trips, by what theory/Readers says of any.
-- Assumes nothing.
use Prim.Native.Nat.{ℕ, ◌-◌, ◌≤◌, ◌<◌}
use native.Mathlib.Omega.{arith}
use mathlib.Core.Path.{◌≡◌, ap, ◌∙◌}
use mathlib.Core.Bool.{true, ◌&&◌}
use mathlib.Core.List.{List, ◌++◌, map, Memᴰ}
use lib.Dec.{leb, ltb}
use lib.ListN.{length, drop, replicate}
use borrow.Author.Tests.{ltb-true, eqb-true}
use Rattle.laws.specs.Lists.{every, overlay, padded}
use Rattle.laws.proofs.Numbers.{and_left, and_right}
use Rattle.laws.proofs.Lists.{every-mem, every-mono}
use Rattle.model.specs.Setup.{Setup, width, is_member}
use Rattle.model.specs.Frame.{Frame, two_at}
use Rattle.model.specs.Long.{long_bound, plainly, six_on, long_limits, ask_long_setup, long_encode, long_frame_end, long_formed, long_decode, long_frame_questions, long_read, long_write_questions, long_write_frame, long_most, long_holdback_size, long_held_bytes, long_held, long_passes, long_sound_holdback, long_encode_frames, long_encode_holdback}
use Rattle.theory.specs.Demand2.{are_bytes, has_width}
use Rattle.theory.specs.LongAny.{long_fits, Demand2LongCodec}
use Rattle.lemmas.proofs.Questions.{long-limits-from}
use Rattle.lemmas.proofs.RoundTrip.{later-wide, later-payload, cut-frames, decode-each}
use Rattle.lemmas.proofs.LongFrames.{long-decode-encode, long-encode-decode, long-end, long-formed, long-formed-from, long-passes-formed}
use Rattle.theory.proofs.Readers.{Coding, read-written, written_read, front_by, whole_by}

pub long-coding : (s : Setup) (own : ℕ) → Coding (plainly s) (long_limits s && is_member s own) (long_formed s.epsilon) (long_decode s.epsilon) long_encode
unfolding long_decode
long-coding s own =
    record {
      limits = λ h. let l = long-limits-from s (and_left (long_limits s) _ h) in (l.epsilon-pos, l.epsilon-most);
      made = λ f ok. (long-formed s.epsilon f ok.sound.wide ok.short, long-decode-encode s.epsilon f ok.sound.wide ok.r-below);
      shape = λ b h.
          let o = (long-formed-from s.epsilon b h).later in
          (later-wide s.epsilon (six_on b) o, rw (later-payload s.epsilon (six_on b) o) o.third);
      again = long-encode-decode s.epsilon;
    }

-- the frames of a shelf or a hand-out, of 2ε counts and with clocks below 2^63
held-fitting :
    (epsilon : ℕ) (queue : List Frame) (rest : List ℕ) → every (long_fits epsilon) queue ≡ true → long_held epsilon (long_encode_frames queue ++ rest) ≡ queue
unfolding long_held long_held_bytes long_encode_frames long_fits has_width
held-fitting epsilon queue rest fits =
    ap (map (long_decode epsilon)) (cut-frames (long_frame_end epsilon) long_encode queue rest (λ f m l. long-end epsilon f (wide f m) l))
    ∙ decode-each (long_decode epsilon) long_encode queue (λ f m. long-decode-encode epsilon f (wide f m) (below f m))
  where
    wide : (f : Frame) → Memᴰ f queue → length f.stamp.kn ≡ width epsilon
    wide f m = eqb-true (length f.stamp.kn) (width epsilon) (and_left (has_width epsilon f) _ (every-mem (long_fits epsilon) fits m))

    below : (f : Frame) → Memᴰ f queue → f.stamp.r < long_bound
    below f m = ltb-true f.stamp.r long_bound (and_right (has_width epsilon f) _ (every-mem (long_fits epsilon) fits m))

frames-front :
    (epsilon : ℕ) (bytes : List ℕ) → 2 ≤ length bytes → every (λ b. ltb b 256) bytes ≡ true → every (long_formed epsilon) (long_held_bytes epsilon bytes) ≡ true
    → overlay (long_encode_frames (long_held epsilon bytes)) bytes ≡ bytes
unfolding long_encode_frames long_held long_held_bytes
frames-front epsilon bytes long below all =
    front_by (long_frame_end epsilon) (long_formed epsilon) (long_decode epsilon) long_encode (long-encode-decode epsilon) bytes long below all

long-holdback-front :
    (s : Setup) (v least : ℕ) (bytes : List ℕ) → 2 ≤ length bytes → every (λ b. ltb b 256) bytes ≡ true → long_sound_holdback s v least bytes ≡ true
    → overlay (long_encode_frames (long_held s.epsilon bytes)) bytes ≡ bytes
unfolding long_sound_holdback
long-holdback-front s v least bytes long below h =
    let all = and_left (every (long_passes s) (long_held_bytes s.epsilon bytes)) _ (and_right (leb (two_at bytes 0) long_most) _ h) in
    frames-front s.epsilon bytes long below
    (every-mono (long_passes s) (long_formed s.epsilon) (long_held_bytes s.epsilon bytes) (λ b p. long-passes-formed s b p) all)

pub demand2-long-codec : Demand2LongCodec
unfolding are_bytes long_read ask_long_setup long_frame_questions long_write_frame long_write_questions long_encode_holdback long_holdback_size overlay padded
demand2-long-codec s own =
    let valid = long_limits s && is_member s own in
    record {
      frame_read = read-written (plainly s) valid (long_formed s.epsilon) (long_decode s.epsilon) long_encode (long-coding s own);
      frame_written = written_read (plainly s) valid (long_formed s.epsilon) (long_decode s.epsilon) long_encode (long-coding s own);
      holdback_read = λ size queue fits few. held-fitting s.epsilon queue (replicate (size - length (long_encode_frames queue)) 0) fits;
      holdback_written = λ v least bytes size below h zeros.
          whole_by (long_holdback_size s) (long_encode_frames (long_held s.epsilon bytes)) bytes (long-holdback-front s v least bytes (omega arith) below h) zeros;
      delivery_read = λ queue old fits few. held-fitting s.epsilon queue (drop (length (long_encode_frames queue)) old) fits;
      delivery_written = frames-front s.epsilon;
    }
