-- An engine's queue in its buffer: what `Extent` says of it, and what makes it true.
-- Assumes nothing.
use Prim.Native.Nat.{ℕ, zero, suc, ◌+◌, ◌≤◌}
use native.Mathlib.Omega.{arith}
use mathlib.Core.Path.{◌≡◌, refl, sym, ap, ap₂, ◌∙◌}
use mathlib.Core.Bool.{true}
use mathlib.Core.List.{List, ◌++◌, map, append_assoc, Memᴰ}
use lib.Dec.{ltb}
use lib.ListN.{length, drop, get_or, length-map, take-append-drop}
use lib.Seq.{drop-drop, drop-append_seam}
use borrow.Author.Tests.{lt-ltb}
use Rattle.laws.specs.Lists.{every, joined, overlay}
use Rattle.laws.proofs.Numbers.{and_left, and_right}
use Rattle.laws.proofs.Lists.{every-of-index, every-mem, every-of-mem, mem-of-map}
use Rattle.model.specs.Setup.{Setup}
use Rattle.model.specs.Frame.{Frame, two_at, two_bytes}
use Rattle.model.specs.Holdback.{cut_by}
use Rattle.model.specs.Long.{plainly, long_most, long_frame_end, long_decode, long_encode, long_held_bytes, long_held, long_passes, long_encode_frames, long_holdback_size}
use Rattle.lemmas.specs.Standing.{end_by}
use Rattle.lemmas.proofs.Bounds.{FrameOk}
use Rattle.lemmas.proofs.RoundTrip.{length-cut-by}
use Rattle.lemmas.proofs.LongFrames.{long-held-bytes, long-held-frames, long-count, long-passes-encode, long-passes-formed, long-passes-decode, long-encode-decode}
use Rattle.holdback.proofs.RoundTrip.{Bytes, front-two}
use Rattle.holdback.proofs.Frames.{bytes_take, bytes_drop}
use Rattle.longqueue.specs.Queue.{frames_from, end_from, Standing, Extent}
use Rattle.longqueue.proofs.Standing.{bytes_at, next_at, frames-more, stand, end-written}

-- as many frames as the count says
pub held-from : (epsilon : ℕ) (b : List ℕ) → long_held epsilon b ≡ frames_from epsilon b 2 (two_at b 0)
unfolding long_held long_held_bytes
held-from epsilon b = refl

pub frames-length : (epsilon : ℕ) (b : List ℕ) (at k : ℕ) → length (frames_from epsilon b at k) ≡ k
frames-length epsilon b at k =
    length-map (cut_by (long_frame_end epsilon) k (drop at b)) (long_decode epsilon) ∙ length-cut-by (long_frame_end epsilon) k (drop at b)

pub held-length : (epsilon : ℕ) (b : List ℕ) → length (long_held epsilon b) ≡ two_at b 0
held-length epsilon b = ap length (held-from epsilon b) ∙ frames-length epsilon b 2 (two_at b 0)

pub encoded-length : (queue : List Frame) → length (long_encode_frames queue) ≡ 2 + length (joined long_encode queue)
unfolding long_encode_frames two_bytes
encoded-length queue = omega arith

pub size-two : (s : Setup) → 2 ≤ long_holdback_size s
unfolding long_holdback_size
size-two s = omega arith

-- frames that pass are in their bounds
pub frames-ok : (s : Setup) → 1 ≤ s.epsilon → (l : List (List ℕ)) → every (long_passes s) l ≡ true
    → (f : Frame) → Memᴰ f (map (long_decode s.epsilon) l) → FrameOk (plainly s) f
frames-ok s pos l each f m =
    let (bytes, inside, e) = mem-of-map (long_decode s.epsilon) l m in
    rw e (long-passes-decode s bytes pos (every-mem (long_passes s) each inside))

-- ---- what it says

module _ {s : Setup} {b : List ℕ} {count end : ℕ} (known : Extent s b count end) where
  pub extent-two : 2 ≤ length b
  extent-two = omega (arith, known.sized, size-two s)

  pub extent-held : long_held s.epsilon b ≡ frames_from s.epsilon b 2 count
  extent-held = held-from s.epsilon b ∙ ap (frames_from s.epsilon b 2) (sym known.count-is)

  pub extent-count : length (long_held s.epsilon b) ≡ count
  extent-count = held-length s.epsilon b ∙ sym known.count-is

  pub extent-few : count ≤ long_most
  extent-few = omega (arith, known.few, known.count-is)

  each-passes : every (long_passes s) (cut_by (long_frame_end s.epsilon) count (drop 2 b)) ≡ true
  unfolding long_held_bytes
  each-passes = rw known.count-is known.passing

  -- the frames, for a walk
  pub extent-stands : Standing s.epsilon (long_passes s) b 2 count
  extent-stands = stand s.epsilon (long_passes s) (λ l h. long-passes-formed s l h) b 2 count extent-two each-passes

  pub extent-end : end_from s.epsilon b 2 count ≡ end
  extent-end =
      end-written s.epsilon (long_passes s) (λ l h. long-passes-formed s l h) b 2 count each-passes
      ∙ ap (λ (l : List Frame). 2 + length (joined long_encode l)) (sym extent-held)
      ∙ sym (encoded-length (long_held s.epsilon b))
      ∙ sym known.end_is

  pub extent-inside : (2 ≤ end) × (end ≤ length b)
  extent-inside = (omega (arith, known.end_is, encoded-length (long_held s.epsilon b)), omega (arith, extent-end, extent-stands.inside))

  pub extent-frames : 1 ≤ s.epsilon → (f : Frame) → Memᴰ f (long_held s.epsilon b) → FrameOk (plainly s) f
  unfolding long_held
  extent-frames pos f m = frames-ok s pos (long_held_bytes s.epsilon b) known.passing f m

  -- the bytes: the frames as they are written, and what stands behind them
  pub extent-split : b ≡ long_encode_frames (long_held s.epsilon b) ++ drop end b
  unfolding overlay
  extent-split = known.written ∙ ap (λ (n : ℕ). long_encode_frames (long_held s.epsilon b) ++ drop n b) (sym known.end_is)

-- ---- what makes it true

-- frames in their bounds, written, whatever stands behind them
module _ (s : Setup) (queue : List Frame) (rest b : List ℕ) (is : b ≡ long_encode_frames queue ++ rest) (ok : (f : Frame) → Memᴰ f queue → FrameOk (plainly s) f) where
  pub made_held : long_held s.epsilon b ≡ queue
  made_held = ap (long_held s.epsilon) is ∙ long-held-frames s queue ok rest

  made-count : two_at b 0 ≡ length queue
  made-count = ap (λ (l : List ℕ). two_at l 0) is ∙ long-count queue rest

  pub made-passing : every (long_passes s) (long_held_bytes s.epsilon b) ≡ true
  made-passing =
      ap (λ (l : List ℕ). every (long_passes s) (long_held_bytes s.epsilon l)) is
      ∙ ap (every (long_passes s)) (long-held-bytes s queue ok rest)
      ∙ every-of-mem (long_passes s) (map long_encode queue)
      (λ bytes m. let (f, inside, e) = mem-of-map long_encode queue m in ap (long_passes s) e ∙ long-passes-encode s f (ok f inside))

  pub made-written : b ≡ overlay (long_encode_frames (long_held s.epsilon b)) b
  unfolding overlay
  made-written =
      is
      ∙ ap₂ ◌++◌ (ap long_encode_frames (sym made_held))
      (sym (ap (λ (l : List Frame). drop (length (long_encode_frames l)) b) made_held ∙ ap (drop (length (long_encode_frames queue))) is ∙ drop-append_seam (long_encode_frames queue) rest))

  pub made-extent : length b ≡ long_holdback_size s → length queue ≤ long_most → Extent s b (length queue) (length (long_encode_frames queue))
  made-extent sized few =
      record {
        sized = sized;
        few = omega (arith, made-count);
        passing = made-passing;
        written = made-written;
        count-is = sym made-count;
        end_is = sym (ap (λ (l : List Frame). length (long_encode_frames l)) made_held);
      }

-- bytes whose frames pass: each is written back as it was
pub bytes-test : (l : List ℕ) → Bytes l → every (λ x. ltb x 256) l ≡ true
bytes-test l bytes = every-of-index (λ x. ltb x 256) l 0 (λ i _. lt-ltb (get_or l i 0) 256 (bytes i))

written_back : (s : Setup) (b : List ℕ) → Bytes b → (at k : ℕ) → every (long_passes s) (cut_by (long_frame_end s.epsilon) k (drop at b)) ≡ true
    → drop at b ≡ joined long_encode (frames_from s.epsilon b at k) ++ drop (end_from s.epsilon b at k) b
unfolding joined end_by every cut_by
written_back s b bytes at zero each = refl
written_back s b bytes at (suc k) each =
    let epsilon : ℕ = s.epsilon in
    let own : List ℕ = bytes_at epsilon b at in
    let size : ℕ = long_frame_end epsilon (drop at b) in
    let clean : Bytes own = bytes_take size (drop at b) (bytes_drop at b bytes) in
    let passed : long_passes s own ≡ true = and_left (long_passes s own) _ each in
    let same : long_encode (long_decode epsilon own) ≡ own = long-encode-decode epsilon own (bytes-test own clean) (long-passes-formed s own passed) in
    let others : every (long_passes s) (cut_by (long_frame_end epsilon) k (drop (next_at epsilon b at) b)) ≡ true =
    ap (λ (l : List ℕ). every (long_passes s) (cut_by (long_frame_end epsilon) k l)) (sym (drop-drop size at b)) ∙ and_right (long_passes s own) _ each in
    let stop : ℕ = end_from epsilon b (next_at epsilon b at) k in
    let tail : List ℕ = joined long_encode (frames_from epsilon b (next_at epsilon b at) k) in
    sym (take-append-drop size (drop at b))
    ∙ ap₂ ◌++◌ (sym same) (drop-drop size at b ∙ written_back s b bytes (next_at epsilon b at) k others)
    ∙ sym (append_assoc (long_encode (long_decode epsilon own)) tail (drop stop b))
    ∙ ap (λ (l : List Frame). joined long_encode l ++ drop stop b) (sym (frames-more epsilon b at k))

-- a buffer whose count is in its bound and whose frames pass
pub passing-extent : (s : Setup) (b : List ℕ) → Bytes b → length b ≡ long_holdback_size s → two_at b 0 ≤ long_most
    → every (long_passes s) (long_held_bytes s.epsilon b) ≡ true → Extent s b (two_at b 0) (end_from s.epsilon b 2 (two_at b 0))
unfolding long_held_bytes long_encode_frames overlay
passing-extent s b bytes sized few each =
    let n : ℕ = two_at b 0 in
    let queue : List Frame = long_held s.epsilon b in
    let stop : ℕ = end_from s.epsilon b 2 n in
    let held : frames_from s.epsilon b 2 n ≡ queue = sym (held-from s.epsilon b) in
    let end : stop ≡ length (long_encode_frames queue) =
    end-written s.epsilon (long_passes s) (λ l h. long-passes-formed s l h) b 2 n each ∙ ap (λ (l : List Frame). 2 + length (joined long_encode l)) held
    ∙ sym (encoded-length queue) in
    record {
      sized = sized;
      few = few;
      passing = each;
      written =
          sym (take-append-drop 2 b)
          ∙ ap₂ ◌++◌ (front-two b bytes (omega (arith, size-two s)) ∙ ap two_bytes (sym (held-length s.epsilon b)))
          (written_back s b bytes 2 n each ∙ ap₂ (λ (l : List Frame) (m : ℕ). joined long_encode l ++ drop m b) held end)
          ∙ sym (append_assoc (two_bytes (length queue)) (joined long_encode queue) (drop (length (long_encode_frames queue)) b));
      count-is = refl;
      end_is = end;
    }
