-- The frames of an engine's queue in a buffer: the first of them, and that they are as long as what the writer makes of them.
-- Assumes nothing.
use Prim.Native.Nat.{ℕ, zero, suc, ◌+◌, ◌≤◌}
use native.Mathlib.Omega.{arith}
use mathlib.Core.Path.{◌≡◌, sym, ap, ◌∙◌}
use mathlib.Core.Bool.{Bool, true}
use mathlib.Core.List.{List, ◌∷◌}
use lib.ListN.{length, take, drop, length-append}
use Rattle.laws.specs.Lists.{every, joined}
use Rattle.laws.proofs.Numbers.{and_left, and_right}
use Rattle.model.specs.Frame.{Frame}
use Rattle.model.specs.Holdback.{cut_by}
use Rattle.model.specs.Long.{long_frame_end, long_formed, long_decode, long_encode}
use Rattle.lemmas.specs.Standing.{end_by}
use Rattle.lemmas.proofs.FrameWalk as walks
use Rattle.lemmas.proofs.FrameWalk.{bytes_by, next_by, cut-more, left-more}
use Rattle.lemmas.proofs.LongPassing.{long-size, long-end-inside, long-end-front, long-decoded-length}
use Rattle.longqueue.specs.Queue.{frames_from, end_from, Standing}

-- the bytes of the frame at a position
abbrev pub bytes_at : ℕ → List ℕ → ℕ → List ℕ
bytes_at epsilon b at = bytes_by (long_frame_end epsilon) b at

-- where it ends
abbrev pub next_at : ℕ → List ℕ → ℕ → ℕ
next_at epsilon b at = next_by (long_frame_end epsilon) b at

-- the first of the frames from a position on, and the others
pub frames-more : (epsilon : ℕ) (b : List ℕ) (at k : ℕ)
    → frames_from epsilon b at (suc k) ≡ long_decode epsilon (bytes_at epsilon b at) ∷ frames_from epsilon b (next_at epsilon b at) k
frames-more epsilon b at k = left-more (long_frame_end epsilon) (long_decode epsilon) b at k

-- ---- a test that only well-formed bytes pass

module _ (epsilon : ℕ) (test : List ℕ → Bool) (formed : (l : List ℕ) → test l ≡ true → long_formed epsilon l ≡ true) where
  pub stand : (b : List ℕ) (at k : ℕ) → at ≤ length b → every test (cut_by (long_frame_end epsilon) k (drop at b)) ≡ true → Standing epsilon test b at k
  stand b at k h each =
      walks.stand (long_frame_end epsilon) test (λ l t. long-end-inside epsilon l (formed (take (long_frame_end epsilon l) l) t)) b at k h each

  -- the frames are as long as what the writer makes of them
  pub end-written : (b : List ℕ) (at k : ℕ) → every test (cut_by (long_frame_end epsilon) k (drop at b)) ≡ true → end_from epsilon b at k ≡ at + length (joined long_encode (frames_from epsilon b at k))
  unfolding end_by every joined cut_by
  end-written b at zero each = omega arith
  end-written b at (suc k) each =
      let two = sym (ap (every test) (cut-more (long_frame_end epsilon) b at k)) ∙ each in
      let own : long_formed epsilon (bytes_at epsilon b at) ≡ true = formed (bytes_at epsilon b at) (and_left (test (bytes_at epsilon b at)) _ two) in
      let size : length (bytes_at epsilon b at) ≡ long_frame_end epsilon (drop at b) = (long-size epsilon (bytes_at epsilon b at) own).ends ∙ long-end-front epsilon (drop at b) in
      let rest = end-written b (next_at epsilon b at) k (and_right (test (bytes_at epsilon b at)) _ two) in
      let more : length (joined long_encode (frames_from epsilon b at (suc k))) ≡ length (bytes_at epsilon b at) + length (joined long_encode (frames_from epsilon b (next_at epsilon b at) k)) =
      ap (λ (l : List Frame). length (joined long_encode l)) (frames-more epsilon b at k)
      ∙ length-append (long_encode (long_decode epsilon (bytes_at epsilon b at))) (joined long_encode (frames_from epsilon b (next_at epsilon b at) k))
      ∙ ap (λ (n : ℕ). n + length (joined long_encode (frames_from epsilon b (next_at epsilon b at) k))) (long-decoded-length epsilon (bytes_at epsilon b at) own) in
      omega arith
