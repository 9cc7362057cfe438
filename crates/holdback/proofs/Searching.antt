-- A sound queue, for a walk over its frames and a search among them.
-- Assumes nothing.
use Rattle.std.proofs.Common.{◌≡◌, ℕ, zero, suc, ◌+◌, ◌-◌, ◌≤◌, Bool, true, List, length, take, drop, sym, refl, ap, ◌∙◌}
use Rattle.laws.specs.Lists.{leading}
use Rattle.model.specs.Setup.{Setup}
use Rattle.model.specs.Frame.{Frame, two_at, decode, frame_end}
use Rattle.model.specs.Holdback.{cut_frames, held_bytes, held, passes, sound_holdback}
use Rattle.lemmas.specs.Standing.{left_by, end_by, StandingBy}
use Rattle.lemmas.proofs.FrameWalk.{lent, next_by, end-last, stand, Seeking}
use Rattle.holdback.specs.Queue.{frame_start, frame_at, Stands}
use Rattle.holdback.proofs.RoundTrip.{passing}
use Rattle.holdback.proofs.Frames.{formed-inside, next_start, bytes-part}
use Rattle.holdback.proofs.Judging.{sound-passes}

-- where frame k starts, by a walk from the first
pub start-by : (epsilon : ℕ) (b : List ℕ) (k : ℕ) → frame_start epsilon b k ≡ end_by (frame_end epsilon) b 2 k
unfolding frame_start end_by
start-by epsilon b zero = refl
start-by epsilon b (suc k) = ap (next_by (frame_end epsilon) b) (start-by epsilon b k) ∙ sym (end-last (frame_end epsilon) b 2 k)

-- the frames of a sound queue stand in it
pub sound-stand : (s : Setup) (v least : ℕ) (b : List ℕ) {count : ℕ} → sound_holdback s v least b ≡ true → 2 ≤ length b → count ≡ two_at b 0 → StandingBy (frame_end s.epsilon) (passes s) b 2 count
unfolding held_bytes cut_frames
sound-stand s v least b {count} sound two e =
    stand (frame_end s.epsilon) (passes s) (λ l h. formed-inside s.epsilon l (passing s (take (frame_end s.epsilon l) l) h).well) b 2 count two
    (rw e (sound-passes s v least b sound))

-- and are what it holds
pub stand-held : (epsilon : ℕ) (b : List ℕ) {count : ℕ} → count ≡ two_at b 0 → left_by (frame_end epsilon) (decode epsilon) b 2 count ≡ held epsilon b
unfolding held held_bytes cut_frames
stand-held epsilon b e = ap (left_by (frame_end epsilon) (decode epsilon) b 2) e

-- a search in it has come to frame i: where that starts, what its bytes hold, and the place where it ends
module _ (s : Setup) {p : Frame → Bool} {b : List ℕ} {count i at : ℕ} (seek : Seeking (frame_end s.epsilon) (decode s.epsilon) (passes s) p b 2 count i at) where
  starts : at ≡ frame_start s.epsilon b i
  starts = seek.starts ∙ sym (start-by s.epsilon b i)

  pub seek-frame : {size : ℕ} → size ≡ frame_end s.epsilon (lent b at) → decode s.epsilon (take (at + size - at) (drop at b)) ≡ frame_at s.epsilon b i
  unfolding frame_at
  seek-frame {size} e = ap (decode s.epsilon) (bytes-part s.epsilon b i at (at + size) starts (next_start s.epsilon b i at size starts e))

  pub seek-place : count ≡ two_at b 0 → i ≡ leading p (left_by (frame_end s.epsilon) (decode s.epsilon) b 2 count) → Stands s.epsilon b (leading p (held s.epsilon b)) i at
  seek-place count-is e = record { frames = e ∙ ap (leading p) (stand-held s.epsilon b count-is); starts = starts }
