-- How the frames of an engine's hold-back queue (02, 2.9: its shelf) stand in its bytes.
-- Assumes nothing.
use Rattle.std.specs.Prelude.{ℕ, ◌≤◌, ◌≡◌, Bool, true, List, length}
use Rattle.laws.specs.Lists.{every, overlay}
use Rattle.model.specs.Setup.{Setup}
use Rattle.model.specs.Frame.{Frame, two_at}
use Rattle.model.specs.Long.{long_most, long_frame_end, long_decode, long_held_bytes, long_held, long_passes, long_encode_frames, long_holdback_size}
use Rattle.lemmas.specs.Standing.{left_by, end_by, StandingBy}

-- the frames that stand from a position on, so many of them
abbrev pub frames_from : ℕ → List ℕ → ℕ → ℕ → List Frame
frames_from epsilon buffer at left = left_by (long_frame_end epsilon) (long_decode epsilon) buffer at left

-- and where they end
abbrev pub end_from : ℕ → List ℕ → ℕ → ℕ → ℕ
end_from epsilon buffer at left = end_by (long_frame_end epsilon) buffer at left

-- so many frames stand from a position on: the test holds of the bytes of each, and they end within the buffer
abbrev pub Standing : ℕ → (List ℕ → Bool) → List ℕ → ℕ → ℕ → Type 0
Standing epsilon test buffer at left = StandingBy (long_frame_end epsilon) test buffer at left

-- what the functions are told of a queue in its buffer: each frame passes 10 to 12, they stand at the front as they are written, so many
-- frames, and where they end
pub record Extent (s : Setup) (queue : List ℕ) (count end : ℕ) : Type 0 where
  pub sized : length queue ≡ long_holdback_size s
  pub few : two_at queue 0 ≤ long_most
  pub passing : every (long_passes s) (long_held_bytes s.epsilon queue) ≡ true
  pub written : queue ≡ overlay (long_encode_frames (long_held s.epsilon queue)) queue
  pub count-is : count ≡ two_at queue 0
  pub end_is : end ≡ length (long_encode_frames (long_held s.epsilon queue))
