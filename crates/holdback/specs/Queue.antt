-- Where the frames of a hold-back queue (01: the shelf) stand in its bytes, one by one.
-- Assumes nothing.
use Rattle.std.specs.Prelude.{◌≡◌, ℕ, zero, suc, ◌+◌, ◌≤◌, Bool, true, List, length, take, drop}
use Rattle.laws.specs.Lists.{every, overlay}
use Rattle.laws.specs.Lex.{lex_compare, is_less}
use Rattle.model.specs.Frame.{Frame, two_at, counts_of, well_formed, decode, frame_end}
use Rattle.model.specs.Holdback.{held_bytes, encode_frames}
use Rattle.model.specs.Setup.{Setup}
use Rattle.model.specs.Order.{reading_of, key_by}
use Rattle.timestamp.specs.declared.ordering.Rank.{Rank}
use Rattle.timestamp.specs.Ranks.{ranked_frame}

-- where frame k starts: past the two-byte count and the k frames before it, "each ending where its counts say"
unfoldable pub frame_start : ℕ → List ℕ → ℕ → ℕ
frame_start epsilon s zero = 2
frame_start epsilon s (suc k) = frame_start epsilon s k + frame_end epsilon (drop (frame_start epsilon s k) s)

-- where the frames end
abbrev pub end_of : ℕ → List ℕ → ℕ
end_of epsilon s = frame_start epsilon s (two_at s 0)

-- the bytes of frame k
unfoldable pub bytes_at : ℕ → List ℕ → ℕ → List ℕ
bytes_at epsilon s k = take (frame_end epsilon (drop (frame_start epsilon s k) s)) (drop (frame_start epsilon s k) s)

-- what they hold
unfoldable pub frame_at : ℕ → List ℕ → ℕ → Frame
frame_at epsilon s k = decode epsilon (bytes_at epsilon s k)

-- what a change of a queue is told of it: each frame is well-formed, the number of frames and where they end, and frame `index`, or the end, and where it starts
pub record Spans (epsilon : ℕ) (queue : List ℕ) (count end index at : ℕ) : Type 0 where
  pub formed : every (well_formed epsilon) (held_bytes epsilon queue) ≡ true
  pub two : 2 ≤ length queue
  pub count-is : count ≡ two_at queue 0
  pub ends : end ≡ frame_start epsilon queue count
  pub inside : index ≤ count
  pub starts : at ≡ frame_start epsilon queue index

-- the same of frames of any form, as they are written at the front of a buffer
pub record Written (queue : List Frame) (buffer : List ℕ) (count end index at : ℕ) : Type 0 where
  pub front : buffer ≡ overlay (encode_frames queue) buffer
  pub count-is : count ≡ length queue
  pub ends : end ≡ length (encode_frames queue)
  pub inside : index ≤ count
  pub starts : at ≡ length (encode_frames (take index queue))

-- a place in a queue: so many frames stand before it, and where it stands
pub record Stands (epsilon : ℕ) (queue : List ℕ) (place index at : ℕ) : Type 0 where
  pub frames : index ≡ place
  pub starts : at ≡ frame_start epsilon queue index

-- what the order looks at beside the counts, of a frame whose r stands at a reading
abbrev pub rank_at : ℕ → Frame → Rank
rank_at reading f = record { reading = reading; c = f.stamp.c; station = f.station }

-- the same with its r read near v
abbrev pub rank_of : Setup → ℕ → Frame → Rank
rank_of s v f = rank_at (reading_of s v f) f

-- the first of two frames comes before the second, by their ranks and counts
unfoldable pub rank_before : ℕ → Rank → List ℕ → Rank → List ℕ → Bool
rank_before epsilon f kf g kg =
    is_less (lex_compare (key_by epsilon f.reading (ranked_frame f kf)) (key_by epsilon g.reading (ranked_frame g kg)))

-- the 2ε counts of a frame of a queue that starts at `at`
abbrev pub counts_at : ℕ → List ℕ → ℕ → List ℕ
counts_at epsilon s at = counts_of epsilon (drop at s)
