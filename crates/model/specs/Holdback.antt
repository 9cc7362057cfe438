-- 01: the shelf, here the hold-back queue, and the hand-out, here the delivery.
use Rattle.std.specs.Prelude.{ℕ, zero, suc, ◌+◌, ◌-◌, Bool, ◌&&◌, List, [], ◌∷◌, ◌++◌, map, leb, eqb, length, take, drop}
use Rattle.laws.specs.Lists.{every, chained, apart, joined, padded}
use Rattle.model.specs.Setup.{Setup, depth_of}
use Rattle.model.specs.Timestamp.{sum}
use Rattle.model.specs.Frame.{Frame, two_bytes, two_at, encode, decode, frame_end}
use Rattle.model.specs.Order.{reading_of, before, due_near}
use Rattle.model.specs.Question.{first_no, frame_questions}

-- the bytes of k frames one after the other, by where each ends
unfoldable pub cut_by : (List ℕ → ℕ) → ℕ → List ℕ → List (List ℕ)
cut_by end zero s = []
cut_by end (suc k) s = take (end s) s ∷ cut_by end k (drop (end s) s)

-- 01: "frames …, each ending where its counts say"
unfoldable pub cut_frames : ℕ → ℕ → List ℕ → List (List ℕ)
cut_frames epsilon k s = cut_by (frame_end epsilon) k s

-- 01: "A shelf is a two-byte count, then frames"
unfoldable pub held_bytes : ℕ → List ℕ → List (List ℕ)
held_bytes epsilon s = cut_frames epsilon (two_at s 0) (drop 2 s)

-- the frames that these bytes hold
unfoldable pub held : ℕ → List ℕ → List Frame
held epsilon s = map (decode epsilon) (held_bytes epsilon s)

-- 01: "that station and r": the same origin. (Which call an entry comes from is its source, in Run.)
unfoldable pub same_origin : Frame → Frame → Bool
same_origin f g = eqb f.station g.station && eqb f.stamp.r g.stamp.r

-- 01: "pass 10 to 12"
unfoldable pub passes : Setup → List ℕ → Bool
passes s bytes = eqb (first_no (frame_questions s bytes)) 0

-- 01: "sum at most ε − 1 past v", with r at a reading, and v at its own
abbrev pub not_early_at : Setup → ℕ → ℕ → Frame → Bool
not_early_at s at reading f = leb (sum reading f.stamp.c) (at + (s.epsilon - 1))

-- the same with r read near v, which reads B
unfoldable pub not_early : Setup → ℕ → Frame → Bool
not_early s v f = not_early_at s s.modulus (reading_of s v f) f

-- 01: "sum + δ + ε not before v". 02, 2.2: "each frame is due after the last clock": not before the least due clock that is allowed, as a
-- reading, in which v stands at B
unfoldable pub not_expired : Setup → ℕ → ℕ → Frame → Bool
not_expired s v least f = leb least (due_near s v f)

-- 01: "It is sound if it holds at most n(δ + 3ε) frames that pass 10 to 12, strictly in order, no station and r twice,
-- each sum at most ε − 1 past v and each sum + δ + ε not before v", here not before the least due clock that is allowed
unfoldable pub sound_holdback : Setup → ℕ → ℕ → List ℕ → Bool
sound_holdback s v least bytes =
    leb (two_at bytes 0) (depth_of s) && (every (passes s) (held_bytes s.epsilon bytes)
    && (chained (before s v) (held s.epsilon bytes) && (apart same_origin (held s.epsilon bytes)
    && (every (not_early s v) (held s.epsilon bytes) && every (not_expired s v least) (held s.epsilon bytes)))))

-- 01: "A hand-out has the shelf's form without the zeros": "a two-byte count, then frames", each written so
abbrev pub frames_by : (Frame → List ℕ) → List Frame → List ℕ
frames_by bytes queue = two_bytes (length queue) ++ joined bytes queue

unfoldable pub encode_frames : List Frame → List ℕ
encode_frames queue = frames_by encode queue

-- 01: "then zeros written by the tick"
unfoldable pub encode_holdback : ℕ → List Frame → List ℕ
encode_holdback size queue = padded size (encode_frames queue)
