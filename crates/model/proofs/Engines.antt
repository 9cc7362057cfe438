-- 02, 2.9: an engine's frame, bounds and questions, computed from the definitions.
-- Assumes nothing.
use Prim.Native.Nat.{ℕ, ◌+◌, ◌-◌, ◌^◌}
use mathlib.Core.Path.{◌≡◌, refl}
use mathlib.Core.Bool.{false}
use mathlib.Core.List.{List, [], ◌∷◌}
use lib.ListN.{replicate}
use Rattle.model.proofs.Computing.{computing}
use Rattle.model.specs.Setup.{Setup}
use Rattle.model.specs.Frame.{Frame}
use Rattle.model.specs.Question.{first_no}
use Rattle.model.specs.Tick.{Input}
use Rattle.model.specs.Long.{long_encode, long_decode, long_frame_questions, long_place_questions, long_call_questions}

-- n 2, ε 2, δ 3; what stands for B is not looked at
abbrev bench : Setup
bench = record { n = 2; epsilon = 2; delta = 3; modulus = 0 }

-- a frame of a station, with a count of one at its r
abbrev frame_at : ℕ → ℕ → Frame
frame_at station r = record { station = station; stamp = record { r = r; c = 0; kn = 0 ∷ 0 ∷ 1 ∷ 0 ∷ [] }; payload = 7 ∷ [] }

-- a clock of six bytes
abbrev high : ℕ
high = 2 ^ 40 + 5

-- "9 (station, r in eight bytes, low first)", then as a station's
abbrev high_bytes : List ℕ
high_bytes = 9 ∷ 1 ∷ 5 ∷ 0 ∷ 0 ∷ 0 ∷ 0 ∷ 1 ∷ 0 ∷ 0 ∷ 5 ∷ 0 ∷ 0 ∷ 0 ∷ 1 ∷ 0 ∷ 1 ∷ 7 ∷ []

written : long_encode (frame_at 1 high) ≡ high_bytes
unfolding computing
written = refl

read_back_lem : long_decode 2 high_bytes ≡ frame_at 1 high
unfolding computing
read_back_lem = refl

-- "A clock from 2^63 up gets 2, such an r 11"
r-below : first_no (long_frame_questions bench (long_encode (frame_at 1 (2 ^ 63 - 1)))) ≡ 0
unfolding computing
r-below = refl

r-above : first_no (long_frame_questions bench (long_encode (frame_at 1 (2 ^ 63)))) ≡ 11
unfolding computing
r-above = refl

-- a call at a clock, with all buffers of their lengths: 2 + (45 + 2ε) × 64
abbrev call_at : ℕ → Input
call_at clock =
    record {
      setup = bench;
      own = 0;
      clock = clock;
      tables = record { r = 0; c = 0; kn = [] };
      holdback = replicate 3138 0;
      batch = 0 ∷ [];
      send = false;
      payload = [];
      outgoing = replicate 49 0;
      verdicts = replicate 255 0;
      delivery = replicate 3138 0;
    }

clock-below : first_no (long_call_questions (call_at (2 ^ 63 - 1))) ≡ 0
unfolding computing
clock-below = refl

clock-above : first_no (long_call_questions (call_at (2 ^ 63))) ≡ 2
unfolding computing
clock-above = refl

-- "Number 18 when a 65th message would be held, after 16": of a repeat it is 16, whatever is held
abbrev number_holding : List Frame → ℕ
number_holding queue = first_no (long_place_questions bench (high + 1) queue (frame_at 1 high))

with-63 : number_holding (replicate 63 (frame_at 0 high)) ≡ 0
unfolding computing
with-63 = refl

with-64 : number_holding (replicate 64 (frame_at 0 high)) ≡ 18
unfolding computing
with-64 = refl

with-it-and-63 : number_holding (frame_at 1 high ∷ replicate 63 (frame_at 0 high)) ≡ 16
unfolding computing
with-it-and-63 = refl
