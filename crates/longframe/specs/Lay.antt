-- What the core of an engine's writer (02, 2.9) asks of its arguments, and what it leaves. Assumes nothing.
use Rattle.std.specs.Prelude.{◌≡◌, List, ℕ, ◌+◌, ◌*◌, ◌≤◌, ◌<◌, length}
use Rattle.laws.specs.Lists.{overlay}
use Rattle.model.specs.Timestamp.{Timestamp}
use Rattle.model.specs.Frame.{Frame}
use Rattle.model.specs.Long.{long_encode}

-- each number but r fits its byte, the payload has at most 32, and the frame fits the buffer
pub record LongRoom (epsilon station : ℕ) (t : Timestamp) (payload buffer : List ℕ) : Type 0 where
  pub narrow : epsilon ≤ 16
  pub station-fits : station < 256
  pub c-fits : t.c < 256
  pub payload-fits : length payload ≤ 32
  pub room : 13 + 2 * epsilon + length payload ≤ length buffer

-- the frame's bytes stand at the front of the buffer, and the rest of it is as it was
pub record LongLaid (size : ℕ) (left : List ℕ) (f : Frame) (buffer : List ℕ) : Type 0 where
  pub long : size ≡ length (long_encode f)
  pub bytes : left ≡ overlay (long_encode f) buffer
