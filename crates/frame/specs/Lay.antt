-- What the writer asks of what it is to write, what its core asks of its arguments, and what it leaves. Assumes nothing.
use Rattle.std.specs.Prelude.{◌≡◌, List, [], ◌∷◌, ℕ, ◌+◌, ◌*◌, ◌≤◌, ◌<◌, length}
use Rattle.laws.specs.Lists.{overlay}
use Rattle.model.specs.Setup.{Setup}
use Rattle.model.specs.Timestamp.{Timestamp}
use Rattle.model.specs.Frame.{Frame, later_sections, encode}
use Rattle.model.specs.Question.{Question, ask_range, ask_stamp}
use Rattle.model.specs.Codec.{ask_payload}
use Rattle.splice.specs.Bytes.{pasted}

-- 01, 4, 11 and 12, of what is to be written; `bound` is what r must be below
abbrev pub contents_questions : ℕ → ℕ → ℕ → Frame → List Question
contents_questions n epsilon bound f =
    let s : Setup = record { n = n; epsilon = epsilon; delta = 0; modulus = bound } in
    ask_payload f.payload ∷ ask_range s f ∷ ask_stamp s f ∷ []

-- of the second and the third section: each number fits its byte, and behind four bytes they fit the buffer
pub record LaterRoom (epsilon : ℕ) (t : Timestamp) (payload buffer : List ℕ) : Type 0 where
  pub narrow : epsilon ≤ 16
  pub c-fits : t.c < 256
  pub payload-fits : length payload < 256
  pub room : 7 + 2 * epsilon + length payload ≤ length buffer

-- they stand behind the first four bytes of the buffer, all else is as it was, and the answer is where they end
pub record LaterLaid (end : ℕ) (left : List ℕ) (f : Frame) (buffer : List ℕ) : Type 0 where
  pub long : end ≡ 4 + length (later_sections f)
  pub bytes : left ≡ pasted buffer 4 (later_sections f)

-- of a frame: each number fits its bytes, the payload has at most 32, and the frame fits the buffer
pub record Room (epsilon station : ℕ) (t : Timestamp) (payload buffer : List ℕ) : Type 0 where
  pub narrow : epsilon ≤ 16
  pub station-fits : station < 256
  pub r-fits : t.r < 65536
  pub c-fits : t.c < 256
  pub payload-fits : length payload ≤ 32
  pub room : 7 + 2 * epsilon + length payload ≤ length buffer

-- the frame's bytes stand at the front of the buffer, and the rest of it is as it was
pub record Laid (size : ℕ) (left : List ℕ) (f : Frame) (buffer : List ℕ) : Type 0 where
  pub long : size ≡ length (encode f)
  pub bytes : left ≡ overlay (encode f) buffer
