-- 01: "Reader and writer alone". A refused one "answers the number alone and writes nothing".
use Rattle.std.specs.Prelude.{ℕ, zero, suc, List, [], ◌∷◌, leb, length, replicate}
use Rattle.laws.specs.Lists.{overlay}
use Rattle.model.specs.Setup.{Setup, widest, longest_payload}
use Rattle.model.specs.Timestamp.{Timestamp, trimmed, widened}
use Rattle.model.specs.Frame.{Frame, encode, decode}
use Rattle.model.specs.Question.{Question, ask, first_no, ask_setup, ask_range, ask_stamp, frame_questions}

-- 01, 4: "Is the ticket at most 32 bytes?"
unfoldable pub ask_payload : List ℕ → Question
ask_payload payload = ask (leb (length payload) longest_payload) 4

-- 01: "the reader asks 1, 10, 11, 12"
unfoldable pub read_questions : Setup → ℕ → List ℕ → List Question
read_questions s own bytes = ask_setup s own ∷ frame_questions s bytes

-- what the reader answers: the number, the contents, and the payload, "the very bytes of the frame"
pub record ReadAnswer : Type 0 where
  -- 0, or the check's number
  pub number : ℕ
  pub station : ℕ
  pub stamp : Timestamp
  -- 01: the ticket
  pub payload : List ℕ

-- a timestamp of zeros
unfoldable pub no_timestamp : Timestamp
no_timestamp = record { r = 0; c = 0; kn = replicate widest 0 }

-- the answer by the number of the first no
abbrev pub read_by : ℕ → Frame → ReadAnswer
read_by zero f = record { number = 0; station = f.station; stamp = widened f.stamp; payload = f.payload }
read_by (suc k) f = record { number = suc k; station = 0; stamp = no_timestamp; payload = [] }

-- 01: the reader
unfoldable pub read : Setup → ℕ → List ℕ → ReadAnswer
read s own bytes = read_by (first_no (read_questions s own bytes)) (decode s.epsilon bytes)

-- the frame that the writer makes of a station, a stamp and a ticket. 01: "Places past the 2ε counts are ignored, by the writer too"
unfoldable pub frame_of : ℕ → ℕ → Timestamp → List ℕ → Frame
frame_of epsilon station t payload = record { station = station; stamp = trimmed epsilon t; payload = payload }

-- 01: "the writer asks 1, 4, 11, 12, then 6 if its buffer is shorter than this frame"
unfoldable pub write_frame_questions : Setup → ℕ → Frame → List ℕ → List Question
write_frame_questions s own f buffer =
    ask_setup s own ∷ ask_payload f.payload ∷ ask_range s f ∷ ask_stamp s f
    ∷ ask (leb (length (encode f)) (length buffer)) 6 ∷ []

-- what the writer answers and leaves in its buffer
pub record WriteAnswer : Type 0 where
  -- 0, or the check's number
  pub number : ℕ
  -- the length of the frame
  pub size : ℕ
  pub buffer : List ℕ

-- the answer by the number of the first no, and the frame's bytes
abbrev pub written_by : ℕ → List ℕ → List ℕ → WriteAnswer
written_by zero bytes buffer = record { number = 0; size = length bytes; buffer = overlay bytes buffer }
written_by (suc k) bytes buffer = record { number = suc k; size = 0; buffer = buffer }

abbrev pub write_by : ℕ → Frame → List ℕ → WriteAnswer
write_by number f buffer = written_by number (encode f) buffer

-- the writer of a frame
unfoldable pub write_frame : Setup → ℕ → Frame → List ℕ → WriteAnswer
write_frame s own f buffer = write_by (first_no (write_frame_questions s own f buffer)) f buffer

-- the questions of the writer
abbrev pub write_questions : Setup → ℕ → ℕ → Timestamp → List ℕ → List ℕ → List Question
write_questions s own station t payload buffer =
    write_frame_questions s own (frame_of s.epsilon station t payload) buffer

-- 01: the writer, of a station, a stamp and a ticket, into its buffer
abbrev pub write : Setup → ℕ → ℕ → Timestamp → List ℕ → List ℕ → WriteAnswer
write s own station t payload buffer = write_frame s own (frame_of s.epsilon station t payload) buffer
