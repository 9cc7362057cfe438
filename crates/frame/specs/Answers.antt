-- The answers of reader and writer in the model's terms. Assumes nothing.
use Rattle.std.specs.Prelude.{ℕ, List, []}
use Rattle.model.specs.Codec.{ReadAnswer, WriteAnswer, no_timestamp}
use Rattle.timestamp.specs.Views.{stamp_of}
use Rattle.frame.specs.declared.reader.ReadFrame.{ReadFrame}
use Rattle.frame.specs.declared.writer.Written.{Written}

-- the reader's answer, with the part of the frame that is the payload
abbrev pub read_answer : ReadFrame → List ℕ → ReadAnswer
read_answer a payload =
    record { number = a.number; station = a.station; stamp = stamp_of a.stamp; payload = payload }

-- 01: a refused reader "answers the number alone"
abbrev pub refused_read : ℕ → ReadAnswer
refused_read number = record { number = number; station = 0; stamp = no_timestamp; payload = [] }

-- the writer's answer, with its buffer as it left it
abbrev pub write_answer : Written → List ℕ → WriteAnswer
write_answer a buffer = record { number = a.number; size = a.size; buffer = buffer }
