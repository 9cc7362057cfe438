-- The answer of the reader in the model's terms.
-- Assumes nothing.
use Rattle.std.specs.Prelude.{ℕ, List}
use Rattle.model.specs.WiderCalls.{ReadInAnswer}
use Rattle.timestamp.specs.Views.{stamp_of}
use Rattle.widerframe.specs.declared.codec.ReadIn.{ReadIn}

-- the reader's answer, with the part of the frame that is the payload
abbrev pub read_in_answer : ReadIn → List ℕ → ReadInAnswer
read_in_answer a payload =
    record { number = a.frame.number; wide = a.wide; station = a.frame.station; stamp = stamp_of a.frame.stamp; payload = payload }
