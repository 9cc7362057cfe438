-- The verdict buffer of a call, handed on with its batch: 02's words (2.1) and figures (2.13) are made of both.
use Rattle.std.specs.Prelude.{ℕ, Bool, ◌||◌, List, [], ◌∷◌, leb, eqb, length, take}
use Rattle.laws.specs.Lists.{within, every}
use Rattle.model.specs.Batch.{exact_batch, batch_entries}
use Rattle.model.specs.Question.{Question, ask}

-- the numbers that a judgement gives. 01: "the verdict buffer gets 0 or the number", one of 10 to 16
unfoldable pub given : ℕ → Bool
given number = eqb number 0 || within 10 16 number

-- what is asked of both: 5 as of a tick; 6 for fewer verdicts than entries, and for a verdict of one of these entries that no judgement gives
unfoldable pub verdict_questions : List ℕ → List ℕ → List Question
verdict_questions batch verdicts =
    ask (exact_batch batch) 5
    ∷ ask (leb (length (batch_entries batch)) (length verdicts)) 6
    ∷ ask (every given (take (length (batch_entries batch)) verdicts)) 6
    ∷ []
