-- 02, 2.10: the words of 2.1 with both pairs of limits. Assumes nothing.
use Rattle.std.specs.Prelude.{ℕ, ◌*◌, List, [], ◌∷◌, ◌++◌, leb, length}
use Rattle.model.specs.Setup.{Setup}
use Rattle.model.specs.Batch.{batch_entries}
use Rattle.model.specs.Question.{Question, ask, first_no}
use Rattle.model.specs.Verdicts.{verdict_questions}
use Rattle.model.specs.Schedule.{Wider, ask_both, ask_wider, side_of}
use Rattle.words.specs.Words.{longest_line, text_of, WordsAnswer, words_by}

-- what is asked: 1 and 19, then as of the words with one pair
unfoldable pub words_in_questions : Setup → Wider → ℕ → List ℕ → List ℕ → List ℕ → List Question
words_in_questions s w own batch verdicts text =
    ask_both s w own ∷ ask_wider s w
    ∷ (verdict_questions batch verdicts ++ (ask (leb (longest_line * length (batch_entries batch)) (length text)) 6 ∷ []))

-- the words have no clock: they print the limits of the mark's side
unfoldable pub words_in : Setup → Wider → ℕ → List ℕ → List ℕ → List ℕ → WordsAnswer
words_in s w own batch verdicts text =
    words_by (first_no (words_in_questions s w own batch verdicts text)) (text_of (side_of s w) (batch_entries batch) verdicts) text
