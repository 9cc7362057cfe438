-- The answer of the code in the terms of the definitions, and what its loop goes by. Assumes nothing.
use Rattle.std.specs.Prelude.{ℕ, ◌*◌, ◌≤◌, ◌≡◌, true, List, [], ◌∷◌, length, take}
use Rattle.model.specs.Setup.{Setup, in_limits}
use Rattle.model.specs.Batch.{batch_entries}
use Rattle.verdicts.specs.Fit.{VerdictsFit}
use Rattle.words.specs.Words.{WordsAnswer, longest_line}
use Rattle.words.specs.declared.line.RuleLimits.{RuleLimits}
use Rattle.words.specs.declared.lines.Written.{Written}

-- the limits of a rule, none to two of them
abbrev pub shown : RuleLimits → List ℕ
shown l = take l.count (l.first ∷ l.second ∷ [])

-- the answer, with the text buffer as it was left
abbrev pub answer_of : Written → List ℕ → WordsAnswer
answer_of a text = record { number = a.number; size = a.size; text = text }

-- every question got a yes
pub record Answered (s : Setup) (batch verdicts text : List ℕ) : Type 0 where
  pub limits : in_limits s ≡ true
  pub fit : VerdictsFit batch verdicts
  pub room : longest_line * length (batch_entries batch) ≤ length text
