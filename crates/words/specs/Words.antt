-- 02, 2.1: "A line of words beside each verdict". A name in quotes is the text of which a list has the ASCII codes. Assumes nothing.
use Rattle.std.specs.Prelude.{ℕ, zero, suc, ◌+◌, ◌*◌, ◌-◌, cond, List, [], ◌∷◌, ◌++◌, map, leb, eqb, length, get_or}
use Rattle.laws.specs.Lists.{tab, joined, overlay}
use Rattle.model.specs.Setup.{Setup}
use Rattle.model.specs.Frame.{Frame, decode}
use Rattle.model.specs.Batch.{batch_entries}
use Rattle.model.specs.Question.{Question, ask, first_no, ask_setup}
use Rattle.model.specs.Verdicts.{verdict_questions}
use Rattle.text.specs.Text.{decimal, space, newline}

-- "taken", "form", "range", "stamp", "late", "early", "count", "repeat", and "-"
abbrev pub taken_word : List ℕ
taken_word = 116 ∷ 97 ∷ 107 ∷ 101 ∷ 110 ∷ []

abbrev pub form_word : List ℕ
form_word = 102 ∷ 111 ∷ 114 ∷ 109 ∷ []

abbrev pub range_word : List ℕ
range_word = 114 ∷ 97 ∷ 110 ∷ 103 ∷ 101 ∷ []

abbrev pub stamp_word : List ℕ
stamp_word = 115 ∷ 116 ∷ 97 ∷ 109 ∷ 112 ∷ []

abbrev pub late_word : List ℕ
late_word = 108 ∷ 97 ∷ 116 ∷ 101 ∷ []

abbrev pub early_word : List ℕ
early_word = 101 ∷ 97 ∷ 114 ∷ 108 ∷ 121 ∷ []

abbrev pub count_word : List ℕ
count_word = 99 ∷ 111 ∷ 117 ∷ 110 ∷ 116 ∷ []

abbrev pub repeat_word : List ℕ
repeat_word = 114 ∷ 101 ∷ 112 ∷ 101 ∷ 97 ∷ 116 ∷ []

abbrev pub dash : List ℕ
dash = 45 ∷ []

-- 02: "the rule it failed (`form`, `range`, `stamp`, `late`, `early`, `count`, `repeat`, `full` for 10 to 17)"; with 2.7 for 10 to 16:
-- "17 leaves … the words of 2.1"
unfoldable pub rule_word : ℕ → List ℕ
rule_word number =
    cond (eqb number 10) form_word (cond (eqb number 11) range_word (cond (eqb number 12) stamp_word
    (cond (eqb number 13) late_word (cond (eqb number 14) early_word (cond (eqb number 15) count_word repeat_word)))))

-- 02: "either `taken` or the rule it failed"
unfoldable pub word_of : ℕ → List ℕ
word_of number = cond (eqb number 0) taken_word (rule_word number)

-- 02: "that rule's limits (n and B for 11, n and ε − 1 for 12, δ + ε for 13, ε − 1 for 14, n − 1 for 15, …, none for the others)"
unfoldable pub rule_limits_of : Setup → ℕ → List ℕ
rule_limits_of s number =
    cond (eqb number 11) (s.n ∷ s.modulus ∷ []) (cond (eqb number 12) (s.n ∷ (s.epsilon - 1) ∷ [])
    (cond (eqb number 13) ((s.delta + s.epsilon) ∷ []) (cond (eqb number 14) ((s.epsilon - 1) ∷ [])
    (cond (eqb number 15) ((s.n - 1) ∷ []) []))))

-- 02: "For frames refused by 10 the station and r are a dash each"
unfoldable pub or_dash : ℕ → ℕ → List ℕ
or_dash number x = cond (eqb number 10) dash (decimal x)

-- 02: "its place in the bundle from 0, station, r, and either `taken` or the rule it failed … with that rule's limits": what follows
-- the position. The station and r of an entry that is no frame are the bytes in their places; one that is missing reads as 0
unfoldable pub parts_of : Setup → ℕ → Frame → List (List ℕ)
parts_of s number f =
    or_dash number f.station ∷ or_dash number f.stamp.r ∷ word_of number ∷ map decimal (rule_limits_of s number)

-- 02: "one space between and a newline last": what follows a part of a line
unfoldable pub spaced : List (List ℕ) → List ℕ
spaced [] = newline
spaced (part ∷ rest) = space ++ (part ++ spaced rest)

-- 02: the line of the frame at a position, by the number of its verdict
unfoldable pub line_of : Setup → ℕ → ℕ → Frame → List ℕ
line_of s position number f = decimal position ++ spaced (parts_of s number f)

-- the line of the entry at a position, by the verdict buffer
unfoldable pub line_at : Setup → List (List ℕ) → List ℕ → ℕ → List ℕ
line_at s entries verdicts position = line_of s position (get_or verdicts position 0) (decode s.epsilon (get_or entries position []))

-- 02: "a line for each judged frame"
unfoldable pub word_lines : Setup → List (List ℕ) → List ℕ → List (List ℕ)
word_lines s entries verdicts = tab (length entries) (line_at s entries verdicts)

-- all lines, one after the other
unfoldable pub text_of : Setup → List (List ℕ) → List ℕ → List ℕ
text_of s entries verdicts = joined (λ line. line) (word_lines s entries verdicts)

-- 02: "A line is at most 29 bytes"
abbrev pub longest_line : ℕ
longest_line = 29

-- what is asked: 1 as of a tick; 5 and 6 of the batch and its verdicts; and 6 for a text buffer below 29 bytes an entry
unfoldable pub words_questions : Setup → ℕ → List ℕ → List ℕ → List ℕ → List Question
words_questions s own batch verdicts text =
    ask_setup s own ∷ (verdict_questions batch verdicts ++ (ask (leb (longest_line * length (batch_entries batch)) (length text)) 6 ∷ []))

-- what is answered: the number of the first no, how long the text is, and the text buffer after the call
pub record WordsAnswer : Type 0 where
  pub number : ℕ
  pub size : ℕ
  pub text : List ℕ

-- by that number: "Bytes beyond those written stay", and a refusal "is the number alone"
abbrev pub words_by : ℕ → List ℕ → List ℕ → WordsAnswer
words_by zero lines text = record { number = 0; size = length lines; text = overlay lines text }
words_by (suc k) lines text = record { number = suc k; size = 0; text = text }

-- 02, 2.1: the words of a batch and of a verdict buffer, into a text buffer
unfoldable pub words : Setup → ℕ → List ℕ → List ℕ → List ℕ → WordsAnswer
words s own batch verdicts text =
    words_by (first_no (words_questions s own batch verdicts text)) (text_of s (batch_entries batch) verdicts) text
