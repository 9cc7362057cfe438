-- 02, 2.1: what is shown of the lines. Assumes nothing.
use Rattle.std.specs.Prelude.{ℕ, ◌*◌, ◌≤◌, ◌<◌, ◌≡◌, true, List, length}
use Rattle.std.proofs.Math.Option.{some}
use Rattle.std.proofs.Math.ListN.{get_elem?}
use Rattle.laws.specs.Lists.{joined}
use Rattle.model.specs.Setup.{Setup, in_limits}
use Rattle.model.specs.Frame.{Frame, decode}
use Rattle.model.specs.Batch.{batch_entries}
use Rattle.model.specs.Tick.{Input, tick}
use Rattle.model.specs.Observer.{Listening, listen}
use Rattle.model.specs.Verdicts.{given}
use Rattle.verdicts.specs.Judging.{Judging, judged_number, tick_judging, listen_judging}
use Rattle.words.specs.Words.{line_of, word_lines, longest_line, words_by, words}

-- the lines of a call's batch and of the verdict buffer that it leaves
abbrev pub call_words : Judging → List (List ℕ)
call_words j = word_lines j.setup (batch_entries j.batch) j.verdicts

-- 02: "a line for each judged frame", from any state: as many lines as entries; each is that of the entry's judgement; and the words
-- are these lines, one after the other, in any text buffer that is long enough
pub record CallTold (j : Judging) (own : ℕ) : Type 0 where
  pub each-one : length (call_words j) ≡ length (batch_entries j.batch)
  pub line-by-line :
      (position : ℕ) (entry : List ℕ) → get_elem? (batch_entries j.batch) position ≡ some entry
      → get_elem? (call_words j) position ≡ some (line_of j.setup position (judged_number j position entry) (decode j.setup.epsilon entry))
  pub written :
      (text : List ℕ) → longest_line * length (batch_entries j.batch) ≤ length text
      → words j.setup own j.batch j.verdicts text ≡ words_by 0 (joined (λ line. line) (call_words j)) text

-- of a tick
abbrev pub TrueWords : Type 0
TrueWords = (i : Input) → (tick i).answer.number ≡ 0 → CallTold (tick_judging i) i.own

-- 02, 2.6: of an observer's call. It has no own number; the words ask for one, and any below n will do
abbrev pub TrueObserverWords : Type 0
TrueObserverWords = (i : Listening) (own : ℕ) → own < i.setup.n → (listen i).number ≡ 0 → CallTold (listen_judging i) own

-- what two lines tell
pub record SameJudgement (position number : ℕ) (f : Frame) (position' number' : ℕ) (f' : Frame) : Type 0 where
  pub same-position : position ≡ position'
  pub same_number : number ≡ number'
  -- 02: "past 10"
  pub same-station : (number ≡ 10 → ⊥) → f.station ≡ f'.station
  pub same-r : (number ≡ 10 → ⊥) → f.stamp.r ≡ f'.stamp.r

-- 02: "Two judgements that differ in place, rule or, past 10, station or r must never give the same line", whatever the two setups
abbrev pub TellingLines : Type 0
TellingLines =
    (s s' : Setup) (position position' number number' : ℕ) (f f' : Frame) → given number ≡ true → given number' ≡ true
    → line_of s position number f ≡ line_of s' position' number' f' → SameJudgement position number f position' number' f'

-- 02: "A line is at most 29 bytes". A batch has at most 255 entries, a station is one byte and r two
abbrev pub ShortLines : Type 0
ShortLines =
    (s : Setup) (position number : ℕ) (f : Frame) → in_limits s ≡ true → given number ≡ true → position < 255 → f.station < 256
    → f.stamp.r < 65536 → length (line_of s position number f) ≤ longest_line
