-- After an accepted tick, and after an observer's call, from any state, the words of its batch and of its verdict buffer are those of its judgements:
-- one proof for both, by whatever is asked. Assumes nothing.
use Prim.Native.Nat.{ℕ, ◌*◌, ◌≤◌, ◌<◌}
use mathlib.Core.Path.{◌≡◌, ap, ◌∙◌}
use mathlib.Core.Bool.{true, ◌&&◌}
use mathlib.Core.List.{List, []}
use mathlib.Core.Option.{some}
use native.Mathlib.Omega.{arith}
use lib.ListN.{length, get_elem?}
use Rattle.laws.specs.Lists.{joined}
use Rattle.laws.proofs.Lists.{length-tab, get_or-tab, get_elem?-in, get_elem?-lt, get_elem?-get_or}
use Rattle.model.specs.Setup.{Setup, in_limits, is_member}
use Rattle.model.specs.Frame.{decode}
use Rattle.model.specs.Batch.{batch_entries}
use Rattle.lemmas.proofs.Questions.{setup-to}
use Rattle.lemmas.proofs.OneTick.{no-question-fails}
use Rattle.lemmas.proofs.OneListening.{listen-accepted}
use Rattle.verdicts.specs.Judging.{Judging, judged_number, tick_judging, listen_judging}
use Rattle.verdicts.proofs.Judged.{Judged, judged-fit, tick-asked, tick-judged, listen-judged}
use Rattle.words.specs.Words.{line_of, line_at, word_lines, text_of, longest_line, words_by, words}
use Rattle.words.specs.Statements.{call_words, CallTold, TrueWords, TrueObserverWords}
use Rattle.words.proofs.Asking.{none-asked}

length-lines : (s : Setup) (entries : List (List ℕ)) (verdicts : List ℕ) → length (word_lines s entries verdicts) ≡ length entries
unfolding word_lines
length-lines s entries verdicts = length-tab (length entries) (line_at s entries verdicts)

module _ (j : Judging) (a : Judged j) where
  abbrev entries : List (List ℕ)
  entries = batch_entries j.batch

  judged-line :
      (position : ℕ) (entry : List ℕ) → get_elem? entries position ≡ some entry
      → get_elem? (call_words j) position ≡ some (line_of j.setup position (judged_number j position entry) (decode j.setup.epsilon entry))
  unfolding word_lines line_at
  judged-line position entry there =
      let below : position < length entries = get_elem?-lt entries position there in
      get_elem?-in (call_words j) position [] (omega (arith, length-lines j.setup entries j.verdicts))
      ∙ ap some
      (get_or-tab (length entries) (line_at j.setup entries j.verdicts) position [] below
      ∙ rw (a.byte position entry there, get_elem?-get_or entries position [] there))

  -- what the words ask again gets a yes
  module _ (own : ℕ) (valid : (in_limits j.setup && is_member j.setup own) ≡ true) where
    judged-text : (text : List ℕ) → longest_line * length entries ≤ length text
        → words j.setup own j.batch j.verdicts text ≡ words_by 0 (joined (λ line. line) (call_words j)) text
    unfolding words text_of
    judged-text text room =
        ap (λ (k : ℕ). words_by k (text_of j.setup entries j.verdicts) text)
        (none-asked j.setup own j.batch j.verdicts text valid (judged-fit j a) room)

    call-told : CallTold j own
    call-told = record { each-one = length-lines j.setup entries j.verdicts; line-by-line = judged-line; written = judged-text }

-- a tick
pub judged-words : TrueWords
judged-words i ok = call-told (tick_judging i) (tick-judged i ok) i.own (tick-asked i (no-question-fails i ok)).0

-- an observer's call
pub observed-words : TrueObserverWords
observed-words i own below ok =
    call-told (listen_judging i) (listen-judged i ok) own (setup-to i.setup own (listen-accepted i ok).limits below)
