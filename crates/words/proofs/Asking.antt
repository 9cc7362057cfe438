-- The questions, one by one: one that gets a yes is passed over, one that gets a no answers; and the answer by the first no. Assumes nothing.
use Prim.Native.Nat.{ℕ, zero, suc, ◌*◌, ◌≤◌, ◌<◌}
use mathlib.Core.Path.{◌≡◌, refl, sym, ap, ◌∙◌}
use mathlib.Core.Bool.{Bool, true, false, ◌&&◌}
use mathlib.Core.List.{List, [], ◌∷◌, ◌++◌}
use lib.Dec.{leb}
use lib.ListN.{length}
use borrow.Author.Tests.{le-leb, lt-leb, leb-true}
use Rattle.laws.proofs.Numbers.{and_left}
use Rattle.model.specs.Setup.{Setup, in_limits, is_member}
use Rattle.model.specs.Batch.{batch_entries}
use Rattle.model.specs.Question.{Question, ask, first_no, ask_setup}
use Rattle.model.specs.Verdicts.{verdict_questions}
use Rattle.lemmas.proofs.Questions.{first-yes, other-yes, yes-cons, no-cons, no-append, yes-append, front-append}
use Rattle.batch.specs.Walk.{count_of}
use Rattle.batch.proofs.Walk.{batch-count}
use Rattle.verdicts.specs.Fit.{VerdictsFit}
use Rattle.verdicts.proofs.Asking as verdicts-asking
use Rattle.verdicts.proofs.Asking.{none_left, numbers-past-0, fits}
use Rattle.text.specs.Text.{Put}
use Rattle.words.specs.Words.{longest_line, text_of, words_questions, words_by, words}
use Rattle.words.specs.Answers.{Answered}
use Rattle.words.proofs.Writing.{put_front, put-size}

module _ (s : Setup) (own : ℕ) (batch verdicts text : List ℕ) where
  -- the number of the first no
  abbrev pub asked : ℕ
  asked = first_no (words_questions s own batch verdicts text)

  abbrev entries : ℕ
  entries = length (batch_entries batch)

  -- the last question, and those behind the first
  abbrev room : List Question
  room = ask (leb (longest_line * entries) (length text)) 6 ∷ []

  abbrev behind : List Question
  behind = verdict_questions batch verdicts ++ room

  abbrev valid : Bool
  valid = in_limits s && is_member s own

  pub setup-no : valid ≡ false → asked ≡ 1
  unfolding words_questions ask_setup
  setup-no h = no-cons valid 1 behind h

  module _ (v : valid ≡ true) where
    setup-right : asked ≡ first_no behind
    unfolding words_questions ask_setup
    setup-right = yes-cons valid 1 behind v

    pub verdicts-no : (k : ℕ) → k ≡ first_no (verdict_questions batch verdicts) → (k ≡ 0 → ⊥) → k ≡ asked
    verdicts-no k e h = no-append (verdict_questions batch verdicts) room k e h ∙ sym setup-right

    module _ (e : first_no (verdict_questions batch verdicts) ≡ 0) where
      fit : VerdictsFit batch verdicts
      fit = fits batch verdicts e

      verdicts-right : asked ≡ first_no room
      verdicts-right = setup-right ∙ yes-append (verdict_questions batch verdicts) room (numbers-past-0 batch verdicts) e

      module _ (count : ℕ) (c : count ≡ count_of batch) where
        as_many : entries ≡ count
        as_many = batch-count batch fit.exact ∙ sym c

        pub room-no : length text < longest_line * count → asked ≡ 6
        room-no k =
            verdicts-right ∙ no-cons (leb (longest_line * entries) (length text)) 6 [] (rw as_many (lt-leb (longest_line * count) (length text) k))

        pub room-right : longest_line * count ≤ length text → asked ≡ 0
        room-right k =
            verdicts-right
            ∙ (yes-cons (leb (longest_line * entries) (length text)) 6 [] (rw as_many (le-leb (longest_line * count) (length text) k)) ∙ none_left)

    -- where all get a yes
    pub none-asked : VerdictsFit batch verdicts → longest_line * entries ≤ length text → asked ≡ 0
    none-asked f k =
        let e : first_no (verdict_questions batch verdicts) ≡ 0 = verdicts-asking.none-asked batch verdicts f in
        room-right e (count_of batch) refl (rw (← batch-count batch f.exact) k)

  -- where no question gets a no
  pub answered : asked ≡ 0 → Answered s batch verdicts text
  unfolding words_questions ask_setup
  answered e =
      let e₁ = other-yes valid 0 behind e in
      let e₂ : first_no (verdict_questions batch verdicts) ≡ 0 = front-append (verdict_questions batch verdicts) room e₁ in
      let e₃ : first_no room ≡ 0 = sym (yes-append (verdict_questions batch verdicts) room (numbers-past-0 batch verdicts) e₂) ∙ e₁ in
      record {
        limits = and_left (in_limits s) (is_member s own) (first-yes valid 0 behind e);
        fit = fits batch verdicts e₂;
        room = leb-true (longest_line * entries) (length text) (first-yes (leb (longest_line * entries) (length text)) 5 [] e₃);
      }

  -- the answer by the number of the first no
  by_number : (k : ℕ) → k ≡ asked → words s own batch verdicts text ≡ words_by k (text_of s (batch_entries batch) verdicts) text
  unfolding words
  by_number k e = ap (λ (m : ℕ). words_by m (text_of s (batch_entries batch) verdicts) text) (sym e)

  pub words-refused : (k : ℕ) → k ≡ asked → (k ≡ 0 → ⊥) → record { number = k; size = 0; text = text } ≡ words s own batch verdicts text
  words-refused zero e h = absurd (h refl)
  words-refused (suc k) e h = sym (by_number (suc k) e)

  pub words-written : 0 ≡ asked → {after : List ℕ} {size : ℕ} → Put text 0 (text_of s (batch_entries batch) verdicts) after size
      → record { number = 0; size = size; text = after } ≡ words s own batch verdicts text
  words-written e {after} {size} p =
      rw (by_number 0 e) (cc (put_front p, put-size p))
