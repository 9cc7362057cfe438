-- The questions, one by one: one that gets a yes is passed over, one that gets a no answers. Assumes nothing.
use Prim.Native.Nat.{ℕ, ◌≤◌, ◌<◌}
use mathlib.Core.Path.{◌≡◌, refl, sym, ◌∙◌}
use mathlib.Core.Bool.{true, false}
use mathlib.Core.List.{List, [], ◌∷◌}
use lib.Dec.{leb, ltb}
use lib.ListN.{length, take}
use borrow.Author.Tests.{le-leb, lt-leb, leb-true}
use Rattle.laws.specs.Lists.{every}
use Rattle.model.specs.Batch.{exact_batch, batch_entries}
use Rattle.model.specs.Question.{Question, ask, first_no}
use Rattle.model.specs.Verdicts.{given, verdict_questions}
use Rattle.lemmas.proofs.Questions.{first-yes, other-yes, yes-cons, no-cons}
use Rattle.batch.specs.Walk.{count_of}
use Rattle.batch.proofs.Walk.{batch-count}
use Rattle.verdicts.specs.Fit.{VerdictsFit}

-- no question is left
pub none_left : first_no [] ≡ 0
unfolding first_no
none_left = refl

-- none of them has the number 0
pub numbers-past-0 : (batch verdicts : List ℕ) → every (λ q. ltb 0 q.number) (verdict_questions batch verdicts) ≡ true
unfolding verdict_questions every
numbers-past-0 batch verdicts = refl

module _ (batch verdicts : List ℕ) where
  -- the number of the first no
  abbrev pub asked : ℕ
  asked = first_no (verdict_questions batch verdicts)

  abbrev entries : ℕ
  entries = length (batch_entries batch)

  -- the questions from each one on
  abbrev from_given : List Question
  from_given = ask (every given (take entries verdicts)) 6 ∷ []

  abbrev from_count : List Question
  from_count = ask (leb entries (length verdicts)) 6 ∷ from_given

  pub exact-no : exact_batch batch ≡ false → asked ≡ 5
  unfolding verdict_questions
  exact-no h = no-cons (exact_batch batch) 5 from_count h

  module _ (e : exact_batch batch ≡ true) (count : ℕ) (c : count ≡ count_of batch) where
    as_many : entries ≡ count
    as_many = batch-count batch e ∙ sym c

    exact-right : asked ≡ first_no from_count
    unfolding verdict_questions
    exact-right = yes-cons (exact_batch batch) 5 from_count e

    pub count_no : length verdicts < count → asked ≡ 6
    count_no h = exact-right ∙ no-cons (leb entries (length verdicts)) 6 from_given (rw as_many (lt-leb count (length verdicts) h))

    module _ (h : count ≤ length verdicts) where
      count-right : asked ≡ first_no from_given
      count-right = exact-right ∙ yes-cons (leb entries (length verdicts)) 6 from_given (rw as_many (le-leb count (length verdicts) h))

      pub given-no : every given (take count verdicts) ≡ false → asked ≡ 6
      given-no g = count-right ∙ no-cons (every given (take entries verdicts)) 6 [] (rw as_many g)

      pub given-right : every given (take count verdicts) ≡ true → asked ≡ 0
      given-right g = count-right ∙ (yes-cons (every given (take entries verdicts)) 6 [] (rw as_many g) ∙ none_left)

  -- where no question gets a no
  pub fits : asked ≡ 0 → VerdictsFit batch verdicts
  unfolding verdict_questions
  fits e =
      let e₁ = other-yes (exact_batch batch) 4 from_count e in
      let e₂ = other-yes (leb entries (length verdicts)) 5 from_given e₁ in
      record {
        exact = first-yes (exact_batch batch) 4 from_count e;
        enough = leb-true entries (length verdicts) (first-yes (leb entries (length verdicts)) 5 from_given e₁);
        all-given = first-yes (every given (take entries verdicts)) 5 [] e₂;
      }

  -- and the other way round
  pub none-asked : VerdictsFit batch verdicts → asked ≡ 0
  unfolding verdict_questions
  none-asked a =
      yes-cons (exact_batch batch) 5 from_count a.exact
      ∙ (yes-cons (leb entries (length verdicts)) 6 from_given (le-leb entries (length verdicts) a.enough)
      ∙ (yes-cons (every given (take entries verdicts)) 6 [] a.all-given ∙ none_left))
