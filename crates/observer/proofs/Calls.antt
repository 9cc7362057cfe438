-- The questions of an observer's call, one by one, as the code asks them. Assumes nothing.
use Prim.Native.Nat.{ℕ, ◌≤◌, ◌<◌}
use mathlib.Core.Path.{◌≡◌, refl, sym, ap, ◌∙◌}
use mathlib.Core.Bool.{true, false}
use mathlib.Core.List.{List, [], ◌∷◌}
use lib.Dec.{leb, ltb, eqb}
use lib.ListN.{length}
use borrow.Author.Tests.{leb-true, ltb-true, eqb-true}
use Rattle.laws.specs.Lists.{every}
use Rattle.laws.proofs.Numbers.{and_left, and_right}
use Rattle.model.specs.Setup.{Setup, in_limits, verdict_length}
use Rattle.model.specs.Batch.{exact_batch}
use Rattle.model.specs.Question.{Question, ask, first_no}
use Rattle.model.specs.Tick.{holdback_size, delivery_roomy, holdback_questions}
use Rattle.model.specs.Observer.{Listening, listen_questions}
use Rattle.lemmas.proofs.Questions.{first-yes, other-yes, yes-cons, no-cons, yes-append, no-append}
use Rattle.observer.specs.Views.{sized_listening}

-- ---- 2, 3, 5 and 6, with the sizes by a setup

module _ (s : Setup) (i : Listening) where
  -- the questions from each on
  abbrev from6 : List Question
  from6 = ask (delivery_roomy s i.verdicts i.delivery) 6 ∷ []

  abbrev from5 : List Question
  from5 = ask (exact_batch i.batch) 5 ∷ from6

  -- questions 2 and 3
  abbrev holdback_asked : List Question
  holdback_asked = holdback_questions s i.clock i.holdback

  pub holdback-no : (k : ℕ) → k ≡ first_no holdback_asked → (k ≡ 0 → ⊥) → k ≡ first_no (sized_listening s i)
  unfolding sized_listening
  holdback-no k e h = no-append holdback_asked from5 k e h

  module _ (h2 : first_no holdback_asked ≡ 0) where
    left5 : first_no (sized_listening s i) ≡ first_no from5
    unfolding every sized_listening
    left5 = yes-append holdback_asked from5 refl h2

    pub batch-no : exact_batch i.batch ≡ false → 5 ≡ first_no (sized_listening s i)
    batch-no h = sym (left5 ∙ no-cons _ 5 from6 h)

    module _ (h5 : exact_batch i.batch ≡ true) where
      left6 : first_no (sized_listening s i) ≡ first_no from6
      left6 = left5 ∙ yes-cons _ 5 from6 h5

      pub delivery-no : delivery_roomy s i.verdicts i.delivery ≡ false → 6 ≡ first_no (sized_listening s i)
      delivery-no h = sym (left6 ∙ no-cons _ 6 [] h)

      pub none-no : delivery_roomy s i.verdicts i.delivery ≡ true → 0 ≡ first_no (sized_listening s i)
      unfolding first_no
      none-no h = sym (left6 ∙ yes-cons _ 6 [] h)

-- what a call has passed then
pub record Sized (s : Setup) (i : Listening) : Type 0 where
  pub below : i.clock < s.modulus
  pub size : length i.holdback ≡ holdback_size s
  pub exact : exact_batch i.batch ≡ true
  pub verdicts-room : verdict_length ≤ length i.verdicts
  pub delivery-room : holdback_size s ≤ length i.delivery

pub sized-passed : (s : Setup) (i : Listening) → first_no (sized_listening s i) ≡ 0 → Sized s i
unfolding sized_listening
sized-passed s i e =
    let e₃ = other-yes (ltb i.clock s.modulus) 1 _ e in
    let e₅ = other-yes (eqb (length i.holdback) (holdback_size s)) 2 _ e₃ in
    let e₆ = other-yes (exact_batch i.batch) 4 _ e₅ in
    let room = first-yes (delivery_roomy s i.verdicts i.delivery) 5 _ e₆ in
    record {
      below = ltb-true i.clock s.modulus (first-yes (ltb i.clock s.modulus) 1 _ e);
      size = eqb-true (length i.holdback) (holdback_size s) (first-yes (eqb (length i.holdback) (holdback_size s)) 2 _ e₃);
      exact = first-yes (exact_batch i.batch) 4 _ e₅;
      verdicts-room = leb-true verdict_length (length i.verdicts) (and_left (leb verdict_length (length i.verdicts)) _ room);
      delivery-room = leb-true (holdback_size s) (length i.delivery) (and_right (leb verdict_length (length i.verdicts)) _ room);
    }

-- ---- and 1

module _ (i : Listening) where
  listen-is : listen_questions i ≡ ask (in_limits i.setup) 1 ∷ sized_listening i.setup i
  unfolding listen_questions sized_listening
  listen-is = refl

  pub sized-asked : first_no (listen_questions i) ≡ 0 → (in_limits i.setup ≡ true) × (first_no (sized_listening i.setup i) ≡ 0)
  sized-asked e =
      let e₁ = ap first_no (sym listen-is) ∙ e in
      (first-yes (in_limits i.setup) 0 (sized_listening i.setup i) e₁, other-yes (in_limits i.setup) 0 (sized_listening i.setup i) e₁)

  pub setup-no : in_limits i.setup ≡ false → 1 ≡ first_no (listen_questions i)
  setup-no h = sym (ap first_no listen-is ∙ no-cons (in_limits i.setup) 1 (sized_listening i.setup i) h)

  pub sized-left : (k : ℕ) → in_limits i.setup ≡ true → k ≡ first_no (sized_listening i.setup i) → k ≡ first_no (listen_questions i)
  sized-left k h e = e ∙ sym (ap first_no listen-is ∙ yes-cons (in_limits i.setup) 1 (sized_listening i.setup i) h)
