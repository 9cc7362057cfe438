-- 02, 2.9: the questions of an engine's call, one by one, as the code asks them. Assumes nothing.
use Prim.Native.Nat.{ℕ, ◌≤◌, ◌<◌}
use mathlib.Core.Path.{◌≡◌, refl, sym, ap, ◌∙◌}
use mathlib.Core.Bool.{Bool, true, false, ◌&&◌}
use mathlib.Core.List.{List, ◌∷◌}
use lib.Dec.{ltb, eqb}
use lib.ListN.{length}
use borrow.Author.Tests.{lt-ltb, le-ltb, eq-eqb, ne_eqb}
use Rattle.model.specs.Setup.{is_member}
use Rattle.model.specs.Question.{Question, ask, first_no}
use Rattle.model.specs.Tick.{Input}
use Rattle.model.specs.Long.{long_bound, long_limits, ask_long_setup, longest_long, long_holdback_size, long_call_questions}
use Rattle.lemmas.proofs.Questions.{yes-cons, no-cons}
use Rattle.node.specs.Views.{buffer_questions}

module _ (i : Input) where
  -- what question 1 asks
  abbrev valid : Bool
  valid = long_limits i.setup && is_member i.setup i.own

  -- questions 4 to 6, by the lengths of the longest frame and of the shelf
  abbrev buffers : ℕ → ℕ → List Question
  buffers longest size = buffer_questions longest size i.batch i.payload i.outgoing i.verdicts i.delivery

  -- the questions from each on
  abbrev from4 : List Question
  from4 = buffers (longest_long i.setup.epsilon) (long_holdback_size i.setup)

  abbrev from3 : List Question
  from3 = ask (eqb (length i.holdback) (long_holdback_size i.setup)) 3 ∷ from4

  abbrev from2 : List Question
  from2 = ask (ltb i.clock long_bound) 2 ∷ from3

  call-is : long_call_questions i ≡ ask valid 1 ∷ from2
  unfolding long_call_questions ask_long_setup buffer_questions
  call-is = refl

  pub setup-no : valid ≡ false → 1 ≡ first_no (long_call_questions i)
  setup-no h = sym (ap first_no call-is ∙ no-cons valid 1 from2 h)

  module _ (h1 : valid ≡ true) where
    left2 : first_no (long_call_questions i) ≡ first_no from2
    left2 = ap first_no call-is ∙ yes-cons valid 1 from2 h1

    pub clock-no : long_bound ≤ i.clock → 2 ≡ first_no (long_call_questions i)
    clock-no h = sym (left2 ∙ no-cons _ 2 from3 (le-ltb i.clock long_bound h))

    module _ (h2 : i.clock < long_bound) where
      left3 : first_no (long_call_questions i) ≡ first_no from3
      left3 = left2 ∙ yes-cons _ 2 from3 (lt-ltb i.clock long_bound h2)

      pub size-no : (length i.holdback ≡ long_holdback_size i.setup → ⊥) → 3 ≡ first_no (long_call_questions i)
      size-no h = sym (left3 ∙ no-cons _ 3 from4 (ne_eqb (length i.holdback) (long_holdback_size i.setup) h))

      -- the shelf has its length, so the hand-out buffer is held to it
      pub buffers-left :
          (k longest : ℕ) → length i.holdback ≡ long_holdback_size i.setup → longest ≡ longest_long i.setup.epsilon
          → k ≡ first_no (buffers longest (length i.holdback)) → k ≡ first_no (long_call_questions i)
      buffers-left k longest h3 e-longest e =
          e ∙ ap (λ (n : ℕ). first_no (buffers n (length i.holdback))) e-longest
          ∙ ap (λ (n : ℕ). first_no (buffers (longest_long i.setup.epsilon) n)) h3
          ∙ sym (left3 ∙ yes-cons _ 3 from4 (eq-eqb (length i.holdback) (long_holdback_size i.setup) h3))
