-- 02, 2.10: the questions of an observer's call with both pairs of limits, and what an accepted call has passed. Assumes nothing.
use Prim.Native.Nat.{ℕ, ◌<◌}
use mathlib.Core.Path.{◌≡◌, refl, sym, ap, ◌∙◌}
use mathlib.Core.List.{List, [], ◌∷◌}
use Rattle.laws.specs.Lists.{every}
use Rattle.model.specs.Setup.{Setup}
use Rattle.model.specs.Question.{Question, ask, first_no}
use Rattle.model.specs.Observer.{Listening}
use Rattle.model.specs.Schedule.{widest_of, Wider, wider_setup, both_in_limits, ask_wider, along}
use Rattle.model.specs.WiderCalls.{listen_in_questions}
use Rattle.lemmas.proofs.Questions.{no-append, yes-append}
use Rattle.lemmas.proofs.WiderCall.{BothPairs, along-good, along-modulus}
use Rattle.observer.specs.Views.{sized_listening}
use Rattle.observer.proofs.Calls.{Sized, sized-passed}
use Rattle.pairs.proofs.Sides.{pairs-passed}
use Rattle.widernode.proofs.Calls.{widest-is}
use Rattle.widerobserver.specs.States.{Heeded}

-- 1 and 19, and the others behind them
module _ (w : Wider) (i : Listening) where
  abbrev both : List Question
  both = ask (both_in_limits i.setup w) 1 ∷ ask_wider i.setup w ∷ []

  call-is : first_no (listen_in_questions w i) ≡ first_no (ask (both_in_limits i.setup w) 1 ∷ ask_wider i.setup w ∷ sized_listening (wider_setup i.setup w) i)
  unfolding listen_in_questions sized_listening
  call-is = ap (λ (size : Setup). first_no (ask (both_in_limits i.setup w) 1 ∷ ask_wider i.setup w ∷ sized_listening size i)) (widest-is i.setup w i.clock)

  pub both-no : (k : ℕ) → k ≡ first_no both → (k ≡ 0 → ⊥) → k ≡ first_no (listen_in_questions w i)
  both-no k e h = no-append both (sized_listening (wider_setup i.setup w) i) k e h ∙ sym call-is

  pub sized-left : (k : ℕ) → first_no both ≡ 0 → k ≡ first_no (sized_listening (wider_setup i.setup w) i) → k ≡ first_no (listen_in_questions w i)
  unfolding every ask_wider
  sized-left k h e = e ∙ sym (call-is ∙ yes-append both (sized_listening (wider_setup i.setup w) i) refl h)

  -- what an accepted call has passed
  pub call-both : first_no (listen_in_questions w i) ≡ 0 → BothPairs i.setup w
  call-both e = (pairs-passed i.setup w (sized_listening (wider_setup i.setup w) i) (sym call-is ∙ e)).0

  sized : first_no (listen_in_questions w i) ≡ 0 → Sized (wider_setup i.setup w) i
  sized e = sized-passed (wider_setup i.setup w) i (pairs-passed i.setup w (sized_listening (wider_setup i.setup w) i) (sym call-is ∙ e)).1

  pub call_below : first_no (listen_in_questions w i) ≡ 0 → i.clock < i.setup.modulus
  call_below e = (sized e).below

  pub call-heeded : first_no (listen_in_questions w i) ≡ 0 → Heeded (along i.setup w i.clock) i.clock i.holdback i.batch i.verdicts i.delivery
  call-heeded e =
      let widest : widest_of (along i.setup w i.clock) ≡ wider_setup i.setup w = widest-is i.setup w i.clock in
      record {
        timed = record { good = along-good i.setup w i.clock (call-both e); below = rw (along-modulus i.setup w i.clock) (call_below e) };
        size = rw widest (sized e).size;
        exact = (sized e).exact;
        verdicts-room = (sized e).verdicts-room;
        delivery-room = rw widest (sized e).delivery-room;
      }
