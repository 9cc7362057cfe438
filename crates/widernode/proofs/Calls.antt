-- 02, 2.10: the questions of a call with both pairs of limits, and what an accepted call has passed. Assumes nothing.
use Prim.Native.Nat.{ℕ, ◌<◌}
use mathlib.Core.Path.{◌≡◌, refl, sym, ap, ◌∙◌}
use mathlib.Core.Bool.{Bool, true, false, ◌&&◌, cond}
use mathlib.Core.List.{List, [], ◌∷◌}
use lib.Dec.{ltb, eqb}
use borrow.Author.Tests.{eqb-true, ltb-true}
use Rattle.laws.specs.Lists.{every}
use Rattle.laws.proofs.Numbers.{and_left, and_right}
use Rattle.model.specs.Setup.{Setup, is_member}
use Rattle.model.specs.Question.{Question, first_no}
use Rattle.model.specs.Tick.{Input}
use Rattle.model.specs.Schedule.{Schedule, steady, widening, widest_of, modulus_of, Wider, wider_setup, both_in_limits, ask_both, ask_wider, change_near, same_pairs, along}
use Rattle.model.specs.Wider.{sized_questions, wider_call_questions}
use Rattle.model.proofs.EqualCalls.{Equal}
use Rattle.lemmas.proofs.Questions.{first-yes, no-append, yes-append}
use Rattle.lemmas.proofs.Schedules.{limits-n}
use Rattle.lemmas.proofs.WiderCall.{BothPairs, along-good, along-modulus}
use Rattle.node.proofs.Calls.{Sized, sized-passed}
use Rattle.pairs.proofs.Sides.{both-passed}
use Rattle.widernode.specs.States.{Accepted}

-- pairs that are one
module _ (s : Setup) (w : Wider) (same : same_pairs s w ≡ true) where
  same-epsilon : w.epsilon ≡ s.epsilon
  unfolding same_pairs
  same-epsilon = eqb-true w.epsilon s.epsilon (and_left (eqb w.epsilon s.epsilon) _ same)

  same-delta : w.delta ≡ s.delta
  unfolding same_pairs
  same-delta = eqb-true w.delta s.delta (and_right (eqb w.epsilon s.epsilon) _ same)

  pub same-equal : BothPairs s w → Equal s w
  same-equal both = record { epsilon = same-epsilon; delta = same-delta; below = both.change-below; mark = both.marked-bit }

module _ (s : Setup) (w : Wider) where
  -- 02: "shelves and buffers have the new sizes": those of the second pair, also where both are one
  pub widest-is : (v : ℕ) → widest_of (along s w v) ≡ wider_setup s w
  unfolding along
  widest-is v = go (same_pairs s w) refl
    where
      go : (b : Bool) → same_pairs s w ≡ b → widest_of (cond b (steady s) (widening s (wider_setup s w) (change_near s.modulus v w))) ≡ wider_setup s w
      go true e = λ j. record { n = s.n; epsilon = sym (same-epsilon s w e) j; delta = sym (same-delta s w e) j; modulus = s.modulus }
      go false e = refl

-- 1 and 19, and 2 to 6 behind them
module _ (w : Wider) (i : Input) where
  abbrev both : List Question
  both = ask_both i.setup w i.own ∷ ask_wider i.setup w ∷ []

  call-is : first_no (wider_call_questions w i) ≡ first_no (ask_both i.setup w i.own ∷ ask_wider i.setup w ∷ sized_questions (wider_setup i.setup w) i)
  unfolding wider_call_questions
  call-is = ap (λ (size : Setup). first_no (ask_both i.setup w i.own ∷ ask_wider i.setup w ∷ sized_questions size i)) (widest-is i.setup w i.clock)

  pub both-no : (k : ℕ) → k ≡ first_no both → (k ≡ 0 → ⊥) → k ≡ first_no (wider_call_questions w i)
  both-no k e h = no-append both (sized_questions (wider_setup i.setup w) i) k e h ∙ sym call-is

  pub sized-left : (k : ℕ) → first_no both ≡ 0 → k ≡ first_no (sized_questions (wider_setup i.setup w) i) → k ≡ first_no (wider_call_questions w i)
  unfolding every ask_both ask_wider
  sized-left k h e = e ∙ sym (call-is ∙ yes-append both (sized_questions (wider_setup i.setup w) i) refl h)

  -- what an accepted call has passed
  own-passed : first_no (wider_call_questions w i) ≡ 0 → i.own < i.setup.n
  unfolding ask_both is_member
  own-passed e =
      let asked = both_in_limits i.setup w && ltb i.own i.setup.n in
      ltb-true i.own i.setup.n (and_right (both_in_limits i.setup w) _ (first-yes asked 0 _ (sym call-is ∙ e)))

  pub call-both : first_no (wider_call_questions w i) ≡ 0 → BothPairs i.setup w
  call-both e = (both-passed i.setup w i.own (sized_questions (wider_setup i.setup w) i) (sym call-is ∙ e)).0

  pub call-accepted :
      first_no (wider_call_questions w i) ≡ 0
      → Accepted (along i.setup w i.clock) i.own i.clock i.holdback i.batch i.payload i.outgoing i.verdicts i.delivery
  call-accepted e =
      let g : Schedule = along i.setup w i.clock in
      let widest : widest_of g ≡ wider_setup i.setup w = widest-is i.setup w i.clock in
      let z : Sized (wider_setup i.setup w) i =
      sized-passed (wider_setup i.setup w) i (both-passed i.setup w i.own (sized_questions (wider_setup i.setup w) i) (sym call-is ∙ e)).1 in
      let good = along-good i.setup w i.clock (call-both e) in
      record {
        timed = record { good = good; below = rw (along-modulus i.setup w i.clock) z.below };
        own_below = rw (limits-n g good (modulus_of g), widest) (own-passed e);
        size = rw widest z.size;
        payload-short = z.payload-short;
        exact = z.exact;
        outgoing-room = rw widest z.outgoing-room;
        verdicts-room = z.verdicts-room;
        delivery-room = rw widest z.delivery-room;
      }

  pub call_below : first_no (wider_call_questions w i) ≡ 0 → i.clock < i.setup.modulus
  call_below e = rw (along-modulus i.setup w i.clock) at (call-accepted e).timed.below
