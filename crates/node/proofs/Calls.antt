-- The questions of a call, one by one, as the code asks them. Assumes nothing.
use Prim.Native.Nat.{ℕ, ◌≤◌, ◌<◌}
use mathlib.Core.Path.{◌≡◌, refl, sym, ap, ◌∙◌}
use mathlib.Core.Bool.{Bool, true, false, ◌&&◌}
use mathlib.Core.List.{List, [], ◌∷◌, ◌++◌}
use lib.Dec.{leb, ltb, eqb}
use lib.ListN.{length}
use borrow.Author.Tests.{le-leb, lt-leb, leb-true, ltb-true, eqb-true}
use Rattle.laws.proofs.Numbers.{and_left, and_right}
use Rattle.laws.specs.Lists.{every}
use Rattle.model.specs.Setup.{Setup, in_limits, is_member, longest_payload, longest_frame, verdict_length}
use Rattle.model.specs.Batch.{exact_batch}
use Rattle.model.specs.Question.{Question, ask, first_no, ask_setup}
use Rattle.model.specs.Codec.{ask_payload}
use Rattle.model.specs.Tick.{Input, holdback_size, delivery_roomy, roomy, holdback_questions, call_questions}
use Rattle.model.specs.Wider.{sized_questions}
use Rattle.lemmas.proofs.Questions.{first-yes, other-yes, yes-cons, no-cons, yes-append, no-append, holdback-passed}
use Rattle.node.specs.Views.{buffer_questions}

-- ---- 4 to 6

module _ (longest size : ℕ) (batch payload outgoing verdicts delivery : List ℕ) where
  -- what question 6 asks of the board's buffers
  abbrev delivery_asked : Bool
  delivery_asked = leb verdict_length (length verdicts) && leb size (length delivery)

  -- the questions from each on
  abbrev from6 : List Question
  from6 = ask (leb longest (length outgoing) && delivery_asked) 6 ∷ []

  abbrev from5 : List Question
  from5 = ask (exact_batch batch) 5 ∷ from6

  abbrev asked : List Question
  asked = buffer_questions longest size batch payload outgoing verdicts delivery

  pub payload-no : longest_payload < length payload → 4 ≡ first_no asked
  unfolding buffer_questions ask_payload
  payload-no h = sym (no-cons _ 4 from5 (lt-leb (length payload) longest_payload h))

  module _ (h4 : length payload ≤ longest_payload) where
    left5 : first_no asked ≡ first_no from5
    unfolding buffer_questions ask_payload
    left5 = yes-cons _ 4 from5 (le-leb (length payload) longest_payload h4)

    pub batch-no : exact_batch batch ≡ false → 5 ≡ first_no asked
    batch-no h = sym (left5 ∙ no-cons _ 5 from6 h)

    module _ (h5 : exact_batch batch ≡ true) where
      left6 : first_no asked ≡ first_no from6
      left6 = left5 ∙ yes-cons _ 5 from6 h5

      pub outgoing-no : length outgoing < longest → 6 ≡ first_no asked
      outgoing-no h = sym (left6 ∙ no-cons (leb longest (length outgoing) && delivery_asked) 6 [] (rw (lt-leb longest (length outgoing) h)))

      module _ (h6 : longest ≤ length outgoing) where
        roomy-is : (leb longest (length outgoing) && delivery_asked) ≡ delivery_asked
        roomy-is = rw (le-leb longest (length outgoing) h6)

        pub delivery-no : delivery_asked ≡ false → 6 ≡ first_no asked
        delivery-no h = sym (left6 ∙ no-cons (leb longest (length outgoing) && delivery_asked) 6 [] (roomy-is ∙ h))

        pub none-no : delivery_asked ≡ true → 0 ≡ first_no asked
        unfolding first_no
        none-no h = sym (left6 ∙ yes-cons (leb longest (length outgoing) && delivery_asked) 6 [] (roomy-is ∙ h))

-- ---- 2 to 6, with the sizes by a setup

module _ (s : Setup) (i : Input) where
  -- questions 2 and 3
  abbrev holdback_asked : List Question
  holdback_asked = holdback_questions s i.clock i.holdback

  -- questions 4 to 6
  abbrev buffers : ℕ → List Question
  buffers size = buffer_questions (longest_frame s.epsilon) size i.batch i.payload i.outgoing i.verdicts i.delivery

  sized-is : sized_questions s i ≡ holdback_asked ++ buffers (holdback_size s)
  unfolding sized_questions buffer_questions
  sized-is = refl

  pub holdback-no : (k : ℕ) → k ≡ first_no holdback_asked → (k ≡ 0 → ⊥) → k ≡ first_no (sized_questions s i)
  holdback-no k e h = no-append holdback_asked (buffers (holdback_size s)) k e h ∙ ap first_no (sym sized-is)

  -- the shelf has its length, so the hand-out buffer is held to it
  pub buffers-left : (k : ℕ) → first_no holdback_asked ≡ 0 → k ≡ first_no (buffers (length i.holdback)) → k ≡ first_no (sized_questions s i)
  unfolding every
  buffers-left k h2 e =
      e ∙ ap (λ (size : ℕ). first_no (buffers size)) (holdback-passed s i.clock i.holdback h2).1
      ∙ sym (ap first_no sized-is ∙ yes-append holdback_asked (buffers (holdback_size s)) refl h2)

-- what a call has passed then
pub record Sized (s : Setup) (i : Input) : Type 0 where
  pub below : i.clock < s.modulus
  pub size : length i.holdback ≡ holdback_size s
  pub payload-short : length i.payload ≤ longest_payload
  pub exact : exact_batch i.batch ≡ true
  pub outgoing-room : longest_frame s.epsilon ≤ length i.outgoing
  pub verdicts-room : verdict_length ≤ length i.verdicts
  pub delivery-room : holdback_size s ≤ length i.delivery

pub sized-passed : (s : Setup) (i : Input) → first_no (sized_questions s i) ≡ 0 → Sized s i
unfolding sized_questions ask_payload
sized-passed s i e =
    let e₃ = other-yes (ltb i.clock s.modulus) 1 _ e in
    let e₄ = other-yes (eqb (length i.holdback) (holdback_size s)) 2 _ e₃ in
    let e₅ = other-yes (leb (length i.payload) longest_payload) 3 _ e₄ in
    let e₆ = other-yes (exact_batch i.batch) 4 _ e₅ in
    let roomy = first-yes (leb (longest_frame s.epsilon) (length i.outgoing) && delivery_roomy s i.verdicts i.delivery) 5 _ e₆ in
    let rest = and_right (leb (longest_frame s.epsilon) (length i.outgoing)) _ roomy in
    record {
      below = ltb-true i.clock s.modulus (first-yes (ltb i.clock s.modulus) 1 _ e);
      size = eqb-true (length i.holdback) (holdback_size s) (first-yes (eqb (length i.holdback) (holdback_size s)) 2 _ e₃);
      payload-short = leb-true (length i.payload) longest_payload (first-yes (leb (length i.payload) longest_payload) 3 _ e₄);
      exact = first-yes (exact_batch i.batch) 4 _ e₅;
      outgoing-room = leb-true (longest_frame s.epsilon) (length i.outgoing) (and_left _ _ roomy);
      verdicts-room = leb-true verdict_length (length i.verdicts) (and_left (leb verdict_length (length i.verdicts)) _ rest);
      delivery-room = leb-true (holdback_size s) (length i.delivery) (and_right (leb verdict_length (length i.verdicts)) _ rest);
    }

-- ---- 1 to 6 of a station's

module _ (i : Input) where
  -- what question 1 asks
  abbrev valid : Bool
  valid = in_limits i.setup && is_member i.setup i.own

  call-is : call_questions i ≡ ask valid 1 ∷ sized_questions i.setup i
  unfolding call_questions ask_setup roomy sized_questions
  call-is = refl

  pub sized-asked : first_no (call_questions i) ≡ 0 → (valid ≡ true) × (first_no (sized_questions i.setup i) ≡ 0)
  sized-asked e =
      let e₁ = ap first_no (sym call-is) ∙ e in
      (first-yes valid 0 (sized_questions i.setup i) e₁, other-yes valid 0 (sized_questions i.setup i) e₁)

  pub setup-no : valid ≡ false → 1 ≡ first_no (call_questions i)
  setup-no h = sym (ap first_no call-is ∙ no-cons valid 1 (sized_questions i.setup i) h)

  pub sized-left : (k : ℕ) → valid ≡ true → k ≡ first_no (sized_questions i.setup i) → k ≡ first_no (call_questions i)
  sized-left k h e = e ∙ sym (ap first_no call-is ∙ yes-cons valid 1 (sized_questions i.setup i) h)
