-- The questions of the call, and its answer behind 1, 19 and 2. Assumes nothing.
use Prim.Native.Nat.{ℕ, zero, suc, ◌≤◌, ◌<◌}
use mathlib.Core.Path.{◌≡◌, refl, sym, ap, ◌∙◌}
use mathlib.Core.Bool.{true}
use mathlib.Core.List.{List, [], ◌∷◌, ◌++◌}
use lib.Dec.{ltb, eqb}
use borrow.Author.Tests.{lt-ltb, le-ltb, eq-eqb, eqb-true}
use Rattle.laws.specs.Lists.{every}
use Rattle.laws.proofs.Numbers.{and_left, and_right}
use Rattle.model.specs.Setup.{Setup}
use Rattle.model.specs.Question.{Question, ask, first_no, ask_range}
use Rattle.model.specs.Comparison.{Comparison, compare_by, compare_call}
use Rattle.model.specs.Schedule.{Schedule, Wider, ask_both, ask_wider, same_pairs, along}
use Rattle.model.specs.Wider.{wider_decode, wider_frame_questions, wider_passes}
use Rattle.model.specs.WiderCalls.{compare_in_questions, wider_compared, compare_in}
use Rattle.model.proofs.EqualCalls.{compare-equal}
use Rattle.lemmas.proofs.Questions.{no-append, yes-append, front-append, no-cons, yes-cons}
use Rattle.lemmas.proofs.WiderCall.{BothPairs}
use Rattle.pairs.proofs.Sides.{refused-others, passed-others}
use Rattle.comparing.specs.Answers.{refused_compare}

-- ---- 10 to 12 of both frames

module _ (g : Schedule) (first second : List ℕ) where
  abbrev of_frames : List Question
  of_frames = wider_frame_questions g first ++ wider_frame_questions g second

  pub first-no : (k : ℕ) → k ≡ first_no (wider_frame_questions g first) → (k ≡ 0 → ⊥) → k ≡ first_no of_frames
  first-no k e h = no-append (wider_frame_questions g first) (wider_frame_questions g second) k e h

  pub second-left : first_no (wider_frame_questions g first) ≡ 0 → first_no of_frames ≡ first_no (wider_frame_questions g second)
  unfolding wider_frame_questions ask_range every
  second-left e = yes-append (wider_frame_questions g first) (wider_frame_questions g second) refl e

  pub both-pass : first_no of_frames ≡ 0 → (wider_passes g first ≡ true) × (wider_passes g second ≡ true)
  unfolding wider_passes
  both-pass e =
      let front = front-append (wider_frame_questions g first) (wider_frame_questions g second) e in
      (eq-eqb (first_no (wider_frame_questions g first)) 0 front, eq-eqb (first_no (wider_frame_questions g second)) 0 (sym (second-left front) ∙ e))

-- a refused call answers the number alone
pub by-refused : (k : ℕ) (c : Comparison) → (k ≡ 0 → ⊥) → refused_compare k ≡ compare_by k c
by-refused zero c h = absurd (h refl)
by-refused (suc k) c h = refl

-- ---- the call

module _ (s : Setup) (w : Wider) (own v : ℕ) (first second : List ℕ) where
  abbrev g : Schedule
  g = along s w v

  abbrev compared : Comparison
  compared = wider_compared g v (wider_decode g first) (wider_decode g second)

  abbrev from_clock : List Question
  from_clock = ask (ltb v s.modulus) 2 ∷ (wider_frame_questions g first ++ wider_frame_questions g second)

  -- refused by 1 or 19
  pub call-refused : (k : ℕ) → k ≡ first_no (ask_both s w own ∷ ask_wider s w ∷ []) → (k ≡ 0 → ⊥) → refused_compare k ≡ compare_in s w own v first second
  unfolding compare_in compare_in_questions
  call-refused k e h = by-refused k compared h ∙ ap (λ (m : ℕ). compare_by m compared) (refused-others s w own from_clock k e h)

  module _ (passed : 0 ≡ first_no (ask_both s w own ∷ ask_wider s w ∷ [])) where
    asked : first_no (compare_in_questions s w own v first second) ≡ first_no from_clock
    unfolding compare_in_questions
    asked = passed-others s w own from_clock passed

    -- by 2
    pub clock-refused : s.modulus ≤ v → refused_compare 2 ≡ compare_in s w own v first second
    unfolding compare_in
    clock-refused h = ap (λ (m : ℕ). compare_by m compared) (sym (asked ∙ no-cons (ltb v s.modulus) 2 (wider_frame_questions g first ++ wider_frame_questions g second) (le-ltb v s.modulus h)))

    -- and behind it
    pub clock-left : v < s.modulus → compare_by (first_no (wider_frame_questions g first ++ wider_frame_questions g second)) compared ≡ compare_in s w own v first second
    unfolding compare_in
    clock-left h = ap (λ (m : ℕ). compare_by m compared) (sym (asked ∙ yes-cons (ltb v s.modulus) 2 (wider_frame_questions g first ++ wider_frame_questions g second) (lt-ltb v s.modulus h)))

  -- equal pairs
  pub call-equal : BothPairs s w → same_pairs s w ≡ true → compare_call s own v first second ≡ compare_in s w own v first second
  unfolding same_pairs
  call-equal both same =
      sym (compare-equal s w
      (record {
        epsilon = eqb-true w.epsilon s.epsilon (and_left (eqb w.epsilon s.epsilon) (eqb w.delta s.delta) same);
        delta = eqb-true w.delta s.delta (and_right (eqb w.epsilon s.epsilon) (eqb w.delta s.delta) same);
        below = both.change-below;
        mark = both.marked-bit;
      })
      own v first second)
