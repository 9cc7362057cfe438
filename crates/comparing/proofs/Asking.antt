-- The questions of the call, one by one, and the answer by the first no. Assumes nothing.
use Prim.Native.Nat.{ℕ, zero, suc, ◌≤◌, ◌<◌}
use native.Mathlib.Omega.{arith}
use mathlib.Core.Path.{◌≡◌, refl, sym, ap, ◌∙◌}
use mathlib.Core.Bool.{Bool, true, false, ◌&&◌}
use mathlib.Core.List.{List, ◌∷◌, ◌++◌}
use lib.Dec.{ltb}
use borrow.Author.Tests.{lt-ltb, le-ltb, ltb-true, eq-eqb}
use Rattle.laws.specs.Lists.{every}
use Rattle.laws.proofs.Numbers.{and_left}
use Rattle.model.specs.Setup.{Setup, in_limits, is_member}
use Rattle.model.specs.Frame.{decode}
use Rattle.model.specs.Question.{Question, ask, first_no, ask_setup, ask_form, ask_range, ask_stamp, frame_questions}
use Rattle.model.specs.Holdback.{passes}
use Rattle.model.specs.Comparison.{Reason, Comparison, by_sum, by_count, by_station, by_r, by_nothing, reason_clock, compared, compare_questions, compare_by, compare_call}
use Rattle.lemmas.proofs.Bounds.{Limits}
use Rattle.lemmas.proofs.Questions.{limits-from, first-yes, other-yes, yes-cons, no-cons, yes-append, no-append, front-append}
use Rattle.lemmas.proofs.Comparing.{clock-below}

module _ (s : Setup) (own v : ℕ) (first second : List ℕ) where
  -- the number of the first no
  abbrev pub asked : ℕ
  asked = first_no (compare_questions s own v first second)

  -- the questions from each one on
  abbrev from_frames : List Question
  from_frames = frame_questions s first ++ frame_questions s second

  abbrev from_clock : List Question
  from_clock = ask (ltb v s.modulus) 2 ∷ from_frames

  abbrev valid : Bool
  valid = in_limits s && is_member s own

  pub setup-no : valid ≡ false → asked ≡ 1
  unfolding compare_questions ask_setup
  setup-no h = no-cons valid 1 from_clock h

  module _ (ok : valid ≡ true) where
    setup-right : asked ≡ first_no from_clock
    unfolding compare_questions ask_setup
    setup-right = yes-cons valid 1 from_clock ok

    pub clock-no : s.modulus ≤ v → asked ≡ 2
    clock-no h = setup-right ∙ no-cons (ltb v s.modulus) 2 from_frames (le-ltb v s.modulus h)

    module _ (below : v < s.modulus) where
      clock-right : asked ≡ first_no from_frames
      clock-right = setup-right ∙ yes-cons (ltb v s.modulus) 2 from_frames (lt-ltb v s.modulus below)

      pub first-no : (k : ℕ) → k ≡ first_no (frame_questions s first) → (k ≡ 0 → ⊥) → k ≡ asked
      first-no k e h = no-append (frame_questions s first) (frame_questions s second) k e h ∙ sym clock-right

      pub second-left : first_no (frame_questions s first) ≡ 0 → asked ≡ first_no (frame_questions s second)
      unfolding frame_questions ask_form ask_range ask_stamp every
      second-left e = clock-right ∙ yes-append (frame_questions s first) (frame_questions s second) refl e

  -- what a call that is not refused has
  pub record Passed : Type 0 where
    pub limits : in_limits s ≡ true
    pub below : v < s.modulus
    pub first_passes : passes s first ≡ true
    pub second-passes : passes s second ≡ true

  pub all-passed : asked ≡ 0 → Passed
  unfolding compare_questions ask_setup passes frame_questions ask_form ask_range ask_stamp every
  all-passed e =
      let clock : first_no from_clock ≡ 0 = other-yes valid 0 from_clock e in
      let frames : first_no from_frames ≡ 0 = other-yes (ltb v s.modulus) 1 from_frames clock in
      let front : first_no (frame_questions s first) ≡ 0 = front-append (frame_questions s first) (frame_questions s second) frames in
      let back : first_no (frame_questions s second) ≡ 0 = sym (yes-append (frame_questions s first) (frame_questions s second) refl front) ∙ frames in
      record {
        limits = and_left (in_limits s) (is_member s own) (first-yes valid 0 from_clock e);
        below = ltb-true v s.modulus (first-yes (ltb v s.modulus) 1 from_frames clock);
        first_passes = eq-eqb (first_no (frame_questions s first)) 0 front;
        second-passes = eq-eqb (first_no (frame_questions s second)) 0 back;
      }

  abbrev both : Comparison
  both = compared s v (decode s.epsilon first) (decode s.epsilon second)

  -- a refused call answers the number alone
  pub call-refused : (k : ℕ) → k ≡ asked → (k ≡ 0 → ⊥) → record { number = k; order = 0; reason = 0; clock = 0 } ≡ compare_call s own v first second
  unfolding compare_call
  call-refused zero e h = absurd (h refl)
  call-refused (suc k) e h = ap (λ (m : ℕ). compare_by m both) e

  -- the clock is below 65,536, also that of a refused call
  pub call-small : (compare_call s own v first second).clock < 65536
  unfolding compare_call
  call-small = go asked refl
    where
      clock : (r : Reason) → both.reason ≡ r → Limits s → reason_clock r < 65536
      clock by_sum e lim = omega arith
      clock (by_count k) e lim = omega (arith, clock-below s v (decode s.epsilon first) (decode s.epsilon second) k lim e, lim.modulus-most)
      clock by_station e lim = omega arith
      clock by_r e lim = omega arith
      clock by_nothing e lim = omega arith

      go : (k : ℕ) → asked ≡ k → (compare_by k both).clock < 65536
      go zero e = clock both.reason refl (limits-from s (all-passed e).limits)
      go (suc k) e = omega arith

  pub call-accepted : 0 ≡ asked → compare_by 0 both ≡ compare_call s own v first second
  unfolding compare_call
  call-accepted e = ap (λ (m : ℕ). compare_by m both) e
