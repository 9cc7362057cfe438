-- The numbers that a judgement gives: 0, and 10 to 16. Assumes nothing.
use Prim.Native.Nat.{ℕ, zero, suc, ◌+◌, ◌-◌, ◌≤◌, ◌<◌}
use mathlib.Core.Path.{◌≡◌, refl, sym, subst}
use mathlib.Core.Bool.{Bool, true, false, cond}
use mathlib.Core.List.{List, [], ◌∷◌}
use mathlib.Core.Logic.{⊎_elim}
use native.Mathlib.Numerals.{add-one}
use native.Mathlib.Omega.{arith}
use lib.Dec.{eqb}
use lib.ListN.{length, take, get_or, length-take}
use lib.Seq.{take-suc, get_or-take}
use borrow.Author.Tests.{eqb-true}
use Rattle.laws.specs.Lists.{within, every}
use Rattle.laws.proofs.Numbers.{clash, false-of-no, or_cases, and_intro, and_left, and_right, within_low, within-high}
use Rattle.laws.proofs.Lists.{every-index, every-append-intro}
use Rattle.model.specs.Setup.{Setup}
use Rattle.model.specs.Frame.{Frame}
use Rattle.model.specs.Question.{Question, first_no, frame_questions, ask_form, ask_range, ask_stamp}
use Rattle.model.specs.Judge.{judge_questions, place_questions, observer_questions, observer_place_questions, ask_late, ask_early, ask_counts, ask_repeat}
use Rattle.model.specs.Verdicts.{given}

module _ (P : ℕ → Type 0) (p₀ : P 0) (p₁₀ : P 10) (p₁₁ : P 11) (p₁₂ : P 12) (p₁₃ : P 13) (p₁₄ : P 14) (p₁₅ : P 15) (p₁₆ : P 16) where
  from-ten : (d : ℕ) → d ≤ 6 → P (10 + d)
  from-ten zero h = p₁₀
  from-ten (suc zero) h = p₁₁
  from-ten (suc (suc zero)) h = p₁₂
  from-ten (suc (suc (suc zero))) h = p₁₃
  from-ten (suc (suc (suc (suc zero)))) h = p₁₄
  from-ten (suc (suc (suc (suc (suc zero))))) h = p₁₅
  from-ten (suc (suc (suc (suc (suc (suc zero)))))) h = p₁₆
  from-ten (suc (suc (suc (suc (suc (suc (suc d))))))) h = absurd (omega arith)

  -- what holds of each of them holds of all
  pub given-all : (number : ℕ) → given number ≡ true → P number
  unfolding given
  given-all number g =
      ⊎_elim (λ taken. subst P (sym (eqb-true number 0 taken)) p₀)
      (λ refused.
      let low : 10 ≤ number = within_low 10 16 number refused in
      let high : number ≤ 16 = within-high 10 16 number refused in
      let e : 10 + (number - 10) ≡ number = omega arith in
      subst P e (from-ten (number - 10) (omega arith)))
      (or_cases (eqb number 0) (within 10 16 number) g)

-- the first no has the number of a question
pub given-first : (qs : List Question) → every (λ q. given q.number) qs ≡ true → given (first_no qs) ≡ true
unfolding first_no every given within
given-first [] h = refl
given-first (q ∷ qs) h = go q.holds (given-first qs (and_right (given q.number) (every (λ q. given q.number) qs) h))
  where
    go : (b : Bool) → given (first_no qs) ≡ true → given (cond b (first_no qs) q.number) ≡ true
    go true rest = rest
    go false rest = and_left (given q.number) (every (λ q. given q.number) qs) h

-- every judgement gives one of them
pub judged-given : (s : Setup) (v : ℕ) (queue : List Frame) (bytes : List ℕ) → given (first_no (judge_questions s v queue bytes)) ≡ true
unfolding judge_questions frame_questions place_questions ask_form ask_range ask_stamp ask_late ask_early ask_counts ask_repeat every given within
judged-given s v queue bytes = given-first (judge_questions s v queue bytes) refl

-- and so does an observer's
pub observed-given : (s : Setup) (v : ℕ) (queue : List Frame) (bytes : List ℕ) → given (first_no (observer_questions s v queue bytes)) ≡ true
unfolding observer_questions frame_questions observer_place_questions ask_form ask_range ask_stamp ask_late ask_early ask_repeat every given within
observed-given s v queue bytes = given-first (observer_questions s v queue bytes) refl

-- ---- a test of the first elements, one by one

module _ (p : ℕ → Bool) (l : List ℕ) where
  pub every-start : every p (take 0 l) ≡ true
  unfolding every
  every-start = refl

  pub every_more : (i : ℕ) → i < length l → every p (take i l) ≡ true → p (get_or l i 0) ≡ true → every p (take (i + 1) l) ≡ true
  unfolding every
  every_more i h e q =
      rw (add-one i, take-suc l i 0 h) (every-append-intro p (take i l) (get_or l i 0 ∷ []) e (and_intro q refl))

  pub every-stop : (i count : ℕ) → i < count → count ≤ length l → p (get_or l i 0) ≡ false → every p (take count l) ≡ false
  every-stop i count h k q =
      false-of-no (every p (take count l))
      (λ e. clash (every-index p (take count l) 0 e i (omega (arith, length-take count l))) (rw (get_or-take count l i 0 h) q))

  pub every-done : (i count : ℕ) → i ≡ count → every p (take i l) ≡ true → every p (take count l) ≡ true
  every-done i count e h = rw (sym e) h
