-- The numbers of the closing lines, noted step by step: each is the smallest number of opening steps in which some frame is refused by its check. Assumes nothing.
use Prim.Native.Nat.{ℕ, zero, suc, ◌+◌, ◌-◌, ◌^◌, ◌≤◌, ◌<◌, min}
use mathlib.Core.Path.{◌≡◌, refl, sym, ap, ap₂, ◌∙◌}
use mathlib.Core.Bool.{Bool, true, false, ◌&&◌, ◌||◌, cond}
use mathlib.Core.List.{List, [], ◌∷◌, ◌++◌, append-nil}
use mathlib.Core.Option.{Option, none, some, Option-elim, some-injective, none-ne-some}
use mathlib.Core.Logic.{⊎_elim}
use native.Mathlib.Numerals.{add-one}
use native.Mathlib.Omega.{arith}
use lib.Dec.{eqb}
use lib.ListN.{length, take, drop, get_or, set, replicate, length-append, length-set, drop_of_length-le}
use lib.Seq.{drop-cons, take-suc, take-append-le, take_all, take-length, get_or-set_same, get_or-set_other, ext_get_or}
use borrow.Author.Tests.{lt-leb, eq-eqb, ne_eqb}
use Rattle.laws.specs.Lists.{tab, any, select, smallest, within, joined}
use Rattle.laws.proofs.Numbers.{eq-or-ne, true-or-false, false-of-no, clash, and_left, within-intro, within-high, within_low}
use Rattle.laws.proofs.Lists.{length-tab, get_or-tab, tab-suc, index-of-mem, any_append, select_yes, select_no, select-append, select-ext, joined-append}
use Rattle.text.specs.Text.{decimal, space, newline, field}
use Rattle.text.proofs.Numerals.{length-decimal, digit_count-le, digit_count-most}
use Rattle.text.proofs.Putting.{length-field}
use Rattle.trace.specs.Text.{dash_word}
use Rattle.rehearsal.specs.Closing.{refused_in, first_refused, figure_text, figure_line, figure_lines, check_numbers}
use Rattle.rehearsal.specs.Views.{figure_of, as_figure, figures_of, noted, noted_all, figures_text}

-- ---- the smallest of the numbers below n that pass a test

unfoldable least : (ℕ → Bool) → ℕ → Option ℕ
least p n = smallest (select p (tab n (λ k. k)))

smallest-snoc : (l : List ℕ) (m : ℕ) → smallest (l ++ (m ∷ [])) ≡ some (Option-elim (smallest l) m (λ a. min a m))
unfolding smallest Option-elim
smallest-snoc [] m = refl
smallest-snoc (x ∷ l) m = ap (λ (o : Option ℕ). some (Option-elim o x (min x))) (smallest-snoc l m) ∙ ap some (go (smallest l))
  where
    go : (o : Option ℕ) → min x (Option-elim o m (λ a. min a m)) ≡ min (Option-elim o x (min x)) m
    go none = refl
    go (some a) = omega arith

module _ (p : ℕ → Bool) (n : ℕ) where
  least-next : least p (suc n) ≡ smallest (select p (tab n (λ k. k)) ++ select p (n ∷ []))
  unfolding least
  least-next = ap (λ (l : List ℕ). smallest (select p l)) (tab-suc n (λ k. k)) ∙ ap smallest (select-append p (tab n (λ k. k)) (n ∷ []))

  least-no : p n ≡ false → least p (suc n) ≡ least p n
  unfolding least select
  least-no h =
      least-next
      ∙ ap (λ (l : List ℕ). smallest (select p (tab n (λ k. k)) ++ l)) (select_no p n [] h)
      ∙ ap smallest (append-nil (select p (tab n (λ k. k))))

  least-yes : p n ≡ true → least p (suc n) ≡ some (Option-elim (least p n) n (λ a. min a n))
  unfolding least select
  least-yes h =
      least-next
      ∙ ap (λ (l : List ℕ). smallest (select p (tab n (λ k. k)) ++ l)) (select_yes p n [] h)
      ∙ smallest-snoc (select p (tab n (λ k. k))) n

least_zero : (p : ℕ → Bool) → least p 0 ≡ none
unfolding least tab select smallest
least_zero p = refl

-- it is below n, and passes the test
least-some : (p : ℕ → Bool) (n a : ℕ) → least p n ≡ some a → (a < n) × (p a ≡ true)
unfolding Option-elim
least-some p zero a e = absurd (none-ne-some a (sym (least_zero p) ∙ e))
least-some p (suc n) a e =
    ⊎_elim (λ passes. go passes (least p n) refl (λ b q. least-some p n b q))
    (λ fails. let rest = least-some p n a (sym (least-no p n fails) ∙ e) in (omega (arith, rest.0), rest.1))
    (true-or-false (p n))
  where
    go : p n ≡ true → (o : Option ℕ) → least p n ≡ o → ((b : ℕ) → least p n ≡ some b → (b < n) × (p b ≡ true)) → (a < suc n) × (p a ≡ true)
    go passes none q rest =
        let same : n ≡ a = some-injective n a (sym (least-yes p n passes ∙ ap (λ (o : Option ℕ). some (Option-elim o n (λ b. min b n))) q) ∙ e) in
        (omega arith, ap p (sym same) ∙ passes)
    go passes (some b) q rest =
        let below = rest b q in
        let same : min b n ≡ a = some-injective (min b n) a (sym (least-yes p n passes ∙ ap (λ (o : Option ℕ). some (Option-elim o n (λ c. min c n))) q) ∙ e) in
        let is : b ≡ a = omega (arith, below.0) in
        (omega (arith, below.0), ap p (sym is) ∙ below.1)

-- once found it stays
least_stays : (p : ℕ → Bool) (n a : ℕ) → least p n ≡ some a → least p (suc n) ≡ some a
unfolding Option-elim
least_stays p n a e =
    ⊎_elim
    (λ passes.
    let first : min a n ≡ a = omega (arith, (least-some p n a e).0) in
    least-yes p n passes ∙ ap (λ (o : Option ℕ). some (Option-elim o n (λ b. min b n))) e ∙ ap some first)
    (λ fails. least-no p n fails ∙ e)
    (true-or-false (p n))

-- where none is found, the last fails
least-none : (p : ℕ → Bool) (n : ℕ) → least p (suc n) ≡ none → p n ≡ false
least-none p n e =
    ⊎_elim (λ passes. absurd (none-ne-some (Option-elim (least p n) n (λ a. min a n)) (sym e ∙ least-yes p n passes))) (λ fails. fails)
    (true-or-false (p n))

least-ext : (p q : ℕ → Bool) (n : ℕ) → ((k : ℕ) → k < n → p k ≡ q k) → least p n ≡ least q n
unfolding least
least-ext p q n h =
    ap smallest
    (select-ext p q (tab n (λ k. k))
    (λ x m.
    let from = index-of-mem 0 m in
    let is : from.0 ≡ x = sym (get_or-tab n (λ k. k) from.0 0 (rw (length-tab n (λ k. k)) at from.1)) ∙ from.2 in
    h x (omega (arith, from.1, length-tab n (λ k. k)))))

-- ---- one figure, and one step more

refused-by : ℕ → List (List ℕ) → ℕ → Bool
refused-by number steps k = refused_in number (take k steps)

first-is : (number : ℕ) (steps : List (List ℕ)) → first_refused number steps ≡ least (refused-by number steps) (suc (length steps))
unfolding first_refused least refused-by
first-is number steps = refl

-- no frame is refused in no steps
refused_none : (number : ℕ) (steps : List (List ℕ)) → refused-by number steps 0 ≡ false
unfolding refused-by refused_in any
refused_none number steps = refl

first_some : (number : ℕ) (steps : List (List ℕ)) (a : ℕ) → first_refused number steps ≡ some a → a ≡ 0 → ⊥
first_some number steps a e z =
    clash (least-some (refused-by number steps) (suc (length steps)) a (sym (first-is number steps) ∙ e)).1
    (ap (refused-by number steps) z ∙ refused_none number steps)

-- the figure says whether there is one
pub figure-back : (number : ℕ) (steps : List (List ℕ)) → as_figure (figure_of (first_refused number steps)) ≡ first_refused number steps
figure-back number steps = go (first_refused number steps) (first_some number steps)
  where
    go : (o : Option ℕ) → ((a : ℕ) → o ≡ some a → a ≡ 0 → ⊥) → as_figure (figure_of o) ≡ o
    go none h = refl
    go (some zero) h = absurd (h 0 refl refl)
    go (some (suc k)) h = refl

module _ (number : ℕ) (steps : List (List ℕ)) (v : List ℕ) where
  abbrev n : ℕ
  n = suc (length steps)

  before : (k : ℕ) → k < n → refused-by number (steps ++ (v ∷ [])) k ≡ refused-by number steps k
  unfolding refused-by
  before k h = ap (refused_in number) (take-append-le k steps (v ∷ []) (omega arith))

  last : refused-by number (steps ++ (v ∷ [])) n ≡ (refused_in number steps || (any (eqb number) v || false))
  unfolding refused-by refused_in any
  last =
      ap (refused_in number) (take_all (suc (length steps)) (steps ++ (v ∷ [])) (rw (length-append steps (v ∷ [])) (omega arith)))
      ∙ any_append (λ (verdicts : List ℕ). any (eqb number) verdicts) steps (v ∷ [])

  next-is : first_refused number (steps ++ (v ∷ [])) ≡ least (refused-by number (steps ++ (v ∷ []))) (suc n)
  next-is =
      first-is number (steps ++ (v ∷ []))
      ∙ ap (λ (k : ℕ). least (refused-by number (steps ++ (v ∷ []))) (suc k)) (length-append steps (v ∷ []) ∙ add-one (length steps))

  front-is : least (refused-by number (steps ++ (v ∷ []))) n ≡ first_refused number steps
  front-is = least-ext (refused-by number (steps ++ (v ∷ []))) (refused-by number steps) n before ∙ sym (first-is number steps)

  none_before : first_refused number steps ≡ none → refused_in number steps ≡ false
  unfolding refused-by
  none_before e =
      ap (refused_in number) (sym (take-length steps))
      ∙ least-none (refused-by number steps) (length steps) (sym (first-is number steps) ∙ e)

  next-stays : (a : ℕ) → first_refused number steps ≡ some a → first_refused number (steps ++ (v ∷ [])) ≡ some a
  next-stays a e = next-is ∙ least_stays (refused-by number (steps ++ (v ∷ []))) n a (front-is ∙ e)

  next-found : first_refused number steps ≡ none → any (eqb number) v ≡ true → first_refused number (steps ++ (v ∷ [])) ≡ some n
  unfolding Option-elim
  next-found e h =
      next-is
      ∙ least-yes (refused-by number (steps ++ (v ∷ []))) n (last ∙ rw (none_before e, h))
      ∙ ap (λ (o : Option ℕ). some (Option-elim o n (λ a. min a n))) (front-is ∙ e)

  next-none : first_refused number steps ≡ none → any (eqb number) v ≡ false → first_refused number (steps ++ (v ∷ [])) ≡ none
  next-none e h =
      next-is ∙ least-no (refused-by number (steps ++ (v ∷ []))) n (last ∙ rw (none_before e, h)) ∙ front-is ∙ e

  -- a figure that is still 0 becomes the number of the step that refuses by its check
  figure-next : figure_of (first_refused number (steps ++ (v ∷ [])))
      ≡ cond (eqb (figure_of (first_refused number steps)) 0 && any (eqb number) v) n (figure_of (first_refused number steps))
  figure-next = go (first_refused number steps) refl
    where
      go : (o : Option ℕ) → first_refused number steps ≡ o
          → figure_of (first_refused number (steps ++ (v ∷ []))) ≡ cond (eqb (figure_of o) 0 && any (eqb number) v) n (figure_of o)
      go none e =
          ⊎_elim (λ h. ap figure_of (next-found e h) ∙ rw h) (λ h. ap figure_of (next-none e h) ∙ rw h)
          (true-or-false (any (eqb number) v))
      go (some a) e = ap figure_of (next-stays a e) ∙ rw (ne_eqb a 0 (first_some number steps a e))

-- ---- the figures of a list, and one verdict more

module _ (step : ℕ) (figures : List ℕ) (number : ℕ) where
  pub length-noted : length (noted step figures number) ≡ length figures
  unfolding noted
  length-noted =
      ⊎_elim (λ h. rw h (length-set figures (number - 10) step)) (λ h. rw h)
      (true-or-false (within 10 16 number && eqb (get_or figures (number - 10) 0) 0))

  pub noted-low : number < 10 → figures ≡ noted step figures number
  unfolding noted within
  noted-low h = rw (lt-leb 10 number h)

  pub noted-high : 16 < number → figures ≡ noted step figures number
  unfolding noted
  noted-high h = rw (false-of-no (within 10 16 number) (λ e. omega (arith, within-high 10 16 number e)))

  pub noted-again : 10 ≤ number → number ≤ 16 → (get_or figures (number - 10) 0 ≡ 0 → ⊥) → figures ≡ noted step figures number
  unfolding noted
  noted-again a b h = rw (within-intro a b, ne_eqb (get_or figures (number - 10) 0) 0 h)

  pub noted-first : 10 ≤ number → number ≤ 16 → get_or figures (number - 10) 0 ≡ 0 → set figures (number - 10) step ≡ noted step figures number
  unfolding noted
  noted-first a b h = rw (within-intro a b, eq-eqb (get_or figures (number - 10) 0) 0 h)

  -- at the place of another check nothing changes
  noted_other : (j : ℕ) → (10 + j ≡ number → ⊥) → get_or (noted step figures number) j 0 ≡ get_or figures j 0
  unfolding noted
  noted_other j other =
      ⊎_elim
      (λ h.
      rw h
      (get_or-set_other figures (number - 10) j step 0
      (λ e. other (omega (arith, within_low 10 16 number (and_left (within 10 16 number) (eqb (get_or figures (number - 10) 0) 0) h))))))
      (λ h. rw h)
      (true-or-false (within 10 16 number && eqb (get_or figures (number - 10) 0) 0))

  -- at that of its own the figure is set, unless it is already
  noted_here : (j : ℕ) → 10 + j ≡ number → j < 7 → length figures ≡ 7
      → get_or (noted step figures number) j 0 ≡ cond (eqb (get_or figures j 0) 0) step (get_or figures j 0)
  noted_here j same h l =
      let place : number - 10 ≡ j = omega arith in
      let low : 10 ≤ number = omega arith in
      let high : number ≤ 16 = omega arith in
      let byte : get_or figures (number - 10) 0 ≡ get_or figures j 0 = ap (λ (i : ℕ). get_or figures i 0) place in
      ⊎_elim
      (λ free.
      ap (λ (l : List ℕ). get_or l j 0) (sym (noted-first low high (byte ∙ free)))
      ∙ ap (λ (i : ℕ). get_or (set figures i step) j 0) place
      ∙ rw (eq-eqb (get_or figures j 0) 0 free) (get_or-set_same figures j step 0 (omega arith)))
      (λ taken. ap (λ (l : List ℕ). get_or l j 0) (sym (noted-again low high (λ z. taken (sym byte ∙ z)))) ∙ rw (ne_eqb (get_or figures j 0) 0 taken))
      (eq-or-ne (get_or figures j 0) 0)

  noted-at : (j : ℕ) → j < 7 → length figures ≡ 7
      → get_or (noted step figures number) j 0 ≡ cond (eqb (get_or figures j 0) 0 && eqb (10 + j) number) step (get_or figures j 0)
  noted-at j h l =
      ⊎_elim (λ same. noted_here j same h l ∙ rw (eq-eqb (10 + j) number same) (and_yes (eqb (get_or figures j 0) 0)))
      (λ other. noted_other j other ∙ rw (ne_eqb (10 + j) number other) (and_no (eqb (get_or figures j 0) 0)))
      (eq-or-ne (10 + j) number)
    where
      and_yes : (b : Bool) → cond b step (get_or figures j 0) ≡ cond (b && true) step (get_or figures j 0)
      and_yes true = refl
      and_yes false = refl

      and_no : (b : Bool) → get_or figures j 0 ≡ cond (b && false) step (get_or figures j 0)
      and_no true = refl
      and_no false = refl

-- ---- all verdicts of a step

-- a figure that is set stays
twice : (step x : ℕ) (b c : Bool) → (step ≡ 0 → ⊥)
    → cond (eqb (cond (eqb x 0 && b) step x) 0 && c) step (cond (eqb x 0 && b) step x) ≡ cond (eqb x 0 && (b || c)) step x
twice step x b c h = ⊎_elim (λ free. go b c free) (λ (taken : eqb x 0 ≡ false). rw (taken, taken)) (true-or-false (eqb x 0))
  where
    go : (b c : Bool) → eqb x 0 ≡ true → cond (eqb (cond (eqb x 0 && b) step x) 0 && c) step (cond (eqb x 0 && b) step x) ≡ cond (eqb x 0 && (b || c)) step x
    go true c free = rw (free, ne_eqb step 0 h)
    go false c free = rw (free, free)

module _ (step : ℕ) (some-step : step ≡ 0 → ⊥) where
  length-notes : (figures verdicts : List ℕ) → length (noted_all step figures verdicts) ≡ length figures
  unfolding noted_all
  length-notes figures [] = refl
  length-notes figures (number ∷ rest) = length-notes (noted step figures number) rest ∙ length-noted step figures number

  notes-at : (figures verdicts : List ℕ) (j : ℕ) → j < 7 → length figures ≡ 7
      → get_or (noted_all step figures verdicts) j 0 ≡ cond (eqb (get_or figures j 0) 0 && any (eqb (10 + j)) verdicts) step (get_or figures j 0)
  unfolding noted_all any
  notes-at figures [] j h l = go (eqb (get_or figures j 0) 0)
    where
      go : (b : Bool) → get_or figures j 0 ≡ cond (b && false) step (get_or figures j 0)
      go true = refl
      go false = refl
  notes-at figures (number ∷ rest) j h l =
      notes-at (noted step figures number) rest j h (length-noted step figures number ∙ l)
      ∙ ap (λ (x : ℕ). cond (eqb x 0 && any (eqb (10 + j)) rest) step x) (noted-at step figures number j h l)
      ∙ twice step (get_or figures j 0) (eqb (10 + j) number) (any (eqb (10 + j)) rest) some-step

-- ---- the figures of the steps

figures-tab : (steps : List (List ℕ)) → figures_of steps ≡ tab 7 (λ j. figure_of (first_refused (10 + j) steps))
unfolding figures_of tab
figures-tab steps = refl

length-figures : (steps : List (List ℕ)) → length (figures_of steps) ≡ 7
unfolding figures_of
length-figures steps = refl

figure-at : (steps : List (List ℕ)) (j : ℕ) → j < 7 → get_or (figures_of steps) j 0 ≡ figure_of (first_refused (10 + j) steps)
figure-at steps j h = ap (λ (l : List ℕ). get_or l j 0) (figures-tab steps) ∙ get_or-tab 7 (λ i. figure_of (first_refused (10 + i) steps)) j 0 h

-- before the first step
pub figures-start : figures_of [] ≡ replicate 7 0
unfolding figures_of first_refused refused_in any tab select smallest
figures-start = refl

-- noting a step's verdicts gives the figures of the steps with it
pub figures-step : (steps : List (List ℕ)) (verdicts : List ℕ) (step : ℕ) (figures : List ℕ) → step ≡ suc (length steps) → figures ≡ figures_of steps
    → noted_all step figures verdicts ≡ figures_of (steps ++ (verdicts ∷ []))
figures-step steps verdicts step figures e f =
    let seven : length figures ≡ 7 = ap length f ∙ length-figures steps in
    let some-step : step ≡ 0 → ⊥ = λ z. omega arith in
    ext_get_or 0 (noted_all step figures verdicts) (figures_of (steps ++ (verdicts ∷ [])))
    (length-notes step some-step figures verdicts ∙ seven ∙ sym (length-figures (steps ++ (verdicts ∷ []))))
    (λ j h.
    let low : j < 7 = omega (arith, length-notes step some-step figures verdicts, seven) in
    notes-at step some-step figures verdicts j low seven
    ∙ ap₂ (λ (x k : ℕ). cond (eqb x 0 && any (eqb (10 + j)) verdicts) k x) (ap (λ (l : List ℕ). get_or l j 0) f ∙ figure-at steps j low) e
    ∙ sym (figure-next (10 + j) steps verdicts)
    ∙ sym (figure-at (steps ++ (verdicts ∷ [])) j low))

-- ---- the lines

pub text-dash : (figure : ℕ) → figure ≡ 0 → figure_text (as_figure figure) ≡ dash_word
text-dash figure e = rw e

pub text-number : (figure : ℕ) → (figure ≡ 0 → ⊥) → figure_text (as_figure figure) ≡ field space figure
text-number zero h = absurd (h refl)
text-number (suc k) h = refl

-- of the figures of the steps they are the closing lines
pub figures-lines : (steps : List (List ℕ)) → figures_text (figures_of steps) ≡ figure_lines steps
unfolding figures_text figure_lines figures_of joined
figures-lines steps =
    rw (figure-back 10 steps, figure-back 11 steps, figure-back 12 steps, figure-back 13 steps, figure-back 14 steps, figure-back 15 steps, figure-back 16 steps)

-- a line has at most 24 bytes
text-most : (figure : ℕ) → figure < 2 ^ 64 → length (figure_text (as_figure figure)) ≤ 21
text-most zero h = omega arith
text-most (suc k) h = rw (length-field space (suc k)) (omega (arith, digit_count-most (suc k) h))

pub line-most : (number figure : ℕ) → number < 100 → figure < 2 ^ 64 → length (figure_line number (as_figure figure)) ≤ 24
unfolding figure_line
line-most number figure a h =
    rw (length-append (decimal number) (figure_text (as_figure figure) ++ newline), length-append (figure_text (as_figure figure)) newline, length-decimal number)
    (omega (arith, digit_count-le 1 number a, text-most figure h))

-- the first i lines
pub lines_to : List ℕ → ℕ → List ℕ
lines_to figures i = joined (λ number. figure_line number (as_figure (get_or figures (number - 10) 0))) (take i check_numbers)

pub lines_none : (figures : List ℕ) → lines_to figures 0 ≡ []
unfolding lines_to joined
lines_none figures = refl

numbers-tab : check_numbers ≡ tab 7 (λ j. 10 + j)
unfolding tab
numbers-tab = refl

-- one line more
pub lines-turn : (figures : List ℕ) (i : ℕ) → i < 7 → lines_to figures i ++ figure_line (10 + i) (as_figure (get_or figures i 0)) ≡ lines_to figures (i + 1)
unfolding lines_to joined
lines-turn figures i h =
    let line : ℕ → List ℕ = λ number. figure_line number (as_figure (get_or figures (number - 10) 0)) in
    let this : 10 + i ≡ get_or check_numbers i 0 = sym (ap (λ (l : List ℕ). get_or l i 0) numbers-tab ∙ get_or-tab 7 (λ j. 10 + j) i 0 h) in
    let place : i ≡ 10 + i - 10 = omega arith in
    ap (λ (j : ℕ). joined line (take i check_numbers) ++ figure_line (10 + i) (as_figure (get_or figures j 0))) place
    ∙ ap (λ (number : ℕ). joined line (take i check_numbers) ++ line number) this
    ∙ ap (λ (l : List ℕ). joined line (take i check_numbers) ++ l) (sym (append-nil (line (get_or check_numbers i 0))))
    ∙ sym (joined-append line (take i check_numbers) (get_or check_numbers i 0 ∷ []))
    ∙ ap (joined line) (sym (take-suc check_numbers i 0 h))
    ∙ ap (λ (k : ℕ). joined line (take k check_numbers)) (sym (add-one i))

pub lines-all : (figures : List ℕ) (i : ℕ) → 7 ≤ i → lines_to figures i ≡ figures_text figures
unfolding lines_to figures_text
lines-all figures i h = ap (joined (λ number. figure_line number (as_figure (get_or figures (number - 10) 0)))) (take_all i check_numbers h)

-- ---- the loops that note verdicts and write lines

pub notes-start : (step : ℕ) (figures verdicts : List ℕ) → noted_all step figures verdicts ≡ noted_all step figures (drop 0 verdicts)
notes-start step figures verdicts = refl

pub notes-turn : (step : ℕ) (figures verdicts next : List ℕ) (i : ℕ) → i < length verdicts → next ≡ noted step figures (get_or verdicts i 0)
    → noted_all step figures (drop i verdicts) ≡ noted_all step next (drop (i + 1) verdicts)
unfolding noted_all
notes-turn step figures verdicts next i h e =
    ap (noted_all step figures) (drop-cons verdicts i 0 h)
    ∙ ap₂ (λ (l : List ℕ) (k : ℕ). noted_all step l (drop k verdicts)) (sym e) (sym (add-one i))

pub notes-end : (step : ℕ) (figures verdicts : List ℕ) (i : ℕ) → length verdicts ≤ i → noted_all step figures (drop i verdicts) ≡ figures
unfolding noted_all
notes-end step figures verdicts i h = ap (noted_all step figures) (drop_of_length-le verdicts {i = i} h)
