-- The questions, one by one, and the answer by the first no. Assumes nothing.
use Prim.Native.Nat.{ℕ, zero, suc, ◌≤◌, ◌<◌}
use mathlib.Core.Path.{◌≡◌, refl, sym, ap, ◌∙◌}
use mathlib.Core.Bool.{◌&&◌}
use mathlib.Core.List.{List, ◌∷◌}
use lib.Dec.{eqb, leb}
use lib.ListN.{length}
use borrow.Author.Tests.{le-leb, lt-leb, eq-eqb, ne_eqb, eqb-true}
use Rattle.laws.specs.Lists.{within}
use Rattle.laws.proofs.Numbers.{within-high, within-intro}
use Rattle.model.specs.Batch.{batch_entries}
use Rattle.model.specs.Question.{Question, ask, first_no}
use Rattle.model.specs.Verdicts.{verdict_questions}
use Rattle.model.specs.Figures.{figures_size, figures_in, figures_bytes, kept_row, row_of, columns_of, figures_questions, figures_by, keep_figures}
use Rattle.lemmas.proofs.Questions.{first-yes, other-yes, yes-cons, no-cons}
use Rattle.verdicts.specs.Fit.{VerdictsFit}
use Rattle.verdicts.proofs.Asking.{fits}

module _ (n : ℕ) (batch verdicts figures : List ℕ) where
  -- the number of the first no
  abbrev pub asked : ℕ
  asked = first_no (figures_questions n batch verdicts figures)

  abbrev from_size : List Question
  from_size = ask (eqb (length figures) figures_size) 3 ∷ verdict_questions batch verdicts

  pub n-low : n < 1 → asked ≡ 1
  unfolding figures_questions within
  n-low h = no-cons (leb 1 n && leb n 16) 1 from_size (rw (lt-leb 1 n h))

  pub n-high : 1 ≤ n → 16 < n → asked ≡ 1
  unfolding figures_questions within
  n-high l h = no-cons (leb 1 n && leb n 16) 1 from_size (rw (le-leb 1 n l, lt-leb n 16 h))

  module _ (l : 1 ≤ n) (h : n ≤ 16) where
    n-right : asked ≡ first_no from_size
    unfolding figures_questions
    n-right = yes-cons (within 1 16 n) 1 from_size (within-intro l h)

    pub size-no : (length figures ≡ figures_size → ⊥) → asked ≡ 3
    size-no e = n-right ∙ no-cons (eqb (length figures) figures_size) 3 (verdict_questions batch verdicts) (ne_eqb (length figures) figures_size e)

    pub size-right : length figures ≡ figures_size → asked ≡ first_no (verdict_questions batch verdicts)
    size-right e = n-right ∙ yes-cons (eqb (length figures) figures_size) 3 (verdict_questions batch verdicts) (eq-eqb (length figures) figures_size e)

  -- every question got a yes
  pub record Allowed : Type 0 where
    pub few : n ≤ 16
    pub size : length figures ≡ figures_size
    pub fit : VerdictsFit batch verdicts

  pub allowed : asked ≡ 0 → Allowed
  unfolding figures_questions
  allowed e =
      let e₁ = other-yes (within 1 16 n) 0 from_size e in
      record {
        few = within-high 1 16 n (first-yes (within 1 16 n) 0 from_size e);
        size = eqb-true (length figures) figures_size (first-yes (eqb (length figures) figures_size) 2 (verdict_questions batch verdicts) e₁);
        fit = fits batch verdicts (other-yes (eqb (length figures) figures_size) 2 (verdict_questions batch verdicts) e₁);
      }

  -- the row that the call comes with
  abbrev pub row : List ℕ
  row = row_of (columns_of n (batch_entries batch) verdicts)

  -- the answer by the number of the first no
  pub by_number : (k : ℕ) → asked ≡ k → keep_figures n batch verdicts figures ≡ figures_by k row figures
  unfolding keep_figures
  by_number k e = ap (λ (m : ℕ). figures_by m row figures) e

  pub figures-refused : (k : ℕ) → k ≡ asked → (k ≡ 0 → ⊥) → record { number = k; figures = figures } ≡ keep_figures n batch verdicts figures
  figures-refused zero e h = absurd (h refl)
  figures-refused (suc k) e h = sym (by_number (suc k) (sym e))

  pub figures-kept : 0 ≡ asked → {after : List ℕ} → after ≡ figures_bytes (kept_row (figures_in figures) row)
      → record { number = 0; figures = after } ≡ keep_figures n batch verdicts figures
  figures-kept e {after} f = ap (λ (l : List ℕ). record { number = 0; figures = l }) f ∙ sym (by_number 0 (sym e))
