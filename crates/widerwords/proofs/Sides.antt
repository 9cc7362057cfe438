-- The words with both pairs, behind 1 and 19: the plain ones of the mark's side. Assumes nothing.
use Prim.Native.Nat.{ℕ, zero, suc}
use mathlib.Core.Path.{◌≡◌, refl, sym, ap, ◌∙◌}
use mathlib.Core.Bool.{◌&&◌}
use mathlib.Core.List.{List, [], ◌∷◌}
use Rattle.model.specs.Setup.{Setup, in_limits, is_member}
use Rattle.model.specs.Batch.{batch_entries}
use Rattle.model.specs.Question.{first_no, ask_setup}
use Rattle.model.specs.Schedule.{Wider, ask_both, ask_wider, side_of}
use Rattle.lemmas.proofs.Questions.{yes-cons}
use Rattle.pairs.proofs.Sides.{refused-others, passed-others, asked-from, pair-valid, side-n, side-good}
use Rattle.words.specs.Words.{text_of, words_by, words_questions, words}
use Rattle.widerwords.specs.Words.{words_in_questions, words_in}

module _ (s : Setup) (w : Wider) (own : ℕ) (batch verdicts text : List ℕ) where
  abbrev lines : List ℕ
  lines = text_of (side_of s w) (batch_entries batch) verdicts

  pub words-refused : (k : ℕ) → k ≡ first_no (ask_both s w own ∷ ask_wider s w ∷ []) → (k ≡ 0 → ⊥) → record { number = k; size = 0; text = text } ≡ words_in s w own batch verdicts text
  unfolding words_in words_in_questions
  words-refused k e h = go k h ∙ ap (λ (m : ℕ). words_by m lines text) (refused-others s w own _ k e h)
    where
      go : (m : ℕ) → (m ≡ 0 → ⊥) → record { number = m; size = 0; text = text } ≡ words_by m lines text
      go zero z = absurd (z refl)
      go (suc m) z = refl

  pub words-side : 0 ≡ first_no (ask_both s w own ∷ ask_wider s w ∷ []) → words (side_of s w) own batch verdicts text ≡ words_in s w own batch verdicts text
  unfolding words words_in words_questions words_in_questions ask_setup
  words-side passed =
      let asked = asked-from s w own passed in
      ap (λ (m : ℕ). words_by m lines text)
      (yes-cons (in_limits (side_of s w) && is_member (side_of s w) own) 1 _ (pair-valid s w own (side_of s w) asked (side-good s w asked.both) (side-n s w))
      ∙ sym (passed-others s w own _ passed))
