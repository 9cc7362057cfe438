-- 02, 2.8: the seven closing lines, from the verdicts of each step.
use Rattle.std.specs.Prelude.{ℕ, suc, Bool, List, [], ◌∷◌, ◌++◌, eqb, length, take}
use Rattle.std.proofs.Math.Option.{Option, none, some}
use Rattle.laws.specs.Lists.{tab, any, select, smallest, joined}
use Rattle.text.specs.Text.{decimal, space, newline, field}
use Rattle.trace.specs.Text.{dash_word}

-- 02: "some frame is refused by it" in these steps
unfoldable pub refused_in : ℕ → List (List ℕ) → Bool
refused_in number steps = any (λ (verdicts : List ℕ). any (eqb number) verdicts) steps

-- 02: "the smallest number of opening steps in which some frame is refused by it, or none"
unfoldable pub first_refused : ℕ → List (List ℕ) → Option ℕ
first_refused number steps =
    smallest (select (λ k. refused_in number (take k steps)) (tab (suc (length steps)) (λ k. k)))

-- 02: "as `13 4` or `13 -`"
abbrev pub figure_text : Option ℕ → List ℕ
figure_text none = dash_word
figure_text (some k) = field space k

unfoldable pub figure_line : ℕ → Option ℕ → List ℕ
figure_line number figure = decimal number ++ (figure_text figure ++ newline)

-- 02: "a check number from 10 to 16"
abbrev pub check_numbers : List ℕ
check_numbers = 10 ∷ 11 ∷ 12 ∷ 13 ∷ 14 ∷ 15 ∷ 16 ∷ []

-- 02: "seven lines"
unfoldable pub figure_lines : List (List ℕ) → List ℕ
figure_lines steps = joined (λ number. figure_line number (first_refused number steps)) check_numbers
