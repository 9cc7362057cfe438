-- The answer of the code in the terms of the definitions. Assumes nothing.
use Rattle.std.specs.Prelude.{ℕ, List}
use Rattle.model.specs.Figures.{FiguresAnswer}

-- the number, and the figures as they were left
abbrev pub answer_of : ℕ → List ℕ → FiguresAnswer
answer_of number figures = record { number = number; figures = figures }
