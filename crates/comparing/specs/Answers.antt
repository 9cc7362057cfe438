-- The call's answer in the model's terms. Assumes nothing.
use Rattle.std.specs.Prelude.{ℕ}
use Rattle.model.specs.Comparison.{CompareAnswer}
use Rattle.comparing.specs.declared.call.Compared.{Compared}

abbrev pub compare_answer : Compared → CompareAnswer
compare_answer a = record { number = a.number; order = a.order; reason = a.reason; clock = a.clock }

-- 01: a refused one "answers the number alone"
abbrev pub refused_compare : ℕ → CompareAnswer
refused_compare number = record { number = number; order = 0; reason = 0; clock = 0 }
