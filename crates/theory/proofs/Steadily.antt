-- A call by a steady schedule is the plain one, by computation. (`model` shows the same of its definitions one by one; what is shown here uses
-- none of its proofs, since the mutants of its definitions are tried without those.)
-- Assumes nothing.
use mathlib.Core.Path.{◌≡◌, refl}
use Rattle.model.proofs.ComputingWider.{computing_wider}
use Rattle.model.specs.Setup.{Setup}
use Rattle.model.specs.Judge.{judge_questions}
use Rattle.model.specs.Tick.{Input, acceptance}
use Rattle.model.specs.Observer.{Listening, listened}
use Rattle.model.specs.Schedule.{steady}
use Rattle.model.specs.Wider.{wider_questions, wider_acceptance}
use Rattle.model.specs.WiderCalls.{wider_listened}

pub judged-steady : (s : Setup) → wider_questions (steady s) ≡ judge_questions s
unfolding computing_wider
judged-steady s = refl

pub tick-steady : (i : Input) → wider_acceptance (steady i.setup) i ≡ acceptance i
unfolding computing_wider
tick-steady i = refl

pub listen-steady : (i : Listening) → wider_listened (steady i.setup) i ≡ listened i
unfolding computing_wider
listen-steady i = refl
