-- `replay::replay` meets its contract. Assumes nothing.
use mathlib.Core.Path.{sym, ap, ◌∙◌}
use Rattle.playing.specs.Playing.{among, replay_numbers}
use Rattle.playing.proofs.Refusals.{setup-among, run-among, setup-ready}
use Rattle.replay.proofs.replay.Goals as goal

pub returns-then-number-ne0 : goal.returns-then-number-ne0
returns-then-number-ne0 g c = ap (among replay_numbers) c.setup_number-number.ensures ∙ setup-among _ _

pub run-requires : goal.run-requires
run-requires g c = rw c.read_setup.ensures (setup-ready _ _ (sym c.setup_number-number.ensures ∙ c.if-number-ne0.false))

pub returns : goal.returns
returns g c = run-among _ c.run.ensures
