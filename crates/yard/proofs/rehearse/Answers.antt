-- `yard::rehearse` meets its contract. Assumes nothing.
use mathlib.Core.Path.{sym, ap, ◌∙◌}
use Rattle.trace.specs.Views.{node_setup_of}
use Rattle.playing.specs.Playing.{Ready, among, replay_numbers}
use Rattle.playing.proofs.Refusals.{setup-among, run-among, setup-ready}
use Rattle.yard.proofs.Starting.{ready-usable}
use Rattle.yard.proofs.rehearse.Goals as goal

pub returns-then-number-ne0 : goal.returns-then-number-ne0
returns-then-number-ne0 g c = ap (among replay_numbers) c.setup_number-number.ensures ∙ setup-among _ _

pub run-requires : goal.run-requires
run-requires g c =
    let ready : Ready (node_setup_of c.read_setup-node.result) = rw c.read_setup-node.ensures (setup-ready _ _ (sym c.setup_number-number.ensures ∙ c.if-number-ne0.false)) in
    ready-usable (node_setup_of c.read_setup-node.result) ready

pub returns : goal.returns
returns g c = run-among _ c.run.ensures
