-- `pairs::limits::pairs_near` meets its contract. Assumes nothing.
use mathlib.Core.Path.{ap, ◌∙◌}
use native.Mathlib.Omega.{arith}
use Rattle.model.specs.Schedule.{widening, wider_setup}
use Rattle.model.specs.Setup.{Setup}
use Rattle.setup.specs.Views.{setup_of}
use Rattle.pairs.specs.Views.{wider_of}
use Rattle.pairs.proofs.Sides.{change-most}
use Rattle.pairs.proofs.limits.pairs_near.Goals as goal

pub change_near-change-requires : goal.change_near-change-requires
change_near-change-requires c = (c.requires.0.widens.old.modulus-most, (c.requires.1, c.requires.0.change-below))

pub returns : goal.returns
returns c =
    let s = setup_of c.args.setup in
    let w = wider_of c.args.wider in
    record {
      schedule =
          ap (λ (after : Setup). widening s after c.change_near-change.result) c.wider_setup-after.ensures
          ∙ ap (widening s (wider_setup s w)) c.change_near-change.ensures;
      change-most = omega (arith, c.change_near-change.ensures, change-most s.modulus c.args.clock w (omega arith));
    }
