-- `pairs::fresh::fresh_tables` meets its contract: the width is that of the mark's side. Assumes nothing.
use Prim.Native.Nat.{ℕ}
use mathlib.Core.Path.{sym, ap, ◌∙◌}
use native.Mathlib.Omega.{arith}
use Rattle.model.specs.Setup.{Setup}
use Rattle.model.specs.Timestamp.{widened, fresh}
use Rattle.model.specs.WiderCalls.{fresh_in}
use Rattle.setup.specs.Views.{setup_of}
use Rattle.pairs.specs.Views.{wider_of}
use Rattle.pairs.proofs.Sides.{fresh-side, side-good}
use Rattle.pairs.proofs.fresh.fresh_tables.Goals as goal

pub fresh-requires : goal.fresh-requires
fresh-requires c =
    let side = ap (λ (s : Setup). s.epsilon) c.marked_side-side.ensures in
    let limits = side-good (setup_of c.args.setup) (wider_of c.args.wider) c.requires in
    (omega (arith, side, limits.epsilon-pos), omega (arith, side, limits.epsilon-most))

pub returns : goal.returns
unfolding fresh_in
returns c =
    let side = ap (λ (s : Setup). s.epsilon) c.marked_side-side.ensures in
    let own = fresh-side (setup_of c.args.setup) (wider_of c.args.wider) c.args.clock (omega (arith, c.requires.widens.old.modulus-least)) in
    c.fresh.ensures ∙ ap (λ (epsilon : ℕ). widened (fresh epsilon c.args.clock)) (side ∙ sym own)
