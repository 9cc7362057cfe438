-- `yard::run` meets its contract. Assumes nothing.
use mathlib.Core.Path.{refl, sym, ap, ◌∙◌}
use native.Mathlib.Omega.{arith}
use lib.ListN.{length-replicate}
use Prim.Native.Nat.{ℕ}
use Rattle.setup.specs.Views.{setup_of}
use Rattle.playing.specs.Playing.{among, run_numbers}
use Rattle.yard.proofs.Starting.{queues-fit, steps-among, steps-few, begun-with}
use Rattle.yard.proofs.run.Goals as goal

pub returns-then-refused-ne0 : goal.returns-then-refused-ne0
returns-then-refused-ne0 g c = ap (among run_numbers) c.steps_number-refused.ensures ∙ steps-among _

pub slice_bounds-rehearse_steps-end : goal.slice_bounds-rehearse_steps-end
slice_bounds-rehearse_steps-end g c = sym (length-replicate {A = ℕ} 1048576 0)

pub slice_bounds-rehearse_steps-end-4 : goal.slice_bounds-rehearse_steps-end-4
slice_bounds-rehearse_steps-end-4 g c = sym (length-replicate {A = ℕ} 524288 0)

pub rehearse_steps-end-requires : goal.rehearse_steps-end-requires
rehearse_steps-end-requires g c =
    let s = setup_of c.args.setup in
    begun-with s _ 1048576 72000 771 524288 c.requires
    (steps-few _ _ c.tick_count-steps.ensures (sym c.steps_number-refused.ensures ∙ c.if-refused-ne0.false))
    (queues-fit s c.requires) refl (omega arith) (omega arith)
