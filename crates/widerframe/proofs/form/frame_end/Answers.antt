-- `widerframe::form::frame_end` meets its contract. Assumes nothing.
use Prim.Native.Nat.{ℕ, ◌-◌}
use mathlib.Core.Path.{ap, ◌∙◌}
use native.Mathlib.Omega.{arith}
use lib.ListN.{get_or}
use Rattle.lemmas.proofs.WideFrames.{half-one, half-some}
use Rattle.model.specs.Frame.{frame_end}
use Rattle.model.specs.Schedule.{half_of}
use Rattle.model.specs.Wider.{wider_end}
use Rattle.pairs.specs.Views.{schedule_of}
use Rattle.widerframe.proofs.form.frame_end.Goals as goal

pub frame_end-requires : goal.frame_end-requires
frame_end-requires c =
    let count = get_or c.args.s.now 4 0 - 1 in
    let g = schedule_of c.args.p in
    omega (arith, c.half_in.ensures, (half-some g c.requires (half_of g count) (half-one g count)).1, c.requires.new.epsilon-most)

pub returns : goal.returns
unfolding wider_end
returns c =
    let a = c.args in
    c.frame_end.ensures ∙ ap (λ (half : ℕ). frame_end half a.s.now) c.half_in.ensures
