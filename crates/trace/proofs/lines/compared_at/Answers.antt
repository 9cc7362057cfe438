-- `trace::lines::compared_at` meets its contract. Assumes nothing.
use mathlib.Core.Path.{◌≡◌, sym, ap₂, subst, ◌∙◌}
use mathlib.Core.Bool.{true}
use mathlib.Core.List.{List}
use Prim.Native.Nat.{ℕ}
use Rattle.model.specs.Frame.{Frame}
use Rattle.model.specs.Holdback.{passes}
use Rattle.model.specs.Comparison.{compared}
use Rattle.lemmas.proofs.Questions.{limits-from}
use Rattle.setup.specs.Views.{setup_of}
use Rattle.trace.proofs.Giving.{decoded}
use Rattle.trace.proofs.lines.compared_at.Goals as goal

pub frame_at-f-requires : goal.frame_at-f-requires
frame_at-f-requires c = (limits-from (setup_of c.args.setup) c.requires.limits).epsilon-most

pub frame_at-g-requires : goal.frame_at-g-requires
frame_at-g-requires c = (limits-from (setup_of c.args.setup) c.requires.limits).epsilon-most

pub compare_frames-requires : goal.compare_frames-requires
compare_frames-requires c =
    record {
      setup_value = (c.requires.limits, c.requires.below);
      f_value = (
        subst (λ (l : List ℕ). passes (setup_of c.args.setup) l ≡ true) (sym c.frame_at-f.ensures.0) c.requires.last-passes,
        subst (λ (l : List ℕ). passes (setup_of c.args.setup) l ≡ true) (sym c.frame_at-g.ensures.0) c.requires.passes-here,
      );
    }

pub returns : goal.returns
returns c =
    let a = c.args in
    c.compare_frames.ensures
    ∙ ap₂ (λ (f g : Frame). compared (setup_of a.setup) a.clock f g)
    (decoded a.setup.epsilon a.delivery.now a.last c.frame_at-f.result.now c.frame_at-f.ensures.0)
    (decoded a.setup.epsilon a.delivery.now a.at c.frame_at-g.result.now c.frame_at-g.ensures.0)
