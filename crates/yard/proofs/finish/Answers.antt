-- `yard::finish` meets its contract. Assumes nothing.
use mathlib.Core.Path.{refl, sym, ◌∙◌}
use native.Mathlib.Omega.{arith}
use lib.Seq.{length-take-le}
use Rattle.rehearsal.proofs.OneStep.{put-overlay}
use Rattle.yard.proofs.finish.Goals as goal

pub returns-then-overlong-ne0 : goal.returns-then-overlong-ne0
returns-then-overlong-ne0 g c =
    record {
      more = c.read_next.result;
      number_is = c.end_number-overlong.ensures;
      lines = λ e. absurd (c.if-overlong-ne0.true e);
      stays = λ _. refl;
    }

pub slice_bounds-write_all-end-2 : goal.slice_bounds-write_all-end-2
slice_bounds-write_all-end-2 g c = sym (length-take-le _ _ (omega (arith, c.put_figures-size.ensures.1, c.put_figures-size.auto.buf, c.requires)))

pub returns : goal.returns
returns g c =
    record {
      more = c.read_next.result;
      number_is = sym c.if-overlong-ne0.false ∙ c.end_number-overlong.ensures;
      lines = λ _. put-overlay c.put_figures-size.ensures.0;
      stays = λ some. absurd (some refl);
    }
