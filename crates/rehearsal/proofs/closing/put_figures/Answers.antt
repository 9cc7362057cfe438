-- `rehearsal::closing::put_figures` meets its contract. The invariant of its loop: the first i lines are written. Assumes nothing.
use mathlib.Core.Path.{refl, sym, ◌∙◌}
use native.Mathlib.Omega.{arith}
use Rattle.text.proofs.Putting.{put-nothing, put_then, put_as}
use Rattle.rehearsal.proofs.Figuring.{lines_none, lines-turn, lines-all}
use Rattle.rehearsal.proofs.closing.put_figures.Goals as goal

pub loop-i-init : goal.loop-i-init
loop-i-init c =
    let args = c.args in
    (put_as (sym (lines_none args.figures)) (put-nothing args.buf.now 0), (refl, (omega arith, omega arith)))

pub put_figure-end-requires : goal.put_figure-end-requires
put_figure-end-requires c = (omega arith, omega (arith, c.loop-i.invariant.1.0, c.loop-i.invariant.1.1.0, c.loop-i-test.true, c.requires))

pub loop-i-preserved : goal.loop-i-preserved
loop-i-preserved c =
    let args = c.args in (
      put_as (lines-turn args.figures c.loop-i.i c.loop-i-test.true) (put_then (omega arith) c.loop-i.invariant.0 c.put_figure-end.ensures.0),
      (c.put_figure-end.auto.buf ∙ c.loop-i.invariant.1.0, (omega (arith, c.put_figure-end.ensures.1), omega arith)),
    )

pub shape_of-buf : goal.shape_of-buf
shape_of-buf c = c.loop-i.invariant.1.0

pub returns : goal.returns
returns c = (put_as (lines-all c.args.figures c.loop-i.i c.loop-i-test.false) c.loop-i.invariant.0, omega (arith, c.loop-i.invariant.1.1.0, c.loop-i.invariant.1.1.1))
