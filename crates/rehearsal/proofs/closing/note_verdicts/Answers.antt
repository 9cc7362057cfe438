-- `rehearsal::closing::note_verdicts` meets its contract. The invariant of its loop: noting what is left gives what noting all does. Assumes nothing.
use mathlib.Core.Path.{sym, ◌∙◌}
use native.Mathlib.Omega.{arith}
use Rattle.rehearsal.proofs.Figuring.{notes-start, notes-turn, notes-end}
use Rattle.rehearsal.proofs.closing.note_verdicts.Goals as goal

pub loop-i-init : goal.loop-i-init
loop-i-init c =
    let args = c.args in
    (notes-start args.step args.figures args.verdicts.now, omega arith)

pub loop-i-preserved : goal.loop-i-preserved
loop-i-preserved c =
    let args = c.args in (
      c.loop-i.invariant.0
          ∙ notes-turn args.step c.loop-i.after args.verdicts.now c.noted_figures-next.result c.loop-i.i c.loop-i-test.true c.noted_figures-next.ensures,
      omega arith,
    )

pub returns : goal.returns
returns c =
    let args = c.args in
    sym (c.loop-i.invariant.0 ∙ notes-end args.step c.loop-i.after args.verdicts.now c.loop-i.i (omega arith))
