-- `rehearsal::closing::put_figure` meets its contract. Assumes nothing.
use Prim.Native.Nat.{◌≤◌}
use mathlib.Core.List.{◌++◌}
use native.Mathlib.Omega.{arith}
use lib.ListN.{length}
use Rattle.text.specs.Text.{decimal, newline}
use Rattle.text.proofs.Putting.{Ahead, ahead, ahead-first, ahead-next}
use Rattle.rehearsal.specs.Closing.{figure_text, figure_line}
use Rattle.rehearsal.specs.Views.{as_figure}
use Rattle.rehearsal.proofs.Figuring.{line-most}
use Rattle.rehearsal.proofs.closing.put_figure.Goals.{Start}
use Rattle.rehearsal.proofs.closing.put_figure.Goals as goal

-- the line has at most 24 bytes
short : (c : Start) → length (figure_line c.args.number (as_figure c.args.figure)) ≤ 24
short c = line-most c.args.number c.args.figure c.requires.0 (omega arith)

-- all of it is to come
begun : (c : Start)
    → Ahead c.args.buf.now c.args.at (figure_line c.args.number (as_figure c.args.figure))
    c.args.buf.now c.args.at (decimal c.args.number ++ (figure_text (as_figure c.args.figure) ++ newline))
unfolding figure_line
begun c = ahead c.args.buf.now c.args.at (figure_line c.args.number (as_figure c.args.figure)) (omega (arith, short c, c.requires.1))

pub put_decimal-after_number-requires : goal.put_decimal-after_number-requires
put_decimal-after_number-requires c =
    let args = c.args in
    ahead-first (decimal args.number) (figure_text (as_figure args.figure) ++ newline) (begun (goal.at.put_decimal-after_number-requires c).Start)

pub put_figure_text-after_figure-requires : goal.put_figure_text-after_figure-requires
put_figure_text-after_figure-requires c =
    let rest = figure_text (as_figure c.args.figure) ++ newline in
    ahead-first (figure_text (as_figure c.args.figure)) newline
    (ahead-next (decimal c.args.number) rest (begun (goal.at.put_figure_text-after_figure-requires c).Start) c.put_decimal-after_number.ensures)

pub put_word-requires : goal.put_word-requires
put_word-requires c =
    let rest = figure_text (as_figure c.args.figure) ++ newline in
    (ahead-next (figure_text (as_figure c.args.figure)) newline
    (ahead-next (decimal c.args.number) rest (begun (goal.at.put_word-requires c).Start) c.put_decimal-after_number.ensures)
    c.put_figure_text-after_figure.ensures).room

pub returns : goal.returns
returns c =
    let rest = figure_text (as_figure c.args.figure) ++ newline in
    let put =
    (ahead-next (figure_text (as_figure c.args.figure)) newline
    (ahead-next (decimal c.args.number) rest (begun (goal.at.returns c).Start) c.put_decimal-after_number.ensures)
    c.put_figure_text-after_figure.ensures).done c.put_word.ensures in
    (put, omega (arith, put.ends, short (goal.at.returns c).Start))
