-- `figures::call::put_row` meets its contract. Assumes nothing.
use Prim.Native.Nat.{◌<◌}
use mathlib.Core.Path.{◌∙◌}
use native.Mathlib.Omega.{arith}
use lib.ListN.{get_or, length-set}
use Rattle.figures.proofs.Bytes.{put-afresh, put-moved}
use Rattle.figures.proofs.call.put_row.Goals.{After-slice_known-2-1}
use Rattle.figures.proofs.call.put_row.Goals as goal

-- the position is a byte
small : (c : After-slice_known-2-1) → get_or c.args.figures.now 0 0 < 256
small c = omega (arith, c.slice_known-2-1.given 0)

pub overflow_cast-position : goal.overflow_cast-position
overflow_cast-position c = omega (arith, small (goal.at.overflow_cast-position c).After-slice_known-2-1)

pub overflow_mul-at : goal.overflow_mul-at
overflow_mul-at c = omega (arith, small (goal.at.overflow_mul-at c).After-slice_known-2-1)

pub overflow_add-at : goal.overflow_add-at
overflow_add-at c = omega (arith, small (goal.at.overflow_add-at c).After-slice_known-2-1)

pub shape_of-figures-then-position-eq255 : goal.shape_of-figures-then-position-eq255
shape_of-figures-then-position-eq255 c = length-set c.count_afresh.new.figures 0 0 ∙ (c.count_afresh.auto.figures ∙ c.copy_into.auto.dst)

pub returns-then-position-eq255 : goal.returns-then-position-eq255
returns-then-position-eq255 c =
    put-afresh c.args.figures.now c.args.row.now c.requires.0 c.requires.1 (small (goal.at.returns-then-position-eq255 c).After-slice_known-2-1) c.copy_into.ensures
    c.count_afresh.ensures c.if-position-eq255.true

-- the row fits
pub move_totals-requires : goal.move_totals-requires
move_totals-requires c = (c.requires.0, (omega arith, (omega (arith, small (goal.at.move_totals-requires c).After-slice_known-2-1), c.requires.1)))

pub copy_into-requires-2 : goal.copy_into-requires-2
copy_into-requires-2 c = omega (arith, small (goal.at.copy_into-requires-2 c).After-slice_known-2-1, c.requires.0, c.requires.1, c.move_totals.auto.figures)

pub overflow_add-figures : goal.overflow_add-figures
overflow_add-figures c = omega (arith, small (goal.at.overflow_add-figures c).After-slice_known-2-1)

pub overflow_cast-figures : goal.overflow_cast-figures
overflow_cast-figures c = omega (arith, small (goal.at.overflow_cast-figures c).After-slice_known-2-1, c.if-position-eq255.false)

pub shape_of-figures : goal.shape_of-figures
shape_of-figures c = length-set c.copy_into-2.new.dst 0 _ ∙ (c.copy_into-2.auto.dst ∙ c.move_totals.auto.figures)

pub returns : goal.returns
returns c =
    put-moved c.args.figures.now c.args.row.now c.requires.0 c.requires.1 (small (goal.at.returns c).After-slice_known-2-1) c.move_totals.ensures
    c.copy_into-2.ensures c.if-position-eq255.false
