-- `rehearsal::labels::put_labelled` meets its contract. The invariant of its loop: the text from the next byte on is still to be written. Assumes nothing.
use Prim.Native.Nat.{◌+◌}
use native.Mathlib.Omega.{arith}
use lib.Dec.{eqb}
use lib.ListN.{drop, get_or}
use Rattle.text.specs.Text.{Put}
use Rattle.text.proofs.Putting.{ahead, ahead-as, ahead-first, ahead-next, put-nothing, put-length}
use Rattle.rehearsal.specs.Group.{labelled_from, labelled}
use Rattle.rehearsal.specs.Views.{label_of, labelled_byte}
use Rattle.rehearsal.proofs.Labelling.{label-all, label-turn, label-end, labelled-most}
use Rattle.rehearsal.proofs.labels.put_labelled.Goals.{After-loop-i}
use Rattle.rehearsal.proofs.labels.put_labelled.Goals as goal

-- nothing is left
all-put : (c : After-loop-i)
    → Put c.args.out.now 0 (labelled c.args.station c.args.text.now) c.loop-i.out c.loop-i.end
all-put c =
    let args = c.args in
    (ahead-as (label-end c.loop-i.starts args.station args.text.now c.loop-i.i (omega arith)) c.loop-i.invariant.0).done (put-nothing c.loop-i.out c.loop-i.end)

pub loop-i-init : goal.loop-i-init
loop-i-init c =
    let text = c.args.text.now in
    let room = labelled-most c.args.station text c.requires.0 in
    (ahead-as (label-all c.args.station text) (ahead c.args.out.now 0 (labelled c.args.station text) (omega (arith, c.requires.1))), omega arith)

pub put_byte-end-requires : goal.put_byte-end-requires
put_byte-end-requires c =
    let args = c.args in
    let text = args.text.now in
    ahead-first (labelled_byte c.loop-i.starts args.station (get_or text c.loop-i.i 0)) (labelled_from (eqb (get_or text c.loop-i.i 0) 10) (label_of args.station) (drop (c.loop-i.i + 1) text))
    (ahead-as (label-turn c.loop-i.starts args.station text c.loop-i.i c.loop-i-test.true) c.loop-i.invariant.0)

pub loop-i-preserved : goal.loop-i-preserved
loop-i-preserved c =
    let args = c.args in
    let text = args.text.now in (
      ahead-next (labelled_byte c.loop-i.starts args.station (get_or text c.loop-i.i 0)) (labelled_from (eqb (get_or text c.loop-i.i 0) 10) (label_of args.station) (drop (c.loop-i.i + 1) text))
          (ahead-as (label-turn c.loop-i.starts args.station text c.loop-i.i c.loop-i-test.true) c.loop-i.invariant.0) c.put_byte-end.ensures,
      omega arith,
    )

pub shape_of-out : goal.shape_of-out
shape_of-out c = put-length (omega (arith, labelled-most c.args.station c.args.text.now c.requires.0, c.requires.1)) (all-put (goal.at.shape_of-out c).After-loop-i)

pub returns : goal.returns
returns c = all-put (goal.at.returns c).After-loop-i
