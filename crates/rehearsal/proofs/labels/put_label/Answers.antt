-- `rehearsal::labels::put_label` meets its contract. Assumes nothing.
use Rattle.text.specs.Text.{decimal, space}
use Rattle.text.proofs.Putting.{ahead, ahead-first, ahead-next}
use Rattle.rehearsal.specs.Views.{label_of}
use Rattle.rehearsal.proofs.labels.put_label.Goals as goal

pub put_decimal-end-requires : goal.put_decimal-end-requires
put_decimal-end-requires c = ahead-first (decimal c.args.station) space (ahead c.args.out.now c.args.at (label_of c.args.station) c.requires)

pub put_word-requires : goal.put_word-requires
put_word-requires c =
    (ahead-next (decimal c.args.station) space (ahead c.args.out.now c.args.at (label_of c.args.station) c.requires)
    c.put_decimal-end.ensures).room

pub returns : goal.returns
returns c =
    (ahead-next (decimal c.args.station) space (ahead c.args.out.now c.args.at (label_of c.args.station) c.requires)
    c.put_decimal-end.ensures).done c.put_word.ensures
