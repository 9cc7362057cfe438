-- `text::parts::put_field` meets its contract. Assumes nothing.
use Rattle.text.specs.Text.{field, decimal}
use Rattle.text.proofs.Putting.{ahead, ahead-first, ahead-next}
use Rattle.text.proofs.parts.put_field.Goals as goal

pub put_word-end-requires : goal.put_word-end-requires
unfolding field
put_word-end-requires c =
    let args = c.args in
    ahead-first args.word.now (decimal args.x) (ahead args.buf.now args.at (field args.word.now args.x) c.requires)

pub put_decimal-requires : goal.put_decimal-requires
unfolding field
put_decimal-requires c =
    let args = c.args in
    let start = ahead args.buf.now args.at (field args.word.now args.x) c.requires in
    (ahead-next args.word.now (decimal args.x) start c.put_word-end.ensures).room

pub returns : goal.returns
unfolding field
returns c =
    let args = c.args in
    let start = ahead args.buf.now args.at (field args.word.now args.x) c.requires in
    (ahead-next args.word.now (decimal args.x) start c.put_word-end.ensures).done c.put_decimal.ensures
