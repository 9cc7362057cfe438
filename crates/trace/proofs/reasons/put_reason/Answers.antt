-- `trace::reasons::put_reason` meets its contract: case by case. Assumes nothing.
use Rattle.text.proofs.Putting.{put_as, room_as}
use Rattle.trace.proofs.Wording.{words_are}
use Rattle.trace.proofs.reasons.put_reason.Goals as goal

pub put_word-requires : goal.put_word-requires
put_word-requires c = room_as c.args.buf.now c.args.at (words_are c.in-Sum.is) c.requires

pub put_field-requires : goal.put_field-requires
put_field-requires c = room_as c.args.buf.now c.args.at (words_are c.in-Count.is) c.requires

pub put_word-requires-in-Station : goal.put_word-requires-in-Station
put_word-requires-in-Station c = room_as c.args.buf.now c.args.at (words_are c.in-Station.is) c.requires

pub put_word-requires-in-R : goal.put_word-requires-in-R
put_word-requires-in-R c = room_as c.args.buf.now c.args.at (words_are c.in-R.is) c.requires

pub returns-in-Sum : goal.returns-in-Sum
returns-in-Sum c = put_as (words_are c.in-Sum.is) c.put_word.ensures

pub returns-in-Count : goal.returns-in-Count
returns-in-Count c = put_as (words_are c.in-Count.is) c.put_field.ensures

pub returns-in-Station : goal.returns-in-Station
returns-in-Station c = put_as (words_are c.in-Station.is) c.put_word-in-Station.ensures

pub returns-in-R : goal.returns-in-R
returns-in-R c = put_as (words_are c.in-R.is) c.put_word-in-R.ensures
