-- `trace::reasons::put_decided` meets its contract: case by case. Assumes nothing.
use Rattle.text.proofs.Putting.{put_as, room_as}
use Rattle.trace.proofs.Wording.{decided-words}
use Rattle.trace.proofs.reasons.put_decided.Goals as goal

pub put_reason-requires : goal.put_reason-requires
put_reason-requires c = room_as c.args.buf.now c.args.at (decided-words c.in-First.is) c.requires

pub put_reason-requires-in-Second : goal.put_reason-requires-in-Second
put_reason-requires-in-Second c = room_as c.args.buf.now c.args.at (decided-words c.in-Second.is) c.requires

pub put_word-requires : goal.put_word-requires
put_word-requires c = room_as c.args.buf.now c.args.at (decided-words c.in-Alike.is) c.requires

pub returns-in-First : goal.returns-in-First
returns-in-First c = put_as (decided-words c.in-First.is) c.put_reason.ensures

pub returns-in-Second : goal.returns-in-Second
returns-in-Second c = put_as (decided-words c.in-Second.is) c.put_reason-in-Second.ensures

pub returns-in-Alike : goal.returns-in-Alike
returns-in-Alike c = put_as (decided-words c.in-Alike.is) c.put_word.ensures
