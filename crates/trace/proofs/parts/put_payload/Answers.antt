-- `trace::parts::put_payload` meets its contract. Assumes nothing.
use mathlib.Core.Path.{sym}
use Rattle.text.proofs.Putting.{put_as, room_as}
use Rattle.trace.proofs.Putting.{payload-empty, payload-hex}
use Rattle.trace.proofs.parts.put_payload.Goals as goal

pub put_word-requires : goal.put_word-requires
put_word-requires c = room_as c.args.buf.now c.args.at (sym (payload-empty c.args.payload.now c.if-payload-eq0.true)) c.requires

pub returns-then-payload-eq0 : goal.returns-then-payload-eq0
returns-then-payload-eq0 c = put_as (sym (payload-empty c.args.payload.now c.if-payload-eq0.true)) c.put_word.ensures

pub put_hex-requires : goal.put_hex-requires
put_hex-requires c = room_as c.args.buf.now c.args.at (sym (payload-hex c.args.payload.now c.if-payload-eq0.false)) c.requires

pub returns : goal.returns
returns c = put_as (sym (payload-hex c.args.payload.now c.if-payload-eq0.false)) c.put_hex.ensures
