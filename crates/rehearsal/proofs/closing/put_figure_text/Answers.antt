-- `rehearsal::closing::put_figure_text` meets its contract. Assumes nothing.
use mathlib.Core.Path.{sym}
use Rattle.text.proofs.Putting.{put_as, room_as}
use Rattle.rehearsal.proofs.Figuring.{text-dash, text-number}
use Rattle.rehearsal.proofs.closing.put_figure_text.Goals as goal

pub put_word-requires : goal.put_word-requires
put_word-requires c = room_as c.args.buf.now c.args.at (sym (text-dash c.args.figure c.if-figure-eq0.true)) c.requires

pub returns-then-figure-eq0 : goal.returns-then-figure-eq0
returns-then-figure-eq0 c = put_as (sym (text-dash c.args.figure c.if-figure-eq0.true)) c.put_word.ensures

pub put_field-requires : goal.put_field-requires
put_field-requires c = room_as c.args.buf.now c.args.at (sym (text-number c.args.figure c.if-figure-eq0.false)) c.requires

pub returns : goal.returns
returns c = put_as (sym (text-number c.args.figure c.if-figure-eq0.false)) c.put_field.ensures
