-- `trace::reasons::put_ending` meets its contract. Assumes nothing.
use Rattle.timestamp.specs.Ranks.{comparison_of}
use Rattle.text.specs.Text.{newline}
use Rattle.text.proofs.Putting.{ahead, ahead-first, ahead-next}
use Rattle.trace.specs.Text.{reason_text, reason_tail}
use Rattle.trace.proofs.reasons.put_ending.Goals as goal

pub put_decided-end-requires : goal.put_decided-end-requires
unfolding reason_tail
put_decided-end-requires c = ahead-first (reason_text (comparison_of c.args.comparison).reason) newline (ahead c.args.buf.now c.args.at (reason_tail (comparison_of c.args.comparison).reason) c.requires)

pub put_word-requires : goal.put_word-requires
unfolding reason_tail
put_word-requires c = (ahead-next (reason_text (comparison_of c.args.comparison).reason) newline (ahead c.args.buf.now c.args.at (reason_tail (comparison_of c.args.comparison).reason) c.requires) c.put_decided-end.ensures).room

pub returns : goal.returns
unfolding reason_tail
returns c = (ahead-next (reason_text (comparison_of c.args.comparison).reason) newline (ahead c.args.buf.now c.args.at (reason_tail (comparison_of c.args.comparison).reason) c.requires) c.put_decided-end.ensures).done c.put_word.ensures
