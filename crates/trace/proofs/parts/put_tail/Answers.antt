-- `trace::parts::put_tail` meets its contract. Assumes nothing.
use mathlib.Core.List.{◌++◌}
use Rattle.timestamp.specs.Ranks.{comparison_of}
use Rattle.text.specs.Text.{space}
use Rattle.trace.specs.Text.{payload_tail, payload_text, reason_tail}
use Rattle.text.proofs.Putting.{ahead, ahead-first, ahead-next}
use Rattle.trace.proofs.parts.put_tail.Goals as goal

pub put_word-after_space-requires : goal.put_word-after_space-requires
unfolding payload_tail
put_word-after_space-requires c = ahead-first space (payload_text c.args.payload.now ++ reason_tail (comparison_of c.args.comparison).reason) (ahead c.args.buf.now c.args.at (payload_tail c.args.payload.now (comparison_of c.args.comparison).reason) c.requires)

pub put_payload-after_payload-requires : goal.put_payload-after_payload-requires
unfolding payload_tail
put_payload-after_payload-requires c =
    let s1 = ahead-next space (payload_text c.args.payload.now ++ reason_tail (comparison_of c.args.comparison).reason) (ahead c.args.buf.now c.args.at (payload_tail c.args.payload.now (comparison_of c.args.comparison).reason) c.requires) c.put_word-after_space.ensures in
    ahead-first (payload_text c.args.payload.now) (reason_tail (comparison_of c.args.comparison).reason) s1

pub put_ending-requires : goal.put_ending-requires
unfolding payload_tail
put_ending-requires c =
    let s1 = ahead-next space (payload_text c.args.payload.now ++ reason_tail (comparison_of c.args.comparison).reason) (ahead c.args.buf.now c.args.at (payload_tail c.args.payload.now (comparison_of c.args.comparison).reason) c.requires) c.put_word-after_space.ensures in
    (ahead-next (payload_text c.args.payload.now) (reason_tail (comparison_of c.args.comparison).reason) s1 c.put_payload-after_payload.ensures).room

pub returns : goal.returns
unfolding payload_tail
returns c =
    let s1 = ahead-next space (payload_text c.args.payload.now ++ reason_tail (comparison_of c.args.comparison).reason) (ahead c.args.buf.now c.args.at (payload_tail c.args.payload.now (comparison_of c.args.comparison).reason) c.requires) c.put_word-after_space.ensures in
    (ahead-next (payload_text c.args.payload.now) (reason_tail (comparison_of c.args.comparison).reason) s1 c.put_payload-after_payload.ensures).done c.put_ending.ensures
