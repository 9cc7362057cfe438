-- `trace::parts::put_give` meets its contract. Assumes nothing.
use mathlib.Core.List.{◌++◌}
use Rattle.timestamp.specs.Ranks.{comparison_of}
use Rattle.text.specs.Text.{field, space}
use Rattle.trace.specs.Text.{give_text, payload_tail, give_word}
use Rattle.text.proofs.Putting.{ahead, ahead-first, ahead-next}
use Rattle.trace.proofs.parts.put_give.Goals as goal

pub put_field-after_station-requires : goal.put_field-after_station-requires
unfolding give_text
put_field-after_station-requires c =
    let args = c.args in
    let s0 = ahead args.buf.now args.at (give_text args.station args.r args.payload.now (comparison_of args.comparison).reason) c.requires in
    ahead-first (field give_word args.station) (field space args.r ++ payload_tail args.payload.now (comparison_of args.comparison).reason) s0

pub put_field-after_r-requires : goal.put_field-after_r-requires
unfolding give_text
put_field-after_r-requires c =
    let args = c.args in
    let s0 = ahead args.buf.now args.at (give_text args.station args.r args.payload.now (comparison_of args.comparison).reason) c.requires in
    let s1 = ahead-next (field give_word args.station) (field space args.r ++ payload_tail args.payload.now (comparison_of args.comparison).reason) s0 c.put_field-after_station.ensures in
    ahead-first (field space args.r) (payload_tail args.payload.now (comparison_of args.comparison).reason) s1

pub put_tail-requires : goal.put_tail-requires
unfolding give_text
put_tail-requires c =
    let args = c.args in
    let s0 = ahead args.buf.now args.at (give_text args.station args.r args.payload.now (comparison_of args.comparison).reason) c.requires in
    let s1 = ahead-next (field give_word args.station) (field space args.r ++ payload_tail args.payload.now (comparison_of args.comparison).reason) s0 c.put_field-after_station.ensures in
    (ahead-next (field space args.r) (payload_tail args.payload.now (comparison_of args.comparison).reason) s1 c.put_field-after_r.ensures).room

pub returns : goal.returns
unfolding give_text
returns c =
    let args = c.args in
    let s0 = ahead args.buf.now args.at (give_text args.station args.r args.payload.now (comparison_of args.comparison).reason) c.requires in
    let s1 = ahead-next (field give_word args.station) (field space args.r ++ payload_tail args.payload.now (comparison_of args.comparison).reason) s0 c.put_field-after_station.ensures in
    (ahead-next (field space args.r) (payload_tail args.payload.now (comparison_of args.comparison).reason) s1 c.put_field-after_r.ensures).done c.put_tail.ensures
