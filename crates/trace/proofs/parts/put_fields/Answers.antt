-- `trace::parts::put_fields` meets its contract. Assumes nothing.
use mathlib.Core.List.{◌++◌}
use Rattle.text.specs.Text.{field}
use Rattle.trace.specs.Text.{fields}
use Rattle.text.proofs.Putting.{ahead, ahead-first, ahead-next}
use Rattle.trace.proofs.parts.put_fields.Goals as goal

pub put_field-after_x-requires : goal.put_field-after_x-requires
unfolding fields
put_field-after_x-requires c =
    let args = c.args in
    let s0 = ahead args.buf.now args.at (fields args.first.now args.x args.second.now args.y args.third.now args.z) c.requires in
    ahead-first (field args.first.now args.x) (field args.second.now args.y ++ field args.third.now args.z) s0

pub put_field-after_y-requires : goal.put_field-after_y-requires
unfolding fields
put_field-after_y-requires c =
    let args = c.args in
    let s0 = ahead args.buf.now args.at (fields args.first.now args.x args.second.now args.y args.third.now args.z) c.requires in
    let s1 = ahead-next (field args.first.now args.x) (field args.second.now args.y ++ field args.third.now args.z) s0 c.put_field-after_x.ensures in
    ahead-first (field args.second.now args.y) (field args.third.now args.z) s1

pub put_field-requires : goal.put_field-requires
unfolding fields
put_field-requires c =
    let args = c.args in
    let s0 = ahead args.buf.now args.at (fields args.first.now args.x args.second.now args.y args.third.now args.z) c.requires in
    let s1 = ahead-next (field args.first.now args.x) (field args.second.now args.y ++ field args.third.now args.z) s0 c.put_field-after_x.ensures in
    (ahead-next (field args.second.now args.y) (field args.third.now args.z) s1 c.put_field-after_y.ensures).room

pub returns : goal.returns
unfolding fields
returns c =
    let args = c.args in
    let s0 = ahead args.buf.now args.at (fields args.first.now args.x args.second.now args.y args.third.now args.z) c.requires in
    let s1 = ahead-next (field args.first.now args.x) (field args.second.now args.y ++ field args.third.now args.z) s0 c.put_field-after_x.ensures in
    (ahead-next (field args.second.now args.y) (field args.third.now args.z) s1 c.put_field-after_y.ensures).done c.put_field.ensures
