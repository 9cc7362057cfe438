-- `holdback::change::append_frames` meets its contract: the number of all frames, and the bytes of these behind the others. Assumes nothing.
use Rattle.std.proofs.Common.{◌-◌, drop, arith, length-drop, length-take}
use Rattle.holdback.proofs.Changes.{frames-appended}
use Rattle.holdback.proofs.change.append_frames.Goals as goal

pub copy_into-requires : goal.copy_into-requires
copy_into-requires c =
    omega (
      arith,
      c.requires.le_at,
      c.requires.at_in_bounds.0,
      length-take (c.args.prefix.at - 2) (drop 2 c.args.buf.now),
      length-drop 2 c.args.buf.now,
      c.put_u16.auto.buf,
    )

pub returns : goal.returns
returns c =
    λ queue first count end w given.
    frames-appended w c.args.delivery.now _ _ given c.put_u16.ensures c.copy_into.ensures
