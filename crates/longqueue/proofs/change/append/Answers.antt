-- `longqueue::change::append` meets its contract: the frame's bytes behind the last, and the count one higher. Assumes nothing.
use native.Mathlib.Omega.{arith}
use Rattle.setup.specs.Views.{setup_of}
use Rattle.lemmas.proofs.Questions.{long-limits-from}
use Rattle.holdback.proofs.RoundTrip.{Bytes}
use Rattle.longqueue.proofs.Extents.{extent-two}
use Rattle.longqueue.proofs.Changed.{append-room, append-bytes, append-held, append-extent}
use Rattle.longqueue.proofs.change.append.Goals as goal

pub copy_into-requires : goal.copy_into-requires
copy_into-requires c = append-room c.requires.setup_value.1 (long-limits-from (setup_of c.args.setup) c.requires.setup_value.0).epsilon-pos c.args.frame.now (λ i. omega (arith, c.shared_slice_known-1.given i)) c.requires.frame_value.0 c.requires.frame_value.1

pub put_u16-requires : goal.put_u16-requires
put_u16-requires c =
    let two = extent-two c.requires.setup_value.1 in
    (omega (arith, two), omega arith)

pub returns : goal.returns
returns c =
    let frame = c.args.frame.now in
    let clean : Bytes frame = λ i. omega (arith, c.shared_slice_known-1.given i) in
    let pos = (long-limits-from (setup_of c.args.setup) c.requires.setup_value.0).epsilon-pos in record { buffer = append-bytes c.requires.setup_value.1 pos frame clean c.requires.frame_value.0 c.requires.frame_value.1 _ _ c.copy_into.ensures c.put_u16.ensures; held = append-held c.requires.setup_value.1 pos frame clean c.requires.frame_value.0 c.requires.frame_value.1 _ _ c.copy_into.ensures c.put_u16.ensures; known = append-extent c.requires.setup_value.1 pos frame clean c.requires.frame_value.0 c.requires.frame_value.1 _ _ c.copy_into.ensures c.put_u16.ensures }
