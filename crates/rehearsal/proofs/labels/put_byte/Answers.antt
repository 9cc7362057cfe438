-- `rehearsal::labels::put_byte` meets its contract. Assumes nothing.
use Prim.Native.Nat.{◌<◌}
use mathlib.Core.Path.{◌≡◌, sym}
use mathlib.Core.List.{[], ◌∷◌, ◌++◌}
use native.Mathlib.Omega.{arith}
use lib.ListN.{length}
use borrow.Author.Tests.{not-true, not-false}
use Rattle.text.proofs.Putting.{Ahead, ahead, ahead-as, ahead-first, ahead-next, put_as, room_as}
use Rattle.rehearsal.specs.Views.{label_of, labelled_byte}
use Rattle.rehearsal.proofs.Labelling.{put-stored, byte-plain, byte-first}
use Rattle.rehearsal.proofs.labels.put_byte.Lts.View as view
use Rattle.rehearsal.proofs.labels.put_byte.Goals.{After-put_label-end, Else-not-starts, Then-not-starts}
use Rattle.rehearsal.proofs.labels.put_byte.Goals as goal

-- a byte that starts no line
plain : (c : Then-not-starts) → labelled_byte c.args.starts c.args.station c.args.byte ≡ c.args.byte ∷ []
plain c =
    let args = c.args in
    byte-plain args.starts args.station args.byte (not-true args.starts c.if-not-starts.true-raw)

plain-room : (c : Then-not-starts) → c.args.at < length c.args.out.now
plain-room c = omega (arith, room_as c.args.out.now c.args.at (sym (plain c)) c.requires)

-- one that does: the label is to come, and then the byte
begun : (c : Else-not-starts)
    → Ahead c.args.out.now c.args.at (labelled_byte c.args.starts c.args.station c.args.byte)
    c.args.out.now c.args.at (label_of c.args.station ++ (c.args.byte ∷ []))
begun c =
    ahead-as (byte-first c.args.starts c.args.station c.args.byte (not-false c.args.starts c.if-not-starts.false-raw))
    (ahead c.args.out.now c.args.at (labelled_byte c.args.starts c.args.station c.args.byte) c.requires)

-- only the byte is
byte_left : (c : After-put_label-end)
    → Ahead c.args.out.now c.args.at (labelled_byte c.args.starts c.args.station c.args.byte)
    c.put_label-end.new.out c.put_label-end.result (c.args.byte ∷ [])
byte_left c =
    let args = c.args in
    ahead-next (label_of args.station) (args.byte ∷ []) (begun (view.up-Else-not-starts _ _ _ c.before.before)) c.put_label-end.ensures

pub bounds-out-at : goal.bounds-out-at
bounds-out-at c = plain-room (goal.at.bounds-out-at c).Then-not-starts

pub returns-then-not-starts : goal.returns-then-not-starts
returns-then-not-starts c =
    let args = c.args in
    put_as (sym (plain (goal.at.returns-then-not-starts c).Then-not-starts)) (put-stored args.out.now args.at args.byte (plain-room (goal.at.returns-then-not-starts c).Then-not-starts))

pub put_label-end-requires : goal.put_label-end-requires
put_label-end-requires c =
    let args = c.args in
    ahead-first (label_of args.station) (args.byte ∷ []) (begun (goal.at.put_label-end-requires c).Else-not-starts)

pub bounds-out-end : goal.bounds-out-end
bounds-out-end c = omega (arith, (byte_left (goal.at.bounds-out-end c).After-put_label-end).room)

pub overflow_add-result-2 : goal.overflow_add-result-2
overflow_add-result-2 c = omega (arith, (byte_left (goal.at.overflow_add-result-2 c).After-put_label-end).room)

pub returns : goal.returns
returns c =
    (byte_left (goal.at.returns c).After-put_label-end).done
    (put-stored c.put_label-end.new.out c.put_label-end.result c.args.byte (omega (arith, (byte_left (goal.at.returns c).After-put_label-end).room)))
