-- `trace::lines::put_lines` meets its contract. Assumes nothing.
use Prim.Native.Nat.{◌+◌, ◌<◌, ◌≤◌, ◌-◌}
use mathlib.Core.Path.{sym, ◌∙◌}
use lib.ListN.{length, length-append}
use borrow.Author.Tests.{leb-true, leb-false, not-true, not-false}
use Rattle.setup.specs.Views.{setup_of}
use Rattle.trace.specs.Text.{tick_line, give_lines, tick_lines}
use Rattle.text.proofs.Putting.{ahead, ahead-first, ahead-next}
use Rattle.trace.proofs.Putting.{none_end, none_written, put-end, put_written}
use native.Mathlib.Omega.{arith}
use Rattle.trace.proofs.lines.put_lines.Goals.{Else-not-gives_fit, Then-not-gives_fit, Then-room-size}
use Rattle.trace.proofs.lines.put_lines.Goals as goal

-- there is no room for the tick line
short-line : (c : Then-room-size) → length c.args.buf.now < c.args.at + length (tick_lines c.args.f.clock c.args.f.repair c.args.f.c c.args.f.taken c.args.f.sent c.args.f.delivered (setup_of c.args.setup) c.args.delivery.now)
unfolding tick_lines
short-line c = omega (arith, c.tick_size-size.ensures, length-append (tick_line c.args.f.clock c.args.f.repair c.args.f.c c.args.f.taken c.args.f.sent c.args.f.delivered) (give_lines (setup_of c.args.setup) c.args.f.clock c.args.delivery.now))

-- nor for the give lines
short-gives : (c : Then-not-gives_fit) → length c.args.buf.now < c.args.at + length (tick_lines c.args.f.clock c.args.f.repair c.args.f.c c.args.f.taken c.args.f.sent c.args.f.delivered (setup_of c.args.setup) c.args.delivery.now)
unfolding tick_lines
short-gives c =
    let no_room = leb-false (length (give_lines (setup_of c.args.setup) c.args.f.clock c.args.delivery.now)) (length c.args.buf.now - c.args.at - c.tick_size-size.result) (sym c.gives_fit.ensures ∙ not-true c.gives_fit.result c.if-not-gives_fit.true-raw) in
    omega (arith, c.tick_size-size.ensures, length-append (tick_line c.args.f.clock c.args.f.repair c.args.f.c c.args.f.taken c.args.f.sent c.args.f.delivered) (give_lines (setup_of c.args.setup) c.args.f.clock c.args.delivery.now))

-- there is room for all
enough : (c : Else-not-gives_fit) → c.args.at + length (tick_lines c.args.f.clock c.args.f.repair c.args.f.c c.args.f.taken c.args.f.sent c.args.f.delivered (setup_of c.args.setup) c.args.delivery.now) ≤ length c.args.buf.now
unfolding tick_lines
enough c =
    let room = leb-true (length (give_lines (setup_of c.args.setup) c.args.f.clock c.args.delivery.now)) (length c.args.buf.now - c.args.at - c.tick_size-size.result) (sym c.gives_fit.ensures ∙ not-false c.gives_fit.result c.if-not-gives_fit.false-raw) in
    omega (arith, c.tick_size-size.ensures, length-append (tick_line c.args.f.clock c.args.f.repair c.args.f.c c.args.f.taken c.args.f.sent c.args.f.delivered) (give_lines (setup_of c.args.setup) c.args.f.clock c.args.delivery.now))

pub returns-then-buf-at : goal.returns-then-buf-at
returns-then-buf-at c = record { value = none_end c.args.buf.now c.args.at (tick_lines c.args.f.clock c.args.f.repair c.args.f.c c.args.f.taken c.args.f.sent c.args.f.delivered (setup_of c.args.setup) c.args.delivery.now) (omega arith); buf_after = none_written c.args.buf.now c.args.at (tick_lines c.args.f.clock c.args.f.repair c.args.f.c c.args.f.taken c.args.f.sent c.args.f.delivered (setup_of c.args.setup) c.args.delivery.now) (omega arith) }

pub returns-then-room-size : goal.returns-then-room-size
returns-then-room-size c = record { value = none_end c.args.buf.now c.args.at (tick_lines c.args.f.clock c.args.f.repair c.args.f.c c.args.f.taken c.args.f.sent c.args.f.delivered (setup_of c.args.setup) c.args.delivery.now) (short-line (goal.at.returns-then-room-size c).Then-room-size); buf_after = none_written c.args.buf.now c.args.at (tick_lines c.args.f.clock c.args.f.repair c.args.f.c c.args.f.taken c.args.f.sent c.args.f.delivered (setup_of c.args.setup) c.args.delivery.now) (short-line (goal.at.returns-then-room-size c).Then-room-size) }

pub returns-then-not-gives_fit : goal.returns-then-not-gives_fit
returns-then-not-gives_fit c = record { value = none_end c.args.buf.now c.args.at (tick_lines c.args.f.clock c.args.f.repair c.args.f.c c.args.f.taken c.args.f.sent c.args.f.delivered (setup_of c.args.setup) c.args.delivery.now) (short-gives (goal.at.returns-then-not-gives_fit c).Then-not-gives_fit); buf_after = none_written c.args.buf.now c.args.at (tick_lines c.args.f.clock c.args.f.repair c.args.f.c c.args.f.taken c.args.f.sent c.args.f.delivered (setup_of c.args.setup) c.args.delivery.now) (short-gives (goal.at.returns-then-not-gives_fit c).Then-not-gives_fit) }

pub put_tick-end-requires : goal.put_tick-end-requires
unfolding tick_lines
put_tick-end-requires c = ahead-first (tick_line c.args.f.clock c.args.f.repair c.args.f.c c.args.f.taken c.args.f.sent c.args.f.delivered) (give_lines (setup_of c.args.setup) c.args.f.clock c.args.delivery.now) (ahead c.args.buf.now c.args.at (tick_lines c.args.f.clock c.args.f.repair c.args.f.c c.args.f.taken c.args.f.sent c.args.f.delivered (setup_of c.args.setup) c.args.delivery.now) (enough (goal.at.put_tick-end-requires c).Else-not-gives_fit))

pub put_gives-requires : goal.put_gives-requires
unfolding tick_lines
put_gives-requires c = (c.requires, (ahead-next (tick_line c.args.f.clock c.args.f.repair c.args.f.c c.args.f.taken c.args.f.sent c.args.f.delivered) (give_lines (setup_of c.args.setup) c.args.f.clock c.args.delivery.now) (ahead c.args.buf.now c.args.at (tick_lines c.args.f.clock c.args.f.repair c.args.f.c c.args.f.taken c.args.f.sent c.args.f.delivered (setup_of c.args.setup) c.args.delivery.now) (enough (goal.at.put_gives-requires c).Else-not-gives_fit)) c.put_tick-end.ensures).room)

pub returns : goal.returns
unfolding tick_lines
returns c =
    let all = (ahead-next (tick_line c.args.f.clock c.args.f.repair c.args.f.c c.args.f.taken c.args.f.sent c.args.f.delivered) (give_lines (setup_of c.args.setup) c.args.f.clock c.args.delivery.now) (ahead c.args.buf.now c.args.at (tick_lines c.args.f.clock c.args.f.repair c.args.f.c c.args.f.taken c.args.f.sent c.args.f.delivered (setup_of c.args.setup) c.args.delivery.now) (enough (goal.at.returns c).Else-not-gives_fit)) c.put_tick-end.ensures).done c.put_gives.ensures in
    record { value = put-end (enough (goal.at.returns c).Else-not-gives_fit) all; buf_after = put_written (enough (goal.at.returns c).Else-not-gives_fit) all }
