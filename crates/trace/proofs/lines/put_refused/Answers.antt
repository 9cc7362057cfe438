-- `trace::lines::put_refused` meets its contract. Assumes nothing.
use Prim.Native.Nat.{◌+◌, ◌<◌, ◌≤◌}
use lib.ListN.{length}
use Rattle.text.specs.Text.{field, newline}
use Rattle.trace.specs.Text.{refused_line, refused_word}
use Rattle.text.proofs.Putting.{ahead, ahead-first, ahead-next}
use Rattle.trace.proofs.Putting.{length-refused, none_end, none_written, put-end, put_written}
use native.Mathlib.Omega.{arith}
use Rattle.trace.proofs.lines.put_refused.Goals.{Else-buf-at-2, Then-buf-at-2}
use Rattle.trace.proofs.lines.put_refused.Goals as goal

-- there is no room for the line
short-of : (c : Then-buf-at-2) → length c.args.buf.now < c.args.at + length (refused_line c.args.number)
short-of c = omega (arith, length-refused c.args.number, c.digit_count-size.ensures.0)

-- there is
enough-of : (c : Else-buf-at-2) → c.args.at + length (refused_line c.args.number) ≤ length c.args.buf.now
enough-of c = omega (arith, length-refused c.args.number, c.digit_count-size.ensures.0)

pub overflow_add-size : goal.overflow_add-size
overflow_add-size c = omega (arith, c.digit_count-size.ensures.1)

pub returns-then-buf-at : goal.returns-then-buf-at
returns-then-buf-at c =
    let args = c.args in
    record { value = none_end args.buf.now args.at (refused_line args.number) (omega arith); buf_after = none_written args.buf.now args.at (refused_line args.number) (omega arith) }

pub returns-then-buf-at-2 : goal.returns-then-buf-at-2
returns-then-buf-at-2 c =
    let args = c.args in
    record { value = none_end args.buf.now args.at (refused_line args.number) (short-of (goal.at.returns-then-buf-at-2 c).Then-buf-at-2); buf_after = none_written args.buf.now args.at (refused_line args.number) (short-of (goal.at.returns-then-buf-at-2 c).Then-buf-at-2) }

pub put_field-end-requires : goal.put_field-end-requires
unfolding refused_line
put_field-end-requires c =
    let args = c.args in
    ahead-first (field refused_word args.number) newline (ahead args.buf.now args.at (refused_line args.number) (enough-of (goal.at.put_field-end-requires c).Else-buf-at-2))

pub put_word-requires : goal.put_word-requires
unfolding refused_line
put_word-requires c =
    let args = c.args in
    (ahead-next (field refused_word args.number) newline (ahead args.buf.now args.at (refused_line args.number) (enough-of (goal.at.put_word-requires c).Else-buf-at-2)) c.put_field-end.ensures).room

pub returns : goal.returns
unfolding refused_line
returns c =
    let args = c.args in
    let all = (ahead-next (field refused_word args.number) newline (ahead args.buf.now args.at (refused_line args.number) (enough-of (goal.at.returns c).Else-buf-at-2)) c.put_field-end.ensures).done c.put_word.ensures in
    record { value = put-end (enough-of (goal.at.returns c).Else-buf-at-2) all; buf_after = put_written (enough-of (goal.at.returns c).Else-buf-at-2) all }
