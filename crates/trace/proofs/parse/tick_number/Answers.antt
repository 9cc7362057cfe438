-- `trace::parse::tick_number` meets its contract. Assumes nothing.
use Rattle.trace.proofs.Ticks.{call-cut, call-bad, call-good}
use Rattle.trace.proofs.parse.tick_number.Goals as goal

pub returns-then-end-s : goal.returns-then-end-s
returns-then-end-s c = call-cut _ _ c.tick_end-end.ensures.0 c.if-end-s.true

pub returns-then-byte_at-gt1 : goal.returns-then-byte_at-gt1
returns-then-byte_at-gt1 c = call-bad _ _ _ c.tick_end-end.ensures.0 c.if-end-s.false c.byte_at.ensures c.if-byte_at-gt1.true

pub returns : goal.returns
returns c = call-good _ _ _ c.tick_end-end.ensures.0 c.if-end-s.false c.byte_at.ensures c.if-byte_at-gt1.false
