-- `trace::lines::tick_size` meets its contract. Assumes nothing.
use Rattle.trace.proofs.Putting.{length-tick}
use native.Mathlib.Omega.{arith}
use Rattle.trace.proofs.lines.tick_size.Goals as goal

pub digit_count-requires : goal.digit_count-requires
digit_count-requires c = omega arith

pub digit_count-requires-2 : goal.digit_count-requires-2
digit_count-requires-2 c = omega arith

pub overflow_add-first : goal.overflow_add-first
overflow_add-first c = omega arith

pub digit_count-requires-3 : goal.digit_count-requires-3
digit_count-requires-3 c = omega arith

pub overflow_add-first-2 : goal.overflow_add-first-2
overflow_add-first-2 c = omega arith

pub overflow_add-result : goal.overflow_add-result
overflow_add-result c = omega arith

pub digit_count-requires-4 : goal.digit_count-requires-4
digit_count-requires-4 c = omega arith

pub overflow_add-result-2 : goal.overflow_add-result-2
overflow_add-result-2 c = omega arith

pub digit_count-requires-5 : goal.digit_count-requires-5
digit_count-requires-5 c = omega arith

pub overflow_add-result-3 : goal.overflow_add-result-3
overflow_add-result-3 c = omega arith

pub returns : goal.returns
returns c = omega (arith, length-tick c.args.f.clock c.args.f.repair c.args.f.c c.args.f.taken c.args.f.sent c.args.f.delivered)
