-- `longqueue::soundness::fitting_end` meets its contract: a frame that ends past the buffer is cut short, so it is not well-formed. Assumes nothing.
use native.Mathlib.Omega.{arith}
use mathlib.Core.Path.{sym, ◌∙◌}
use Rattle.laws.proofs.Numbers.{false_of_not, true_of_not}
use Rattle.setup.specs.Views.{setup_of}
use Rattle.lemmas.proofs.Questions.{long-limits-from}
use Rattle.longqueue.proofs.Judging.{next_small, fitting-past, fitting-refused, given-passes, fitting-untimely, fitting-yes}
use Rattle.longqueue.proofs.soundness.fitting_end.Goals as goal

pub frame_end-requires : goal.frame_end-requires
frame_end-requires c = (long-limits-from (setup_of c.args.setup) c.requires.setup_value.0).epsilon-most

pub overflow_add-next : goal.overflow_add-next
overflow_add-next c =
    let s = setup_of c.args.setup in
    omega (arith, next_small s c.args.buf.now c.args.at c.frame_end.result (long-limits-from s c.requires.setup_value.0).epsilon-most (λ i. omega (arith, c.shared_slice_known-1.given i)) c.requires.buf_len.0 c.requires.buf_len.1 c.frame_end.ensures)

pub returns-then-buf-next : goal.returns-then-buf-next
returns-then-buf-next c = fitting-past (setup_of c.args.setup) c.args.clock c.args.least c.args.buf.now c.args.at c.frame_end.result c.requires.buf_len.1 c.frame_end.ensures c.if-buf-next.true

pub returns-then-check-ne0 : goal.returns-then-check-ne0
returns-then-check-ne0 c = fitting-refused (setup_of c.args.setup) c.args.clock c.args.least c.args.buf.now c.args.at c.frame_end.result c.requires.buf_len.1 c.frame_end.ensures _ c.check.ensures c.if-check-ne0.true

pub timely-requires : goal.timely-requires
timely-requires c = record { setup_value = c.requires.setup_value; frame_value = given-passes (setup_of c.args.setup) c.args.clock c.args.least c.args.buf.now c.args.at c.frame_end.result c.requires.buf_len.1 c.frame_end.ensures _ c.check.ensures c.if-check-ne0.false }

pub returns-then-not-timely : goal.returns-then-not-timely
returns-then-not-timely c = fitting-untimely (setup_of c.args.setup) c.args.clock c.args.least c.args.buf.now c.args.at c.frame_end.result c.requires.buf_len.1 c.frame_end.ensures (sym c.timely.ensures ∙ false_of_not _ c.if-not-timely.true-raw)

pub returns : goal.returns
returns c = fitting-yes (setup_of c.args.setup) c.args.clock c.args.least c.args.buf.now c.args.at c.frame_end.result c.requires.buf_len.1 c.frame_end.ensures (given-passes (setup_of c.args.setup) c.args.clock c.args.least c.args.buf.now c.args.at c.frame_end.result c.requires.buf_len.1 c.frame_end.ensures _ c.check.ensures c.if-check-ne0.false) (sym c.timely.ensures ∙ true_of_not _ c.if-not-timely.false-raw)
