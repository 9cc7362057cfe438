-- `longqueue::soundness::all_fit` meets its contract. The invariant of the loop: all frames fit, and end where they do, if those left do. The measure is how many are left. Assumes nothing.
use native.Mathlib.Omega.{arith}
use Rattle.setup.specs.Views.{setup_of}
use Rattle.longqueue.proofs.Extents.{size-two}
use Rattle.longqueue.proofs.Judging.{fitting-starts, fitting-stops, fitting-turns, fitting-ends}
use Rattle.longqueue.proofs.soundness.all_fit.Goals as goal

pub loop-left-init : goal.loop-left-init
loop-left-init c = fitting-starts (setup_of c.args.setup) c.args.clock c.args.least c.args.buf.now c.args.count (omega (arith, c.requires.buf_len, size-two (setup_of c.args.setup)))

pub fitting_end-next-requires : goal.fitting_end-next-requires
fitting_end-next-requires c = record { setup_value = c.requires.setup_value; buf_len = (c.requires.buf_len, c.loop-left.invariant.inside) }

pub returns-then-next-eq0 : goal.returns-then-next-eq0
returns-then-next-eq0 c = fitting-stops c.loop-left.invariant c.loop-left-test.true _ c.fitting_end-next.ensures c.if-next-eq0.true

pub loop-left-preserved : goal.loop-left-preserved
loop-left-preserved c = fitting-turns c.loop-left.invariant c.loop-left-test.true _ c.fitting_end-next.ensures c.if-next-eq0.false

pub returns : goal.returns
returns c = fitting-ends c.loop-left.invariant (omega arith)
