-- `rehearsal::frames::sent_size` meets its contract. Assumes nothing.
use Prim.Native.Nat.{◌*◌, ◌-◌}
use native.Mathlib.Omega.{arith}
use Rattle.rehearsal.proofs.Slots.{size-here, size-later}
use Rattle.rehearsal.proofs.frames.sent_size.Goals as goal

pub returns-then-steps-number : goal.returns-then-steps-number
returns-then-steps-number c =
    let args = c.args in
    (size-later args.steps args.slots.now args.number c.if-steps-number.true, omega arith)

pub overflow_cast-result : goal.overflow_cast-result
overflow_cast-result c = omega (arith, c.shared_slice_known-1.given (72 * (c.args.number - 1)))

pub returns : goal.returns
returns c = (size-here c.requires c.args.number c.if-number-eq0.false c.if-steps-number.false, omega (arith, c.requires.sizes (c.args.number - 1) (omega arith)))
