-- `widerstamp::stamp::raise_beside` meets its contract: the own counts, raised by those of the others that have a place among them.
-- Assumes nothing.
use native.Mathlib.Omega.{arith}
use Rattle.widerstamp.proofs.Beside.{raised-beside}
use Rattle.widerstamp.proofs.stamp.raise_beside.Goals as goal

pub returns : goal.returns
returns c =
    let a = c.args in
    let up = c.saturating_sub-up in
    let down = c.saturating_sub-down in
    let count = c.min in
    raised-beside a.epsilon a.half a.modulus a.reading up.result down.result count.result a.own a.other.now c.raise.new.own
    c.requires.epsilon_bound.0 c.requires.own_value.0 c.requires.own_value.1 up.ensures down.ensures
    (omega (arith, count.ensures, c.saturating_sub-own_left.ensures, c.saturating_sub-other_left.ensures)) c.raise.ensures
