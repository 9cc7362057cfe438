-- `timestamp::stamp::raise` meets its contract: the loop's invariant: the counts are raised by those of the others that are passed.
-- Assumes nothing.
use Prim.Native.Nat.{◌+◌, max}
use mathlib.Core.Path.{ap, sym, ◌∙◌}
use native.Mathlib.Omega.{arith}
use lib.ListN.{drop, get_or}
use lib.Seq.{get_or-drop}
use Rattle.timestamp.proofs.Readings.{raised-start, raised-next}
use Rattle.timestamp.proofs.stamp.raise.Goals as goal

pub loop-i-init : goal.loop-i-init
loop-i-init c = let a = c.args in raised-start 32 a.to a.own.now (drop a.from a.other.now) c.requires.0

pub loop-i-preserved : goal.loop-i-preserved
loop-i-preserved c =
    let a = c.args in
    let l = c.loop-i in
    raised-next 32 a.to l.i c.max.result a.own.now (drop a.from a.other.now) l.own (omega arith) l.invariant
    (c.max.ensures ∙ ap (max (get_or l.own (a.to + l.i) 0)) (sym (get_or-drop a.from a.other.now l.i 0)))
