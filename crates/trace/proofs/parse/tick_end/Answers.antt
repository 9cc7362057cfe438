-- `trace::parse::tick_end` meets its contract. The invariant of its loop: where the entries that are left end, the tick ends. Assumes nothing.
use Prim.Native.Nat.{suc, ◌-◌}
use mathlib.Core.Path.{◌≡◌, sym, ◌∙◌}
use Rattle.trace.proofs.Ticks.{entries-start, entries-turn, entries-end}
use native.Mathlib.Omega.{arith}
use Rattle.trace.proofs.parse.tick_end.Goals as goal

pub loop-left-init : goal.loop-left-init
loop-left-init c = (entries-start c.args.s.now c.byte_at.result c.byte_at-left.result c.byte_at.ensures c.byte_at-left.ensures, omega arith)

pub loop-left-preserved : goal.loop-left-preserved
loop-left-preserved c =
    let e : c.loop-left.left ≡ suc (c.loop-left.left - 1) = omega arith in (
      c.loop-left.invariant.0
          ∙ entries-turn c.args.s.now c.loop-left.end c.loop-left.left (c.loop-left.left - 1) c.byte_at-in-loop-left.result e c.byte_at-in-loop-left.ensures,
      omega arith,
    )

pub returns : goal.returns
returns c = (sym (c.loop-left.invariant.0 ∙ entries-end c.args.s.now c.loop-left.end c.loop-left.left (omega arith)), omega arith)
