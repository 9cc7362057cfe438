-- `trace::parts::payload_size` meets its contract. Assumes nothing.
use mathlib.Core.Path.{sym, ap, ◌∙◌}
use mathlib.Core.List.{List}
use Prim.Native.Nat.{ℕ}
use lib.ListN.{length}
use Rattle.trace.proofs.Putting.{payload-empty, payload-hex, length-hex}
use native.Mathlib.Omega.{arith}
use Rattle.trace.proofs.parts.payload_size.Goals as goal

pub returns-then-payload-eq0 : goal.returns-then-payload-eq0
returns-then-payload-eq0 c = (sym (ap (λ (l : List ℕ). length l) (payload-empty c.args.payload.now c.if-payload-eq0.true)), omega arith)

pub returns : goal.returns
returns c = (sym (ap (λ (l : List ℕ). length l) (payload-hex c.args.payload.now c.if-payload-eq0.false) ∙ length-hex c.args.payload.now), omega arith)
