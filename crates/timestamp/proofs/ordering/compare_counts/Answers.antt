-- `timestamp::ordering::compare_counts` meets its contract: the loop's invariant: all the counts compare as those from place k on.
-- Assumes nothing.
use Prim.Native.Nat.{◌≤◌, ◌<◌}
use mathlib.Core.Path.{◌≡◌, sym, ◌∙◌}
use native.Mathlib.Omega.{arith}
use Rattle.timestamp.proofs.Ordered.{rows_none, rows-first, rows-second, rows_next}
use Rattle.timestamp.proofs.ordering.compare_counts.Goals as goal

pub loop-k-preserved : goal.loop-k-preserved
loop-k-preserved g c = (
  omega arith,
  λ a b fa gb.
      let x : c.count_f-x.result ≡ a c.loop-k.k = fa c.loop-k.k c.count_f-x.result c.if-most-k.false c.count_f-x.ensures in
      let y : c.count_g-y.result ≡ b c.loop-k.k = gb c.loop-k.k c.count_g-y.result c.if-most-k.false c.count_g-y.ensures in
      let le : b c.loop-k.k ≤ a c.loop-k.k = omega (arith, c.if-x-y.false) in
      let ge : a c.loop-k.k ≤ b c.loop-k.k = omega (arith, c.if-y-x.false) in
      c.loop-k.invariant.1 a b fa gb ∙ rows_next c.args.most a b c.loop-k.k c.if-most-k.false le ge,
)

pub returns-then-most-k : goal.returns-then-most-k
returns-then-most-k g c = λ a b fa gb. sym (c.loop-k.invariant.1 a b fa gb ∙ rows_none c.args.most a b c.loop-k.k c.if-most-k.true)

pub returns-then-x-y : goal.returns-then-x-y
returns-then-x-y g c =
    λ a b fa gb.
    let x : c.count_f-x.result ≡ a c.loop-k.k = fa c.loop-k.k c.count_f-x.result c.if-most-k.false c.count_f-x.ensures in
    let y : c.count_g-y.result ≡ b c.loop-k.k = gb c.loop-k.k c.count_g-y.result c.if-most-k.false c.count_g-y.ensures in
    let less : a c.loop-k.k < b c.loop-k.k = omega (arith, c.if-x-y.true) in
    sym (c.loop-k.invariant.1 a b fa gb ∙ rows-first c.args.most a b c.loop-k.k c.if-most-k.false less)

pub returns-then-y-x : goal.returns-then-y-x
returns-then-y-x g c =
    λ a b fa gb.
    let x : c.count_f-x.result ≡ a c.loop-k.k = fa c.loop-k.k c.count_f-x.result c.if-most-k.false c.count_f-x.ensures in
    let y : c.count_g-y.result ≡ b c.loop-k.k = gb c.loop-k.k c.count_g-y.result c.if-most-k.false c.count_g-y.ensures in
    let less : b c.loop-k.k < a c.loop-k.k = omega (arith, c.if-y-x.true) in
    sym (c.loop-k.invariant.1 a b fa gb ∙ rows-second c.args.most a b c.loop-k.k c.if-most-k.false less)
