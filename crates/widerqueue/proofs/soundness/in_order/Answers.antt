-- `widerqueue::soundness::in_order` meets its contract: the comparison with the frame before it, if there is one. Assumes nothing.
use Prim.Native.Nat.{ℕ, ◌-◌, ◌<◌}
use native.Mathlib.Omega.{arith}
use mathlib.Core.Path.{◌≡◌, sym, ap, ap₂, ◌∙◌}
use mathlib.Core.List.{List}
use lib.ListN.{take, drop}
use Rattle.model.specs.Schedule.{Schedule}
use Rattle.model.specs.Wider.{wider_reading, wider_decode, wider_passes, wider_before}
use Rattle.pairs.specs.Views.{schedule_of}
use Rattle.widerqueue.specs.Sound.{frame_at, Walking}
use Rattle.widerqueue.proofs.Orders.{read_low, before-near}
use Rattle.widerqueue.proofs.Walks.{order-none, last-low, last-bytes, last-passes, order-last, own-low, own-part, own-frame}
use Rattle.widerqueue.proofs.soundness.in_order.Goals.{Else-i-eq0}
use Rattle.widerqueue.proofs.soundness.in_order.Goals as goal

pub returns-then-i-eq0 : goal.returns-then-i-eq0
returns-then-i-eq0 c =
    let g = schedule_of c.args.p in
    order-none g c.args.clock c.args.buf.now c.args.i (frame_at g c.args.buf.now c.args.i) c.if-i-eq0.true

-- there is one before it
module _ (c : Else-i-eq0) where
  abbrev g : Schedule
  g = schedule_of c.args.p

  abbrev b : List ℕ
  b = c.args.buf.now

  abbrev walk : Walking g c.args.clock c.args.least b c.args.seen.now c.args.i c.args.last c.args.at
  walk = c.requires.walking

  some : 0 < c.args.i
  some = omega (arith, c.if-i-eq0.false)

  -- the bytes of both
  abbrev first : List ℕ
  first = take (c.args.at - c.args.last.at) (drop c.args.last.at b)

  abbrev second : List ℕ
  second = take (c.args.next - c.args.at) (drop c.args.at b)

  frame-first : wider_decode g first ≡ frame_at g b (c.args.i - 1)
  frame-first = ap (wider_decode g) (last-bytes walk some)

  frame-second : wider_decode g second ≡ frame_at g b c.args.i
  frame-second = ap (wider_decode g) (own-part walk c.requires.next_value.0) ∙ own-frame walk

  reads_first : c.args.last.reading ≡ wider_reading g c.args.clock (wider_decode g first)
  reads_first = walk.last-reads some ∙ ap (wider_reading g c.args.clock) (sym frame-first)

  reads_second : c.args.reading ≡ wider_reading g c.args.clock (wider_decode g second)
  reads_second = c.requires.reading_value ∙ ap (wider_reading g c.args.clock) (sym frame-second)

pub slice_bounds-comes_before-count : goal.slice_bounds-comes_before-count
slice_bounds-comes_before-count c = last-low (walk (goal.at.slice_bounds-comes_before-count c).Else-i-eq0) (some (goal.at.slice_bounds-comes_before-count c).Else-i-eq0)

pub slice_bounds-comes_before-start : goal.slice_bounds-comes_before-start
slice_bounds-comes_before-start c = omega (arith, last-low (walk (goal.at.slice_bounds-comes_before-start c).Else-i-eq0) (some (goal.at.slice_bounds-comes_before-start c).Else-i-eq0), (walk (goal.at.slice_bounds-comes_before-start c).Else-i-eq0).inside)

pub slice_bounds-comes_before-end : goal.slice_bounds-comes_before-end
slice_bounds-comes_before-end c = omega (arith, last-low (walk (goal.at.slice_bounds-comes_before-end c).Else-i-eq0) (some (goal.at.slice_bounds-comes_before-end c).Else-i-eq0), (walk (goal.at.slice_bounds-comes_before-end c).Else-i-eq0).inside)

pub slice_bounds-comes_before-count-2 : goal.slice_bounds-comes_before-count-2
slice_bounds-comes_before-count-2 c = own-low (walk (goal.at.slice_bounds-comes_before-count-2 c).Else-i-eq0) c.requires.next_value.0

pub slice_bounds-comes_before-start-2 : goal.slice_bounds-comes_before-start-2
slice_bounds-comes_before-start-2 c = omega (arith, own-low (walk (goal.at.slice_bounds-comes_before-start-2 c).Else-i-eq0) c.requires.next_value.0, c.requires.next_value.1.0)

pub slice_bounds-comes_before-end-2 : goal.slice_bounds-comes_before-end-2
slice_bounds-comes_before-end-2 c = omega (arith, own-low (walk (goal.at.slice_bounds-comes_before-end-2 c).Else-i-eq0) c.requires.next_value.0, c.requires.next_value.1.0)

pub comes_before-requires : goal.comes_before-requires
comes_before-requires c = record { paired = (c.requires.paired.0, (read_low (g (goal.at.comes_before-requires c).Else-i-eq0) c.requires.paired.0 c.args.clock _ (reads_first (goal.at.comes_before-requires c).Else-i-eq0), read_low (g (goal.at.comes_before-requires c).Else-i-eq0) c.requires.paired.0 c.args.clock _ (reads_second (goal.at.comes_before-requires c).Else-i-eq0))); f_value = (last-passes (walk (goal.at.comes_before-requires c).Else-i-eq0) (some (goal.at.comes_before-requires c).Else-i-eq0), ap (wider_passes (g (goal.at.comes_before-requires c).Else-i-eq0)) (own-part (walk (goal.at.comes_before-requires c).Else-i-eq0) c.requires.next_value.0) ∙ c.requires.next_value.1.1) }

pub returns : goal.returns
returns c =
    c.comes_before.ensures
    ∙ before-near (g (goal.at.returns c).Else-i-eq0) c.args.clock c.args.last.reading c.args.reading (wider_decode (g (goal.at.returns c).Else-i-eq0) (first (goal.at.returns c).Else-i-eq0)) (wider_decode (g (goal.at.returns c).Else-i-eq0) (second (goal.at.returns c).Else-i-eq0)) (reads_first (goal.at.returns c).Else-i-eq0) (reads_second (goal.at.returns c).Else-i-eq0)
    ∙ ap₂ (wider_before (g (goal.at.returns c).Else-i-eq0) c.args.clock) (frame-first (goal.at.returns c).Else-i-eq0) (frame-second (goal.at.returns c).Else-i-eq0)
    ∙ order-last (walk (goal.at.returns c).Else-i-eq0) (some (goal.at.returns c).Else-i-eq0) (frame_at (g (goal.at.returns c).Else-i-eq0) (b (goal.at.returns c).Else-i-eq0) c.args.i)
