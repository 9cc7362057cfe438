-- `widerqueue::soundness::walk_frames` meets its contract. The invariant of the loop: the frames so far are sound, and the table of origins has theirs. The measure is what is left of the count. Assumes nothing.
use Prim.Native.Nat.{ℕ, ◌<◌}
use native.Mathlib.Omega.{arith}
use mathlib.Core.Path.{◌≡◌, sym, ap, ◌∙◌}
use mathlib.Core.List.{List}
use lib.ListN.{length, length-replicate}
use Rattle.model.specs.Frame.{two_at}
use Rattle.model.specs.Schedule.{Schedule}
use Rattle.pairs.specs.Views.{schedule_of}
use Rattle.holdback.specs.Seen.{table_length}
use Rattle.widerqueue.specs.declared.soundness.Judged.{Judged}
use Rattle.widerqueue.specs.Sound.{Walking}
use Rattle.widerqueue.proofs.Walks.{Right, judged-bad, judged-good, walk-starts, walk-turns, table-long, judged-slot, judged-new, walk-fails, walked-no, walked-yes}
use Rattle.widerqueue.proofs.soundness.walk_frames.Goals.{At-loop-i, Else-next-eq0}
use Rattle.widerqueue.proofs.soundness.walk_frames.Goals as goal

pub loop-i-init : goal.loop-i-init
loop-i-init c = (walk-starts c.requires.in_bounds.0 c.requires.seen_value, omega arith)

pub judge_at-judged-requires : goal.judge_at-judged-requires
judge_at-judged-requires c = record { paired = c.requires.paired; walking = c.loop-i.invariant.0 }

-- the table of origins keeps its length
seen_same : (c : At-loop-i) → length c.loop-i.seen ≡ length c.args.seen.now
seen_same c = table-long c.loop-i.invariant.0 ∙ sym (ap length c.requires.seen_value ∙ length-replicate {A = ℕ} table_length 0)

pub clear_marks-requires : goal.clear_marks-requires
clear_marks-requires c = table-long c.loop-i.invariant.0

pub shape_of-seen-then-next-eq0 : goal.shape_of-seen-then-next-eq0
shape_of-seen-then-next-eq0 c = omega (arith, seen_same (goal.at.shape_of-seen-then-next-eq0 c).At-loop-i, c.clear_marks.auto.seen)

pub returns-then-next-eq0 : goal.returns-then-next-eq0
returns-then-next-eq0 c =
    let g = schedule_of c.args.p in
    let b = c.args.buf.now in
    let more : c.loop-i.i < two_at b 0 = omega (arith, c.loop-i-test.true, c.requires.in_bounds.1.0) in
    walked-no c.emptied.ensures
    (walk-fails g c.args.clock c.args.least b c.loop-i.i more
    (judged-bad g c.args.clock c.args.least b c.loop-i.i c.judge_at-judged.result c.judge_at-judged.ensures c.if-next-eq0.true))
    c.clear_marks.ensures

-- a frame that is sound
module _ (c : Else-next-eq0) where
  abbrev g : Schedule
  g = schedule_of c.args.p

  abbrev b : List ℕ
  b = c.args.buf.now

  abbrev judged : Judged
  judged = c.judge_at-judged.result

  abbrev walk : Walking g c.args.clock c.args.least b c.loop-i.seen c.loop-i.i c.loop-i.last c.loop-i.at
  walk = c.loop-i.invariant.0

  right : Right g c.args.clock c.args.least b c.loop-i.i judged
  right = judged-good g c.args.clock c.args.least b c.loop-i.i judged c.judge_at-judged.ensures c.if-next-eq0.false

pub put_mark-requires : goal.put_mark-requires
put_mark-requires c = (
  table-long (walk (goal.at.put_mark-requires c).Else-next-eq0),
  (
    judged-slot (walk (goal.at.put_mark-requires c).Else-next-eq0) c.requires.paired.0 c.requires.paired.1.0 c.requires.paired.1.1 (right (goal.at.put_mark-requires c).Else-next-eq0),
    judged-new (walk (goal.at.put_mark-requires c).Else-next-eq0) c.requires.paired.0 c.requires.paired.1.0 c.requires.paired.1.1 (right (goal.at.put_mark-requires c).Else-next-eq0),
  ),
)

pub overflow_add-i : goal.overflow_add-i
overflow_add-i c = omega (arith, c.loop-i-test.true)

pub loop-i-smaller : goal.loop-i-smaller
loop-i-smaller c = omega (arith, c.loop-i-test.true)

pub loop-i-preserved : goal.loop-i-preserved
loop-i-preserved c = (
  walk-turns (walk (goal.at.loop-i-preserved c).Else-next-eq0) c.requires.paired.0 c.requires.paired.1.0 c.requires.paired.1.1 (right (goal.at.loop-i-preserved c).Else-next-eq0) _ c.put_mark.ensures,
  omega (arith, c.loop-i-test.true),
)

pub shape_of-seen : goal.shape_of-seen
shape_of-seen c = seen_same (goal.at.shape_of-seen c).At-loop-i

pub returns : goal.returns
returns c =
    walked-yes c.loop-i.invariant.0 (λ i. omega (arith, c.shared_slice_known-1.given i)) c.requires.in_bounds.0 c.requires.in_bounds.1.0 c.requires.in_bounds.1.1
    (omega (arith, c.loop-i.invariant.1, c.loop-i-test.false))
