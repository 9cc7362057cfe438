-- `holdback::soundness::walk_frames` meets its contract. The invariant of the loop: the frames so far are sound, the table of origins has theirs, and the largest entry up to a place of the table of starts is that of the frames so far. The measure is what is left of the count. Assumes nothing.
use Rattle.std.proofs.Common.{◌≡◌, ℕ, ◌+◌, ◌<◌, ◌≤◌, List, length, sym, refl, ap, ◌∙◌, arith}
use Rattle.setup.specs.Views.{setup_of}
use lib.ListN.{length-replicate}
use Rattle.model.specs.Setup.{Setup, depth}
use Rattle.lemmas.proofs.Bounds.{Limits}
use Rattle.model.specs.Frame.{two_at}
use Rattle.lemmas.proofs.Questions.{limits-from}
use Rattle.holdback.specs.declared.soundness.Judged.{Judged}
use Rattle.holdback.specs.Sound.{Walking}
use Rattle.holdback.specs.Starts.{start_unit, start_entries, front}
use Rattle.holdback.proofs.Seen.{seen_none}
use Rattle.holdback.proofs.Started.{used-most, all-front}
use Rattle.holdback.proofs.Walks.{walk-starts, starting-long, table-long, Right, judged-bad, judged-good, walk-fails, walked-no, walked-yes, judged-slot, judged-new, judged-small, judged-place, walk-turns, next_low, ending-starts, ending-turns, ending-ends}
use Rattle.holdback.proofs.soundness.walk_frames.Lts.View as view
use Rattle.holdback.proofs.soundness.walk_frames.Goals.{After-entries_to-k, At-loop-i, Else-next-eq0}
use Rattle.holdback.proofs.soundness.walk_frames.Goals as goal

pub loop-i-init : goal.loop-i-init
loop-i-init c = (walk-starts c.no_key-last.ensures c.requires.recent.1, (ending-starts (limits-from (setup_of c.args.setup) c.requires.setup_value.0) c.requires.recent.1.all-front, omega arith))

pub judge_at-judged-requires : goal.judge_at-judged-requires
judge_at-judged-requires c = record { setup_value = c.requires.setup_value; recent = (c.requires.recent.0, omega (arith, c.loop-i-test.true, c.requires.recent.1.few)); walking = c.loop-i.invariant.0 }

-- the tables of origins and of starts keep their length
module _ (c : At-loop-i) where
  seen_same : length c.loop-i.seen ≡ length c.args.seen.now
  seen_same = table-long c.loop-i.invariant.0 ∙ sym (starting-long c.requires.recent.1)

  starts-same : length c.loop-i.starts ≡ length c.args.starts.now
  starts-same = c.loop-i.invariant.1.0.long ∙ sym (ap length c.requires.recent.1.all-front ∙ length-replicate start_entries front)

pub clear_marks-requires : goal.clear_marks-requires
clear_marks-requires c = table-long c.loop-i.invariant.0

pub fill-requires : goal.fill-requires
fill-requires c = (c.loop-i.invariant.1.0.long, omega arith)

pub shape_of-seen-then-next-eq0 : goal.shape_of-seen-then-next-eq0
shape_of-seen-then-next-eq0 c = omega (arith, seen_same (goal.at.shape_of-seen-then-next-eq0 c).At-loop-i, c.clear_marks.auto.seen)

pub shape_of-starts-then-next-eq0 : goal.shape_of-starts-then-next-eq0
shape_of-starts-then-next-eq0 c = omega (arith, starts-same (goal.at.shape_of-starts-then-next-eq0 c).At-loop-i, c.fill.auto.starts)

pub returns-then-next-eq0 : goal.returns-then-next-eq0
returns-then-next-eq0 c =
    let b = c.args.buf.now in
    let loop = c.loop-i in
    let judged = c.judge_at-judged in
    let l : loop.i < two_at b 0 = omega (arith, c.loop-i-test.true, c.requires.recent.1.count-is) in
    walked-no c.emptied.ensures
    (walk-fails (setup_of c.args.setup) c.args.clock c.args.least b loop.i l
    (judged-bad (setup_of c.args.setup) c.args.clock c.args.least b loop.i judged.result judged.ensures c.if-next-eq0.true))
    (c.clear_marks.ensures ∙ seen_none (setup_of c.args.setup) c.args.clock)
    (all-front loop.starts c.fill.ensures)

-- a frame that is sound, and where it ends
module _ (c : Else-next-eq0) where
  abbrev buffer : List ℕ
  buffer = c.args.buf.now

  abbrev setup : Setup
  setup = setup_of c.args.setup

  abbrev walk : Walking setup c.args.clock c.args.least buffer c.loop-i.seen c.loop-i.i c.loop-i.last c.loop-i.at
  walk = c.loop-i.invariant.0

  abbrev judged : Judged
  judged = c.judge_at-judged.result

  right : Right setup c.args.clock c.args.least buffer c.loop-i.i judged.end judged.key
  right = judged-good setup c.args.clock c.args.least buffer c.loop-i.i judged c.judge_at-judged.ensures c.if-next-eq0.false

pub put_mark-requires : goal.put_mark-requires
put_mark-requires c =
    let limits = limits-from (setup (goal.at.put_mark-requires c).Else-next-eq0) c.requires.setup_value.0 in (
      table-long (walk (goal.at.put_mark-requires c).Else-next-eq0),
      (
        judged-slot (walk (goal.at.put_mark-requires c).Else-next-eq0) (right (goal.at.put_mark-requires c).Else-next-eq0) limits c.requires.setup_value.1.0 c.requires.recent.0,
        judged-new (walk (goal.at.put_mark-requires c).Else-next-eq0) (right (goal.at.put_mark-requires c).Else-next-eq0) limits c.requires.setup_value.1.0 c.requires.recent.0,
      ),
    )

pub entries_to-k-requires : goal.entries_to-k-requires
entries_to-k-requires c = (c.requires.setup_value.0, judged-small (walk (goal.at.entries_to-k-requires c).Else-next-eq0) (right (goal.at.entries_to-k-requires c).Else-next-eq0) (limits-from (setup (goal.at.entries_to-k-requires c).Else-next-eq0) c.requires.setup_value.0))

-- its sum has a place, and its entry room for where it ends
module _ (c : After-entries_to-k) where
  limits : Limits (setup (view.up-Else-next-eq0 _ _ _ _ _ _ c.before.before.before.before.before.before.before))
  limits = limits-from (setup (view.up-Else-next-eq0 _ _ _ _ _ _ c.before.before.before.before.before.before.before)) c.requires.setup_value.0

  few : c.loop-i.i < depth (setup (view.up-Else-next-eq0 _ _ _ _ _ _ c.before.before.before.before.before.before.before)).n (setup (view.up-Else-next-eq0 _ _ _ _ _ _ c.before.before.before.before.before.before.before)).epsilon (setup (view.up-Else-next-eq0 _ _ _ _ _ _ c.before.before.before.before.before.before.before)).delta
  few = omega (arith, c.loop-i-test.true, c.requires.recent.1.few)

  placed : c.entries_to-k.result < start_entries
  placed = omega (arith, c.entries_to-k.ensures, judged-place (walk (view.up-Else-next-eq0 _ _ _ _ _ _ c.before.before.before.before.before.before.before)) (right (view.up-Else-next-eq0 _ _ _ _ _ _ c.before.before.before.before.before.before.before)) limits, used-most (setup (view.up-Else-next-eq0 _ _ _ _ _ _ c.before.before.before.before.before.before.before)) limits)

  low : (c.loop-i.i + 1 ≤ 1792) × ((judged (view.up-Else-next-eq0 _ _ _ _ _ _ c.before.before.before.before.before.before.before)).end < start_unit)
  low = next_low (walk (view.up-Else-next-eq0 _ _ _ _ _ _ c.before.before.before.before.before.before.before)) (right (view.up-Else-next-eq0 _ _ _ _ _ _ c.before.before.before.before.before.before.before)) limits c.requires.setup_value.1.0 c.requires.recent.0 few

pub overflow_add-i : goal.overflow_add-i
overflow_add-i c = omega (arith, low (goal.at.overflow_add-i c).After-entries_to-k)

pub overflow_mul-starts : goal.overflow_mul-starts
overflow_mul-starts c = omega (arith, low (goal.at.overflow_mul-starts c).After-entries_to-k)

pub overflow_add-starts : goal.overflow_add-starts
overflow_add-starts c = omega (arith, low (goal.at.overflow_add-starts c).After-entries_to-k)

pub overflow_cast-starts : goal.overflow_cast-starts
overflow_cast-starts c = omega (arith, low (goal.at.overflow_cast-starts c).After-entries_to-k)

pub offset_bounds-starts-k : goal.offset_bounds-starts-k
offset_bounds-starts-k c = omega (arith, placed (goal.at.offset_bounds-starts-k c).After-entries_to-k)

pub bounds-starts-k : goal.bounds-starts-k
bounds-starts-k c = omega (arith, placed (goal.at.bounds-starts-k c).After-entries_to-k, c.loop-i.invariant.1.0.long)

pub loop-i-smaller : goal.loop-i-smaller
loop-i-smaller c = omega (arith, c.loop-i-test.true)

pub loop-i-preserved : goal.loop-i-preserved
loop-i-preserved c = (
  walk-turns (walk (goal.at.loop-i-preserved c).Else-next-eq0) (right (goal.at.loop-i-preserved c).Else-next-eq0) (limits (goal.at.loop-i-preserved c).After-entries_to-k) c.requires.setup_value.1.0 c.requires.recent.0 _ c.put_mark.ensures,
  (ending-turns (walk (goal.at.loop-i-preserved c).Else-next-eq0) (right (goal.at.loop-i-preserved c).Else-next-eq0) (limits (goal.at.loop-i-preserved c).After-entries_to-k) (few (goal.at.loop-i-preserved c).After-entries_to-k) c.loop-i.invariant.1.0 c.entries_to-k.ensures refl, omega (arith, c.loop-i-test.true)),
)

pub used_entries-requires : goal.used_entries-requires
used_entries-requires c = c.requires.setup_value.0

pub spread-requires : goal.spread-requires
spread-requires c =
    let s = setup_of c.args.setup in
    (c.loop-i.invariant.1.0.long, omega (arith, c.used_entries.ensures, used-most s (limits-from s c.requires.setup_value.0)))

pub shape_of-seen : goal.shape_of-seen
shape_of-seen c = seen_same (goal.at.shape_of-seen c).At-loop-i

pub shape_of-starts : goal.shape_of-starts
shape_of-starts c = omega (arith, starts-same (goal.at.shape_of-starts c).At-loop-i, c.spread.auto.starts)

pub returns : goal.returns
returns c =
    let loop = c.loop-i in
    let left = c.loop-i-test.false in
    walked-yes c.requires.recent.1 loop.invariant.0
    (ending-ends loop.invariant.1.0 c.requires.recent.1.count-is loop.invariant.1.1 left c.used_entries.ensures c.spread.ensures)
    loop.invariant.1.1 left
