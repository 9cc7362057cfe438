-- `widerqueue::soundness::judge_at` meets its contract: each test that fails makes the frame unsound, and all together make it sound. Assumes nothing.
use Prim.Native.Nat.{ℕ, ◌+◌, ◌-◌, ◌≤◌, ◌^◌}
use native.Mathlib.Numerals.{add-one}
use native.Mathlib.Omega.{arith}
use mathlib.Core.Path.{◌≡◌, sym, ap, ap₂, ◌∙◌}
use mathlib.Core.Bool.{true}
use mathlib.Core.List.{List}
use lib.ListN.{length, take, drop}
use borrow.Author.Tests.{eq-eqb, ne_eqb}
use Rattle.laws.specs.Lists.{any}
use Rattle.laws.proofs.Numbers.{false_of_not, true_of_not}
use Rattle.model.specs.Setup.{Setup}
use Rattle.model.specs.Holdback.{same_origin}
use Rattle.model.specs.Schedule.{Schedule, own_limits}
use Rattle.model.specs.Wider.{wider_reading, wider_decode, wider_passes}
use Rattle.setup.specs.Views.{setup_of}
use Rattle.pairs.specs.Views.{schedule_of}
use Rattle.lemmas.proofs.FrameWalk.{lent}
use Rattle.timestamp.specs.declared.ordering.Rank.{Rank}
use Rattle.holdback.specs.Queue.{rank_at, rank_of}
use Rattle.holdback.specs.Seen.{slot_of}
use Rattle.holdback.proofs.Frames.{bytes_take, bytes_drop}
use Rattle.widerqueue.specs.Sound.{fits, bytes_from, frames_to, frame_at, start_of, Walking}
use Rattle.widerqueue.proofs.Shared.{own-in-limits, reading-same, rank-at-same}
use Rattle.widerqueue.proofs.Orders.{read-asks}
use Rattle.widerqueue.proofs.Times.{sum-small, timely-fits}
use Rattle.widerqueue.proofs.Walks.{end-small, passes-by, own-bytes, own-next, past-passes, unpassed-sound, unfit-sound, unordered-sound, repeated-sound, all_sound, judged-no, judged-yes, table-long, own-within, own-slot, seen-own}
use Rattle.widerqueue.proofs.soundness.judge_at.Lts.View as view
use Rattle.widerqueue.proofs.soundness.judge_at.Goals.{After-check, After-has_mark, After-rank_at-rank, After-timely, Else-check-ne0, Else-not-timely, Start}
use Rattle.widerqueue.proofs.soundness.judge_at.Goals as goal

module _ (c : Start) where
  abbrev g : Schedule
  g = schedule_of c.args.p

  abbrev b : List ℕ
  b = c.args.buf.now

  abbrev v : ℕ
  v = c.args.clock

  abbrev walk : Walking g v c.args.least b c.args.seen.now c.args.i c.args.last c.args.at
  walk = c.requires.walking

  -- the bytes of the frame
  abbrev own : List ℕ
  own = bytes_from g b (start_of g b c.args.i)

pub slice_bounds-frame_end-count : goal.slice_bounds-frame_end-count
slice_bounds-frame_end-count c = (walk (goal.at.slice_bounds-frame_end-count c).Start).inside

pub slice_bounds-frame_end-start : goal.slice_bounds-frame_end-start
slice_bounds-frame_end-start c = omega (arith, (walk (goal.at.slice_bounds-frame_end-start c).Start).inside)

pub frame_end-requires : goal.frame_end-requires
frame_end-requires c = c.requires.paired.0

pub overflow_add-next : goal.overflow_add-next
overflow_add-next c =
    let at = c.args.at in
    let small = end-small (g (goal.at.overflow_add-next c).Start) c.requires.paired.0 (lent (b (goal.at.overflow_add-next c).Start) at) (bytes_take (length (b (goal.at.overflow_add-next c).Start) - at) (drop at (b (goal.at.overflow_add-next c).Start)) (bytes_drop at (b (goal.at.overflow_add-next c).Start) (λ i. omega (arith, c.shared_slice_known-1.given i)))) in
    omega (arith, (walk (goal.at.overflow_add-next c).Start).inside, c.frame_end.ensures)

pub returns-then-buf-next : goal.returns-then-buf-next
returns-then-buf-next c =
    c.unsound.ensures
    ∙ judged-no (g (goal.at.returns-then-buf-next c).Start) (v (goal.at.returns-then-buf-next c).Start) c.args.least (b (goal.at.returns-then-buf-next c).Start) c.args.i
    (unpassed-sound (g (goal.at.returns-then-buf-next c).Start) (v (goal.at.returns-then-buf-next c).Start) c.args.least (frames_to (g (goal.at.returns-then-buf-next c).Start) (b (goal.at.returns-then-buf-next c).Start) c.args.i) (own (goal.at.returns-then-buf-next c).Start) (past-passes (walk (goal.at.returns-then-buf-next c).Start) c.frame_end.ensures c.if-buf-next.true))

pub slice_bounds-check-count : goal.slice_bounds-check-count
slice_bounds-check-count c = omega arith

pub slice_bounds-check-start : goal.slice_bounds-check-start
slice_bounds-check-start c = omega arith

pub slice_bounds-check-end : goal.slice_bounds-check-end
slice_bounds-check-end c = omega (arith, c.if-buf-next.false)

pub check-requires : goal.check-requires
check-requires c = c.requires.paired.0

-- what 10 to 12 say of it
module _ (c : After-check) where
  abbrev part : List ℕ
  part = take (c.args.at + c.frame_end.result - c.args.at) (drop c.args.at (b c.before.before.before.before.before.before.before.before))

  part-is : part ≡ own c.before.before.before.before.before.before.before.before
  part-is = own-bytes (walk c.before.before.before.before.before.before.before.before) c.frame_end.ensures

pub returns-then-check-ne0 : goal.returns-then-check-ne0
returns-then-check-ne0 c =
    c.unsound-then-check-ne0.ensures
    ∙ judged-no (g (goal.at.returns-then-check-ne0 c).Start) (v (goal.at.returns-then-check-ne0 c).Start) c.args.least (b (goal.at.returns-then-check-ne0 c).Start) c.args.i
    (unpassed-sound (g (goal.at.returns-then-check-ne0 c).Start) (v (goal.at.returns-then-check-ne0 c).Start) c.args.least (frames_to (g (goal.at.returns-then-check-ne0 c).Start) (b (goal.at.returns-then-check-ne0 c).Start) c.args.i) (own (goal.at.returns-then-check-ne0 c).Start)
    (sym (ap (wider_passes (g (goal.at.returns-then-check-ne0 c).Start)) (part-is (goal.at.returns-then-check-ne0 c).After-check)) ∙ sym (passes-by (g (goal.at.returns-then-check-ne0 c).Start) (part (goal.at.returns-then-check-ne0 c).After-check) c.check.result c.check.ensures) ∙ ne_eqb c.check.result 0 c.if-check-ne0.true))

-- a frame that passes 10 to 12
module _ (c : Else-check-ne0) where
  passed-part : wider_passes (g c.before.before.before.before.before.before.before.before.before) (part (view.up-After-check _ _ _ _ c.before.before)) ≡ true
  passed-part = sym (passes-by (g c.before.before.before.before.before.before.before.before.before) (part (view.up-After-check _ _ _ _ c.before.before)) c.check.result c.check.ensures) ∙ eq-eqb c.check.result 0 c.if-check-ne0.false

  passed : wider_passes (g c.before.before.before.before.before.before.before.before.before) (own c.before.before.before.before.before.before.before.before.before) ≡ true
  passed = sym (ap (wider_passes (g c.before.before.before.before.before.before.before.before.before)) (part-is (view.up-After-check _ _ _ _ c.before.before))) ∙ passed-part

pub slice_bounds-reading_of-count : goal.slice_bounds-reading_of-count
slice_bounds-reading_of-count c = omega arith

pub slice_bounds-reading_of-start : goal.slice_bounds-reading_of-start
slice_bounds-reading_of-start c = omega arith

pub slice_bounds-reading_of-end : goal.slice_bounds-reading_of-end
slice_bounds-reading_of-end c = omega (arith, c.if-buf-next.false)

pub reading_of-reading-requires : goal.reading_of-reading-requires
reading_of-reading-requires c = let t = read-asks (g (goal.at.reading_of-reading-requires c).Start) c.requires.paired.0 (setup_of c.own_limits-own.result) c.own_limits-own.ensures (v (goal.at.reading_of-reading-requires c).Start) (part (goal.at.reading_of-reading-requires c).After-check) c.requires.paired.1.0 (passed-part (goal.at.reading_of-reading-requires c).Else-check-ne0) in record { setup_value = t.0; frame_bound = t.1 }

pub slice_bounds-rank_at-count : goal.slice_bounds-rank_at-count
slice_bounds-rank_at-count c = omega arith

pub slice_bounds-rank_at-start : goal.slice_bounds-rank_at-start
slice_bounds-rank_at-start c = omega arith

pub slice_bounds-rank_at-end : goal.slice_bounds-rank_at-end
slice_bounds-rank_at-end c = omega (arith, c.if-buf-next.false)

-- its reading and its rank
module _ (c : After-rank_at-rank) where
  abbrev reading : ℕ
  reading = c.reading_of-reading.result

  abbrev rank : Rank
  rank = c.rank_at-rank.result

  abbrev limits : Setup
  limits = setup_of c.own_limits-own.result

  limits-are : limits ≡ own_limits (g c.before.before.before.before.before.before.before.before.before.before.before.before.before.before)
  limits-are = c.own_limits-own.ensures

  read : reading ≡ wider_reading (g c.before.before.before.before.before.before.before.before.before.before.before.before.before.before) (v c.before.before.before.before.before.before.before.before.before.before.before.before.before.before) (frame_at (g c.before.before.before.before.before.before.before.before.before.before.before.before.before.before) (b c.before.before.before.before.before.before.before.before.before.before.before.before.before.before) c.args.i)
  read =
      c.reading_of-reading.ensures
      ∙ reading-same (g c.before.before.before.before.before.before.before.before.before.before.before.before.before.before) limits limits-are (v c.before.before.before.before.before.before.before.before.before.before.before.before.before.before) (part (view.up-After-check _ _ _ _ c.before.before.before.before.before.before.before))
      ∙ ap (λ (l : List ℕ). wider_reading (g c.before.before.before.before.before.before.before.before.before.before.before.before.before.before) (v c.before.before.before.before.before.before.before.before.before.before.before.before.before.before) (wider_decode (g c.before.before.before.before.before.before.before.before.before.before.before.before.before.before) l)) (part-is (view.up-After-check _ _ _ _ c.before.before.before.before.before.before.before))

  rank_is : rank ≡ rank_of (own_limits (g c.before.before.before.before.before.before.before.before.before.before.before.before.before.before)) (v c.before.before.before.before.before.before.before.before.before.before.before.before.before.before) (frame_at (g c.before.before.before.before.before.before.before.before.before.before.before.before.before.before) (b c.before.before.before.before.before.before.before.before.before.before.before.before.before.before) c.args.i)
  rank_is =
      c.rank_at-rank.ensures 0
      ∙ rank-at-same (g c.before.before.before.before.before.before.before.before.before.before.before.before.before.before) 0 reading (part (view.up-After-check _ _ _ _ c.before.before.before.before.before.before.before))
      ∙ ap₂ (λ (n : ℕ) (l : List ℕ). rank_at n (wider_decode (g c.before.before.before.before.before.before.before.before.before.before.before.before.before.before) l)) read (part-is (view.up-After-check _ _ _ _ c.before.before.before.before.before.before.before))

  lead : rank.c ≡ (frame_at (g c.before.before.before.before.before.before.before.before.before.before.before.before.before.before) (b c.before.before.before.before.before.before.before.before.before.before.before.before.before.before) c.args.i).stamp.c
  lead = ap (λ (q : Rank). q.c) rank_is

  small : reading + rank.c ≤ 2 ^ 17 + 16
  small = sum-small (g c.before.before.before.before.before.before.before.before.before.before.before.before.before.before) c.requires.paired.0 (v c.before.before.before.before.before.before.before.before.before.before.before.before.before.before) (own c.before.before.before.before.before.before.before.before.before.before.before.before.before.before) reading rank.c (passed (view.up-Else-check-ne0 _ _ _ _ c.before.before.before.before.before.before)) read lead

pub overflow_add-reading : goal.overflow_add-reading
overflow_add-reading c = omega (arith, small (goal.at.overflow_add-reading c).After-rank_at-rank)

pub timely-requires : goal.timely-requires
timely-requires c = (c.requires.paired.0, omega (arith, small (goal.at.timely-requires c).After-rank_at-rank))

-- its times
module _ (c : After-timely) where
  fits-is : c.timely.result ≡ fits (g c.before.before.before.before.before.before.before.before.before.before.before.before.before.before.before.before) (v c.before.before.before.before.before.before.before.before.before.before.before.before.before.before.before.before) c.args.least (own c.before.before.before.before.before.before.before.before.before.before.before.before.before.before.before.before)
  fits-is =
      c.timely.ensures
      ∙ timely-fits (g c.before.before.before.before.before.before.before.before.before.before.before.before.before.before.before.before) c.requires.paired.0 (v c.before.before.before.before.before.before.before.before.before.before.before.before.before.before.before.before) c.args.least (own c.before.before.before.before.before.before.before.before.before.before.before.before.before.before.before.before) (reading (view.up-After-rank_at-rank _ _ _ _ c.before.before.before) + (rank (view.up-After-rank_at-rank _ _ _ _ c.before.before.before)).c) (passed (view.up-Else-check-ne0 _ _ _ _ c.before.before.before.before.before.before.before.before)) (ap₂ ◌+◌ (read (view.up-After-rank_at-rank _ _ _ _ c.before.before.before)) (lead (view.up-After-rank_at-rank _ _ _ _ c.before.before.before)))

pub returns-then-not-timely : goal.returns-then-not-timely
returns-then-not-timely c =
    c.unsound-then-not-timely.ensures
    ∙ judged-no (g (goal.at.returns-then-not-timely c).Start) (v (goal.at.returns-then-not-timely c).Start) c.args.least (b (goal.at.returns-then-not-timely c).Start) c.args.i
    (unfit-sound (g (goal.at.returns-then-not-timely c).Start) (v (goal.at.returns-then-not-timely c).Start) c.args.least (frames_to (g (goal.at.returns-then-not-timely c).Start) (b (goal.at.returns-then-not-timely c).Start) c.args.i) (own (goal.at.returns-then-not-timely c).Start) (sym (fits-is (goal.at.returns-then-not-timely c).After-timely) ∙ false_of_not c.timely.result c.if-not-timely.true-raw))

-- it fits
module _ (c : Else-not-timely) where
  fit : fits (g c.before.before.before.before.before.before.before.before.before.before.before.before.before.before.before.before.before) (v c.before.before.before.before.before.before.before.before.before.before.before.before.before.before.before.before.before) c.args.least (own c.before.before.before.before.before.before.before.before.before.before.before.before.before.before.before.before.before) ≡ true
  fit = sym (fits-is (view.up-After-timely _ _ _ _ c.before.before)) ∙ true_of_not c.timely.result c.if-not-timely.false-raw

pub in_order-requires : goal.in_order-requires
in_order-requires c =
    record {
      paired = (c.requires.paired.0, c.requires.paired.1.0);
      walking = walk (goal.at.in_order-requires c).Start;
      next_value = (
        own-next (walk (goal.at.in_order-requires c).Start) c.frame_end.ensures ∙ ap (start_of (g (goal.at.in_order-requires c).Start) (b (goal.at.in_order-requires c).Start)) (sym (add-one c.args.i)),
        (omega (arith, c.if-buf-next.false), ap (λ (n : ℕ). wider_passes (g (goal.at.in_order-requires c).Start) (bytes_from (g (goal.at.in_order-requires c).Start) (b (goal.at.in_order-requires c).Start) n)) (walk (goal.at.in_order-requires c).Start).starts ∙ passed (goal.at.in_order-requires c).Else-check-ne0),
      );
      reading_value = read (goal.at.in_order-requires c).After-rank_at-rank;
    }

pub returns-then-not-in_order : goal.returns-then-not-in_order
returns-then-not-in_order c =
    c.unsound-then-not-in_order.ensures
    ∙ judged-no (g (goal.at.returns-then-not-in_order c).Start) (v (goal.at.returns-then-not-in_order c).Start) c.args.least (b (goal.at.returns-then-not-in_order c).Start) c.args.i
    (unordered-sound (g (goal.at.returns-then-not-in_order c).Start) (v (goal.at.returns-then-not-in_order c).Start) c.args.least (frames_to (g (goal.at.returns-then-not-in_order c).Start) (b (goal.at.returns-then-not-in_order c).Start) c.args.i) (own (goal.at.returns-then-not-in_order c).Start) (sym c.in_order.ensures ∙ false_of_not c.in_order.result c.if-not-in_order.true-raw))

pub slot-slot-requires : goal.slot-slot-requires
slot-slot-requires c = (
  own-in-limits (g (goal.at.slot-slot-requires c).Start) (limits (goal.at.slot-slot-requires c).After-rank_at-rank) (limits-are (goal.at.slot-slot-requires c).After-rank_at-rank) c.requires.paired.0,
  own-within (walk (goal.at.slot-slot-requires c).Start) c.requires.paired.0 c.requires.paired.1.0 c.requires.paired.1.1 (fit (goal.at.slot-slot-requires c).Else-not-timely) (limits (goal.at.slot-slot-requires c).After-rank_at-rank) (limits-are (goal.at.slot-slot-requires c).After-rank_at-rank) (rank (goal.at.slot-slot-requires c).After-rank_at-rank) (rank_is (goal.at.slot-slot-requires c).After-rank_at-rank),
)

pub has_mark-requires : goal.has_mark-requires
has_mark-requires c = (table-long (walk (goal.at.has_mark-requires c).Start), c.slot-slot.ensures.1)

-- its place in the table of origins
module _ (c : After-has_mark) where
  slot_is : c.slot-slot.result ≡ slot_of (own_limits (g c.before.before.before.before.before.before.before.before.before.before.before.before.before.before.before.before.before.before.before.before.before)) (v c.before.before.before.before.before.before.before.before.before.before.before.before.before.before.before.before.before.before.before.before.before) (frame_at (g c.before.before.before.before.before.before.before.before.before.before.before.before.before.before.before.before.before.before.before.before.before) (b c.before.before.before.before.before.before.before.before.before.before.before.before.before.before.before.before.before.before.before.before.before) c.args.i)
  slot_is = c.slot-slot.ensures.0 ∙ own-slot (g c.before.before.before.before.before.before.before.before.before.before.before.before.before.before.before.before.before.before.before.before.before) (v c.before.before.before.before.before.before.before.before.before.before.before.before.before.before.before.before.before.before.before.before.before) (frame_at (g c.before.before.before.before.before.before.before.before.before.before.before.before.before.before.before.before.before.before.before.before.before) (b c.before.before.before.before.before.before.before.before.before.before.before.before.before.before.before.before.before.before.before.before.before) c.args.i) (limits (view.up-After-rank_at-rank _ _ _ _ c.before.before.before.before.before.before.before.before)) (limits-are (view.up-After-rank_at-rank _ _ _ _ c.before.before.before.before.before.before.before.before)) (rank (view.up-After-rank_at-rank _ _ _ _ c.before.before.before.before.before.before.before.before)) (rank_is (view.up-After-rank_at-rank _ _ _ _ c.before.before.before.before.before.before.before.before))

  seen-is : c.has_mark.result ≡ any (same_origin (frame_at (g c.before.before.before.before.before.before.before.before.before.before.before.before.before.before.before.before.before.before.before.before.before) (b c.before.before.before.before.before.before.before.before.before.before.before.before.before.before.before.before.before.before.before.before.before) c.args.i)) (frames_to (g c.before.before.before.before.before.before.before.before.before.before.before.before.before.before.before.before.before.before.before.before.before) (b c.before.before.before.before.before.before.before.before.before.before.before.before.before.before.before.before.before.before.before.before.before) c.args.i)
  seen-is = c.has_mark.ensures ∙ seen-own (walk c.before.before.before.before.before.before.before.before.before.before.before.before.before.before.before.before.before.before.before.before.before) c.requires.paired.0 c.requires.paired.1.0 c.requires.paired.1.1 (fit (view.up-Else-not-timely _ _ _ _ c.before.before.before.before.before)) slot_is

pub returns-then-has_mark : goal.returns-then-has_mark
returns-then-has_mark c =
    c.unsound-then-has_mark.ensures
    ∙ judged-no (g (goal.at.returns-then-has_mark c).Start) (v (goal.at.returns-then-has_mark c).Start) c.args.least (b (goal.at.returns-then-has_mark c).Start) c.args.i
    (repeated-sound (g (goal.at.returns-then-has_mark c).Start) (v (goal.at.returns-then-has_mark c).Start) c.args.least (frames_to (g (goal.at.returns-then-has_mark c).Start) (b (goal.at.returns-then-has_mark c).Start) c.args.i) (own (goal.at.returns-then-has_mark c).Start) (sym (seen-is (goal.at.returns-then-has_mark c).After-has_mark) ∙ c.if-has_mark.true))

pub returns : goal.returns
returns c =
    judged-yes (g (goal.at.returns c).Start) (v (goal.at.returns c).Start) c.args.least (b (goal.at.returns c).Start) c.args.i
    (all_sound (g (goal.at.returns c).Start) (v (goal.at.returns c).Start) c.args.least (frames_to (g (goal.at.returns c).Start) (b (goal.at.returns c).Start) c.args.i) (own (goal.at.returns c).Start) (fit (goal.at.returns c).Else-not-timely)
    (sym c.in_order.ensures ∙ true_of_not c.in_order.result c.if-not-in_order.false-raw) (sym (seen-is (goal.at.returns c).After-has_mark) ∙ c.if-has_mark.false))
    (own-next (walk (goal.at.returns c).Start) c.frame_end.ensures) (read (goal.at.returns c).After-rank_at-rank) (slot_is (goal.at.returns c).After-has_mark)
