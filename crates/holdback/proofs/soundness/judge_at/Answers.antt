-- `holdback::soundness::judge_at` meets its contract: each test that fails makes the frame unsound, and all together make it sound. Assumes nothing.
use Rattle.std.proofs.Common.{◌≡◌, ℕ, ◌-◌, ◌^◌, ◌<◌, ◌≤◌, true, List, length, drop, ◌∙◌, arith}
use Rattle.model.specs.Setup.{Setup, width}
use Rattle.model.specs.Frame.{frame_end, payload_count_at}
use Rattle.model.specs.Holdback.{passes}
use Rattle.setup.specs.Views.{setup_of}
use Rattle.lemmas.proofs.Bounds.{Limits}
use Rattle.lemmas.proofs.Questions.{limits-from}
use Rattle.timestamp.specs.declared.ordering.Rank.{Rank}
use Rattle.holdback.specs.declared.keys.Key.{Key}
use Rattle.holdback.specs.Queue.{bytes_at}
use Rattle.holdback.specs.Sound.{fits, Walking}
use Rattle.holdback.proofs.RoundTrip.{Bytes}
use Rattle.lemmas.proofs.FrameWalk.{lent}
use Rattle.holdback.proofs.Frames.{end-small, bytes_take, bytes_drop}
use Rattle.holdback.proofs.Walks.{room-there, lent-room, judged-failed, passes-there, next-inside, part-below, rank-small, judged-untimely, fit_of, own-within, slot-low, key-roomy, judged-unordered, table-long, judged-repeated, judged-sound}
use Rattle.holdback.proofs.soundness.judge_at.Lts.View as view
use Rattle.holdback.proofs.soundness.judge_at.Goals.{After-key_of-key, After-rank_of-rank, After-window_end, Else-check_window-ne0, Else-not-timely, Start}
use Rattle.holdback.proofs.soundness.judge_at.Goals as goal

module _ (c : Start) where
  abbrev setup : Setup
  setup = setup_of c.args.setup

  abbrev buffer : List ℕ
  buffer = c.args.buf.now

  abbrev walk : Walking setup c.args.clock c.args.least buffer c.args.seen.now c.args.i c.args.last c.args.at
  walk = c.requires.walking

  limits : Limits setup
  limits = limits-from setup c.requires.setup_value.0

  room : c.args.at ≤ length buffer
  room = omega (arith, room-there walk c.requires.recent.1)

pub slice_bounds-window_end-count : goal.slice_bounds-window_end-count
slice_bounds-window_end-count c = room (goal.at.slice_bounds-window_end-count c).Start

pub slice_bounds-window_end-start : goal.slice_bounds-window_end-start
slice_bounds-window_end-start c = let h = room (goal.at.slice_bounds-window_end-start c).Start in omega arith

pub window_end-requires : goal.window_end-requires
window_end-requires c = ((limits (goal.at.window_end-requires c).Start).epsilon-most, lent-room (walk (goal.at.window_end-requires c).Start) c.requires.recent.1)

-- where it ends, if it is a frame
module _ (c : After-window_end) where
  abbrev size : ℕ
  size = c.window_end.result

  abbrev ends : size ≡ frame_end (setup c.before.before.before.before.before.before.before).epsilon (lent (buffer c.before.before.before.before.before.before.before) c.args.at)
  ends = c.window_end.ensures

pub overflow_add-next : goal.overflow_add-next
overflow_add-next c =
    let at = c.args.at in
    let small = end-small c.args.setup.epsilon (lent (buffer (goal.at.overflow_add-next c).Start) at) (limits (goal.at.overflow_add-next c).Start).epsilon-most (bytes_take (length (buffer (goal.at.overflow_add-next c).Start) - at) (drop at (buffer (goal.at.overflow_add-next c).Start)) (bytes_drop at (buffer (goal.at.overflow_add-next c).Start) (λ i. omega (arith, c.shared_slice_known-2-1.given i)))) in
    omega (arith, room (goal.at.overflow_add-next c).Start, c.window_end.ensures)

pub slice_bounds-check_window-count : goal.slice_bounds-check_window-count
slice_bounds-check_window-count c = room (goal.at.slice_bounds-check_window-count c).Start

pub slice_bounds-check_window-start : goal.slice_bounds-check_window-start
slice_bounds-check_window-start c = let h = room (goal.at.slice_bounds-check_window-start c).Start in omega arith

pub check_window-requires : goal.check_window-requires
check_window-requires c = record { setup_value = (c.requires.setup_value.0, c.requires.setup_value.1.1); epsilon_in_bounds = lent-room (walk (goal.at.check_window-requires c).Start) c.requires.recent.1 }

pub returns-then-check_window-ne0 : goal.returns-then-check_window-ne0
returns-then-check_window-ne0 c =
    let asked = c.check_window in
    c.unsound.ensures ∙ judged-failed (walk (goal.at.returns-then-check_window-ne0 c).Start) asked.result asked.ensures c.if-check_window-ne0.true

-- a frame that passes 10 to 12
module _ (c : Else-check_window-ne0) where
  passed : passes (setup c.before.before.before.before.before.before.before.before.before.before) (bytes_at (setup c.before.before.before.before.before.before.before.before.before.before).epsilon (buffer c.before.before.before.before.before.before.before.before.before.before) c.args.i) ≡ true
  passed = let asked = c.check_window in passes-there (walk c.before.before.before.before.before.before.before.before.before.before) asked.result asked.ensures c.if-check_window-ne0.false

pub slice_bounds-rank_of-end : goal.slice_bounds-rank_of-end
slice_bounds-rank_of-end c = let h = next-inside (walk (goal.at.slice_bounds-rank_of-end c).Start) (passed (goal.at.slice_bounds-rank_of-end c).Else-check_window-ne0) (size (goal.at.slice_bounds-rank_of-end c).After-window_end) (ends (goal.at.slice_bounds-rank_of-end c).After-window_end) in omega arith

pub rank_of-rank-requires : goal.rank_of-rank-requires
rank_of-rank-requires c = record { setup_value = (c.requires.setup_value.0, c.requires.setup_value.1.0); frame_bound = part-below (walk (goal.at.rank_of-rank-requires c).Start) (passed (goal.at.rank_of-rank-requires c).Else-check_window-ne0) (size (goal.at.rank_of-rank-requires c).After-window_end) (ends (goal.at.rank_of-rank-requires c).After-window_end) }

-- its rank
module _ (c : After-rank_of-rank) where
  abbrev rank : Rank
  rank = c.rank_of-rank.result

  small : (rank.reading ≤ 2 ^ 17) × (rank.c < (setup c.before.before.before.before.before.before.before.before.before.before.before.before).epsilon)
  small = rank-small (walk c.before.before.before.before.before.before.before.before.before.before.before.before) (passed (view.up-Else-check_window-ne0 _ _ _ _ c.before.before.before)) (size (view.up-After-window_end _ _ _ _ c.before.before.before.before.before.before)) (ends (view.up-After-window_end _ _ _ _ c.before.before.before.before.before.before)) rank c.rank_of-rank.ensures (limits c.before.before.before.before.before.before.before.before.before.before.before.before)

pub timely-requires : goal.timely-requires
timely-requires c = record { setup_value = (c.requires.setup_value.0, c.requires.recent.0); reading_bound = small (goal.at.timely-requires c).After-rank_of-rank }

pub returns-then-not-timely : goal.returns-then-not-timely
returns-then-not-timely c =
    let asked = c.timely in
    c.unsound-then-not-timely.ensures ∙ judged-untimely (walk (goal.at.returns-then-not-timely c).Start) (passed (goal.at.returns-then-not-timely c).Else-check_window-ne0) (size (goal.at.returns-then-not-timely c).After-window_end) (ends (goal.at.returns-then-not-timely c).After-window_end) (rank (goal.at.returns-then-not-timely c).After-rank_of-rank) c.rank_of-rank.ensures asked.result asked.ensures c.if-not-timely.true-raw

-- it is neither early nor expired
module _ (c : Else-not-timely) where
  fit : fits (setup c.before.before.before.before.before.before.before.before.before.before.before.before.before.before) c.args.clock c.args.least (bytes_at (setup c.before.before.before.before.before.before.before.before.before.before.before.before.before.before).epsilon (buffer c.before.before.before.before.before.before.before.before.before.before.before.before.before.before) c.args.i) ≡ true
  fit = let asked = c.timely in fit_of (walk c.before.before.before.before.before.before.before.before.before.before.before.before.before.before) (passed (view.up-Else-check_window-ne0 _ _ _ _ c.before.before.before.before.before)) (size (view.up-After-window_end _ _ _ _ c.before.before.before.before.before.before.before.before)) (ends (view.up-After-window_end _ _ _ _ c.before.before.before.before.before.before.before.before)) (rank (view.up-After-rank_of-rank _ _ _ _ c.before.before.before)) c.rank_of-rank.ensures asked.result asked.ensures c.if-not-timely.false-raw

pub slice_bounds-key_of-count : goal.slice_bounds-key_of-count
slice_bounds-key_of-count c = room (goal.at.slice_bounds-key_of-count c).Start

pub slice_bounds-key_of-start : goal.slice_bounds-key_of-start
slice_bounds-key_of-start c = let h = room (goal.at.slice_bounds-key_of-start c).Start in omega arith

pub key_of-key-requires : goal.key_of-key-requires
unfolding payload_count_at width
key_of-key-requires c = record { setup_value = (c.requires.setup_value.0, own-within (walk (goal.at.key_of-key-requires c).Start) (passed (goal.at.key_of-key-requires c).Else-check_window-ne0) (size (goal.at.key_of-key-requires c).After-window_end) (ends (goal.at.key_of-key-requires c).After-window_end) (rank (goal.at.key_of-key-requires c).After-rank_of-rank) c.rank_of-rank.ensures (fit (goal.at.key_of-key-requires c).Else-not-timely) (limits (goal.at.key_of-key-requires c).Start) c.requires.setup_value.1.0 c.requires.recent.0); c_lt_epsilon = ((small (goal.at.key_of-key-requires c).After-rank_of-rank).1, omega (arith, lent-room (walk (goal.at.key_of-key-requires c).Start) c.requires.recent.1)) }

-- its key
module _ (c : After-key_of-key) where
  abbrev key : Key
  key = c.key_of-key.result

  bytes : Bytes (buffer c.before.before.before.before.before.before.before.before.before.before.before.before.before.before.before.before)
  bytes i = omega (arith, c.shared_slice_known-2-1.given i)

pub key_less-requires : goal.key_less-requires
key_less-requires c = key-roomy (walk (goal.at.key_less-requires c).Start) (passed (goal.at.key_less-requires c).Else-check_window-ne0) (size (goal.at.key_less-requires c).After-window_end) (ends (goal.at.key_less-requires c).After-window_end) (rank (goal.at.key_less-requires c).After-rank_of-rank) c.rank_of-rank.ensures (fit (goal.at.key_less-requires c).Else-not-timely) (limits (goal.at.key_less-requires c).Start) c.requires.setup_value.1.0 c.requires.recent.0 (key (goal.at.key_less-requires c).After-key_of-key) c.key_of-key.ensures

pub returns-then-not-key_less : goal.returns-then-not-key_less
returns-then-not-key_less c =
    let asked = c.key_less in
    c.unsound-then-not-key_less.ensures ∙ judged-unordered (walk (goal.at.returns-then-not-key_less c).Start) (passed (goal.at.returns-then-not-key_less c).Else-check_window-ne0) (size (goal.at.returns-then-not-key_less c).After-window_end) (ends (goal.at.returns-then-not-key_less c).After-window_end) (rank (goal.at.returns-then-not-key_less c).After-rank_of-rank) c.rank_of-rank.ensures (fit (goal.at.returns-then-not-key_less c).Else-not-timely) (limits (goal.at.returns-then-not-key_less c).Start) c.requires.setup_value.1.0 c.requires.recent.0 (key (goal.at.returns-then-not-key_less c).After-key_of-key) c.key_of-key.ensures (bytes (goal.at.returns-then-not-key_less c).After-key_of-key) asked.result asked.ensures c.if-not-key_less.true-raw

pub has_mark-requires : goal.has_mark-requires
has_mark-requires c = (table-long (walk (goal.at.has_mark-requires c).Start), slot-low (walk (goal.at.has_mark-requires c).Start) (passed (goal.at.has_mark-requires c).Else-check_window-ne0) (size (goal.at.has_mark-requires c).After-window_end) (ends (goal.at.has_mark-requires c).After-window_end) (rank (goal.at.has_mark-requires c).After-rank_of-rank) c.rank_of-rank.ensures (fit (goal.at.has_mark-requires c).Else-not-timely) (limits (goal.at.has_mark-requires c).Start) c.requires.setup_value.1.0 c.requires.recent.0 (key (goal.at.has_mark-requires c).After-key_of-key) c.key_of-key.ensures)

pub returns-then-has_mark : goal.returns-then-has_mark
returns-then-has_mark c =
    let asked = c.has_mark in
    c.unsound-then-has_mark.ensures ∙ judged-repeated (walk (goal.at.returns-then-has_mark c).Start) (passed (goal.at.returns-then-has_mark c).Else-check_window-ne0) (size (goal.at.returns-then-has_mark c).After-window_end) (ends (goal.at.returns-then-has_mark c).After-window_end) (rank (goal.at.returns-then-has_mark c).After-rank_of-rank) c.rank_of-rank.ensures (fit (goal.at.returns-then-has_mark c).Else-not-timely) (limits (goal.at.returns-then-has_mark c).Start) c.requires.setup_value.1.0 c.requires.recent.0 (key (goal.at.returns-then-has_mark c).After-key_of-key) c.key_of-key.ensures asked.result asked.ensures c.if-has_mark.true

pub returns : goal.returns
returns c =
    let ordered = c.key_less in
    let asked = c.has_mark in
    judged-sound (walk (goal.at.returns c).Start) (passed (goal.at.returns c).Else-check_window-ne0) (size (goal.at.returns c).After-window_end) (ends (goal.at.returns c).After-window_end) (rank (goal.at.returns c).After-rank_of-rank) c.rank_of-rank.ensures (fit (goal.at.returns c).Else-not-timely) (limits (goal.at.returns c).Start) c.requires.setup_value.1.0 c.requires.recent.0 (key (goal.at.returns c).After-key_of-key) c.key_of-key.ensures (bytes (goal.at.returns c).After-key_of-key) ordered.result asked.result ordered.ensures c.if-not-key_less.false-raw asked.ensures c.if-has_mark.false
