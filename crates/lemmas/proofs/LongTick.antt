-- 02, 2.9: one accepted tick of an engine with long clocks, from any state: what it holds, its stamp, what it hands out and keeps.
-- Assumes nothing.
use Prim.Native.Nat.{ℕ, zero, suc, ◌+◌, ◌-◌, ◌≤◌, ◌<◌}
use native.Mathlib.Omega.{arith}
use mathlib.Core.Path.{◌≡◌, refl, ◌∙◌}
use mathlib.Core.Bool.{Bool, true, false, ◌&&◌, not, cond}
use mathlib.Core.Logic.{◌⊎◌, inl, inr}
use mathlib.Core.List.Memᴰ
use mathlib.Core.List.{List, [], ◌∷◌, ◌++◌, Memᴰ}
use lib.Dec.{leb, ltb, eqb}
use lib.ListN.{length, length-map}
use borrow.Author.Tests.{leb-true, ltb-true, eqb-true, le-leb, lt-ltb, leb-false}
use Rattle.laws.specs.Lists.{any, every, select, sort_by, chained, apart, insert_at, padded}
use Rattle.laws.proofs.Numbers.{and_intro, and_left, and_right, within_low, within-high, within-intro, false_of_not}
use Rattle.laws.proofs.Lists.{every-mem, every-of-mem, every_map, every-insert_at, length-insert_at, mem-of-insert_at, mem-select, mem-of-select, every-select, select-length-le}
use Rattle.laws.proofs.Sorted.{less_by, chained-of-sorted, apart-select, apart-insert_at}
use Rattle.laws.proofs.InsertionSort.{mem-sort_by, mem-of-sort_by, sorted-sort_by, length-sort_by}
use Rattle.model.specs.Setup.{Setup, is_member, longest_payload, verdict_length}
use Rattle.model.specs.Timestamp.{Timestamp, sum, counts_from, at_most, trimmed, widened, absorb, count_own}
use Rattle.model.specs.Frame.{Frame, two_at}
use Rattle.model.specs.Order.{key}
use Rattle.model.specs.Batch.{exact_batch, batch_entries}
use Rattle.model.specs.Question.{ask, first_no}
use Rattle.model.specs.Codec.{ask_payload}
use Rattle.model.specs.Holdback.{same_origin}
use Rattle.model.specs.Judge.{Heard, ask_repeat}
use Rattle.model.specs.Tick.{Input}
use Rattle.model.specs.Long.{long_bound, plainly, long_limits, ask_long_setup, long_encode, long_decode, longest_long, long_before, long_due, long_most, long_holdback_size, long_held_bytes, long_held, long_passes, long_not_early, long_not_expired, long_sound_holdback, long_encode_holdback, ask_long_early, ask_held, long_place_questions, long_questions, long_judge, long_hear_one, long_hear, long_absorb_by, long_absorb_all, long_call_questions, long_clock_sound, long_tables_sound, long_holdback_sound, long_opening_stamp, long_opened, long_heard, long_new_stamp, long_due_by, long_delivered, long_kept, long_frame_end}
use Rattle.lemmas.proofs.Bounds.{LongLimits, FrameOk}
use Rattle.lemmas.proofs.Questions.{first-yes, other-yes, long-limits-from}
use Rattle.lemmas.proofs.Counts.{Left, opened-absorb, own-left, left-beside, trimmed-widened}
use Rattle.lemmas.proofs.RoundTrip.{none-no, length-cut-by}
use Rattle.lemmas.proofs.LongFrames.{long-frame-passed, long-passes-decode, long-passes-encode, long-held-bytes, long-held-frames, long-count}
use Rattle.lemmas.proofs.Queue.{origin-to, origin-sym, key-origin, times-passed, passed-new}
use Rattle.lemmas.proofs.Hearing.{by-verdict, by-queue, numbers_by, fold-queue, fold-stamp, fold-verdicts}
use Rattle.lemmas.proofs.OneTick.{Absorbing, opening-any}

-- what passes 1 to 6
pub record LongPassed (i : Input) : Type 0 where
  pub limits : LongLimits i.setup
  pub own_below : i.own < i.setup.n
  pub clock-below : i.clock < long_bound
  pub holdback-sized : length i.holdback ≡ long_holdback_size i.setup
  pub payload-short : length i.payload ≤ 32
  pub exact : exact_batch i.batch ≡ true
  pub outgoing-room : longest_long i.setup.epsilon ≤ length i.outgoing
  pub verdicts-room : verdict_length ≤ length i.verdicts
  pub delivery-room : long_holdback_size i.setup ≤ length i.delivery

pub long-passed : (i : Input) → first_no (long_call_questions i) ≡ 0 → LongPassed i
unfolding long_call_questions ask_long_setup ask_payload is_member
long-passed i e =
    let s = i.setup in
    let valid = long_limits s && is_member s i.own in
    let room = leb (longest_long s.epsilon) (length i.outgoing) in
    let e₁ = other-yes valid 0 _ e in
    let e₂ = other-yes (ltb i.clock long_bound) 1 _ e₁ in
    let e₃ = other-yes (eqb (length i.holdback) (long_holdback_size s)) 2 _ e₂ in
    let e₄ = other-yes (leb (length i.payload) longest_payload) 3 _ e₃ in
    let e₅ = other-yes (exact_batch i.batch) 4 _ e₄ in
    let q1 = first-yes valid 0 _ e in
    let q6 = first-yes (room && (leb verdict_length (length i.verdicts) && leb (long_holdback_size s) (length i.delivery))) 5 [] e₅ in
    let q6' = and_right room _ q6 in
    record {
      limits = long-limits-from s (and_left (long_limits s) _ q1);
      own_below = ltb-true i.own s.n (and_right (long_limits s) _ q1);
      clock-below = ltb-true i.clock long_bound (first-yes (ltb i.clock long_bound) 1 _ e₁);
      holdback-sized = eqb-true (length i.holdback) (long_holdback_size s) (first-yes (eqb (length i.holdback) (long_holdback_size s)) 2 _ e₂);
      payload-short = leb-true (length i.payload) longest_payload (first-yes (leb (length i.payload) longest_payload) 3 _ e₃);
      exact = first-yes (exact_batch i.batch) 4 _ e₄;
      outgoing-room = leb-true (longest_long s.epsilon) (length i.outgoing) (and_left room _ q6);
      verdicts-room = leb-true verdict_length (length i.verdicts) (and_left _ _ q6');
      delivery-room = leb-true (long_holdback_size s) (length i.delivery) (and_right (leb verdict_length (length i.verdicts)) _ q6');
    }

-- ---- what it holds

-- the tests of a frame's time, as facts
pub long-early-from : (s : Setup) (v : ℕ) (f : Frame) → long_not_early s v f ≡ true → f.stamp.r + f.stamp.c ≤ v + (s.epsilon - 1)
unfolding long_not_early sum
long-early-from s v f h = leb-true (f.stamp.r + f.stamp.c) (v + (s.epsilon - 1)) h

pub long-early-to : (s : Setup) (v : ℕ) (f : Frame) → f.stamp.r + f.stamp.c ≤ v + (s.epsilon - 1) → long_not_early s v f ≡ true
unfolding long_not_early sum
long-early-to s v f h = le-leb (f.stamp.r + f.stamp.c) (v + (s.epsilon - 1)) h

-- frames in their bounds, no station and r twice, no sum more than ε − 1 past v, 64 at most
pub record Holds (s : Setup) (v : ℕ) (queue : List Frame) : Type 0 where
  pub frames : (f : Frame) → Memᴰ f queue → FrameOk (plainly s) f
  pub single : apart same_origin queue ≡ true
  pub early : every (long_not_early s v) queue ≡ true
  pub few : length queue ≤ long_most

holds-none : (s : Setup) (v : ℕ) → Holds s v []
unfolding apart every
holds-none s v = record { frames = λ f m. absurd (Memᴰ.not-nil m); single = refl; early = refl; few = omega arith }

-- a shelf holds as many frames as its count says
pub length-long-held : (epsilon : ℕ) (bytes : List ℕ) → length (long_held epsilon bytes) ≡ two_at bytes 0
unfolding long_held long_held_bytes
length-long-held epsilon bytes = length-map (long_held_bytes epsilon bytes) (long_decode epsilon) ∙ length-cut-by (long_frame_end epsilon) (two_at bytes 0) _

-- the test of a shelf's bytes, as facts
pub sound-holds : (s : Setup) (v least : ℕ) (bytes : List ℕ) → 1 ≤ s.epsilon → long_sound_holdback s v least bytes ≡ true → Holds s v (long_held s.epsilon bytes)
unfolding long_sound_holdback long_held
sound-holds s v least bytes pos h =
    let h₁ = and_right (leb (two_at bytes 0) long_most) _ h in
    let h₂ = and_right (every (long_passes s) (long_held_bytes s.epsilon bytes)) _ h₁ in
    let h₃ = and_right (apart same_origin (long_held s.epsilon bytes)) _ h₂ in
    record {
      frames = λ f m. one f (Memᴰ.of_map (long_decode s.epsilon) (long_held_bytes s.epsilon bytes) m) (and_left _ _ h₁);
      single = and_left _ _ h₂;
      early = and_left _ _ h₃;
      few = omega (arith, length-long-held s.epsilon bytes, leb-true (two_at bytes 0) long_most (and_left _ _ h));
    }
  where
    one :
        (f : Frame) → (a : List ℕ) × Memᴰ a (long_held_bytes s.epsilon bytes) × (long_decode s.epsilon a ≡ f)
        → every (long_passes s) (long_held_bytes s.epsilon bytes) ≡ true → FrameOk (plainly s) f
    one f t p = rw (← t.2) (long-passes-decode s t.0 pos (every-mem (long_passes s) p t.1))

pub opened-holds : (i : Input) → 1 ≤ i.setup.epsilon → Holds i.setup i.clock (long_opened i)
unfolding long_opened long_holdback_sound
opened-holds i pos = go (long_holdback_sound i) refl
  where
    go : (b : Bool) → long_holdback_sound i ≡ b → Holds i.setup i.clock (cond b (long_held i.setup.epsilon i.holdback) [])
    go true e = sound-holds i.setup i.clock _ i.holdback pos e
    go false e = holds-none i.setup i.clock

-- what a frame that is taken has passed
pub record LongTaken (s : Setup) (v : ℕ) (queue : List Frame) (f : Frame) : Type 0 where
  pub frame : FrameOk (plainly s) f
  pub late : v ≤ f.stamp.r + (s.delta + s.epsilon)
  pub early : long_not_early s v f ≡ true
  pub counts : at_most (s.n - 1) (counts_from s.epsilon f.stamp.r f.stamp.kn v) ≡ true
  pub new : any (same_origin f) queue ≡ false
  pub room : length queue < long_most

pub long-taken :
    (s : Setup) (v : ℕ) (queue : List Frame) (bytes : List ℕ) → 1 ≤ s.epsilon → first_no (long_questions s v queue bytes) ≡ 0
    → LongTaken s v queue (long_decode s.epsilon bytes)
unfolding long_questions long_place_questions ask_long_early ask_held long_not_early
long-taken s v queue bytes pos e =
    let f = long_decode s.epsilon bytes in
    let q = long-frame-passed s bytes (long_place_questions s v queue f) pos e in
    let counted = at_most (s.n - 1) (counts_from s.epsilon f.stamp.r f.stamp.kn v) in
    let t = times-passed s v f.stamp.r f (ask counted 15 ∷ ask_repeat queue f ∷ ask_held queue ∷ []) q.1 in
    let q15 = none-no counted 14 (ask_repeat queue f ∷ ask_held queue ∷ []) t.2 in
    let q16 : first_no (ask_held queue ∷ []) ≡ 0 = unfold ask_repeat in (other-yes (not (any (same_origin f) queue)) 15 (ask_held queue ∷ []) q15.1) in
    record {
      frame = q.0;
      late = t.0;
      early = t.1;
      counts = q15.0;
      new = passed-new queue f (ask_held queue ∷ []) q15.1;
      room = ltb-true (length queue) long_most (first-yes (ltb (length queue) long_most) 17 [] q16);
    }

-- it is put behind the others
pub takes-holds : (s : Setup) (v at : ℕ) (queue : List Frame) (f : Frame) → LongTaken s v queue f → Holds s v queue → Holds s v (insert_at at f queue)
takes-holds s v at queue f p h =
    record {
      frames = λ g m. one g (mem-of-insert_at at f queue m);
      single = apart-insert_at same_origin origin-sym at f queue p.new h.single;
      early = every-insert_at (long_not_early s v) at f queue ∙ and_intro p.early h.early;
      few = omega (arith, length-insert_at at f queue, p.room);
    }
  where
    one : (g : Frame) → (g ≡ f) ⊎ Memᴰ g queue → FrameOk (plainly s) g
    one g (inl e) = rw e p.frame
    one g (inr m) = h.frames g m

-- the hearing keeps that
pub long-one-verdict :
    (s : Setup) (v : ℕ) (h : Heard) (bytes : List ℕ) → (long_hear_one s v h bytes).verdicts ≡ h.verdicts ++ (first_no (long_questions s v h.queue bytes) ∷ [])
unfolding long_hear_one long_judge
long-one-verdict s v h bytes = by-verdict (first_no (long_questions s v h.queue bytes)) (length h.queue) (long_decode s.epsilon bytes) h

pub hears-holds :
    (s : Setup) (v : ℕ) (h : Heard) (entries : List (List ℕ)) → 1 ≤ s.epsilon → Holds s v h.queue → Holds s v (long_hear s v h entries).queue
unfolding long_hear long_hear_one long_judge
hears-holds s v h entries pos hg =
    fold-queue (long_questions s v) (long_hear_one s v) (Holds s v)
    (λ x bytes p.
    let f = long_decode s.epsilon bytes in
    by-queue (Holds s v) (first_no (long_questions s v x.queue bytes)) (length x.queue) f x
    (λ e. takes-holds s v (length x.queue) x.queue f (long-taken s v x.queue bytes pos e) p) p)
    h entries hg

pub heard-holds : (i : Input) → 1 ≤ i.setup.epsilon → Holds i.setup i.clock (long_heard i).queue
unfolding long_heard
heard-holds i pos = hears-holds i.setup i.clock (record { queue = long_opened i; verdicts = [] }) (batch_entries i.batch) pos (opened-holds i pos)

-- ---- its stamp

pub long-steps : (epsilon v r : ℕ) → long_clock_sound epsilon v r ≡ true → (1 ≤ v - r) × (v - r ≤ epsilon)
unfolding long_clock_sound
long-steps epsilon v r h =
    let w = and_right (ltb r long_bound) _ h in
    (within_low 1 epsilon (v - r) w, within-high 1 epsilon (v - r) w)

pub long-opening : (i : Input) → LongLimits i.setup → Absorbing i.setup i.clock (long_opening_stamp i)
unfolding long_opening_stamp long_tables_sound
long-opening i limits =
    opening-any i.setup i.clock (i.clock - i.tables.r) (long_clock_sound i.setup.epsilon i.clock i.tables.r) i.tables
    limits.n_pos limits.epsilon-pos (long-steps i.setup.epsilon i.clock i.tables.r)

long-absorbing :
    (s : Setup) (v : ℕ) (queue : List Frame) (bytes : List ℕ) (t : Timestamp) → LongLimits s → Absorbing s v t
    → Absorbing s v (long_absorb_by (first_no (long_questions s v queue bytes)) s v (long_decode s.epsilon bytes) t)
long-absorbing s v queue bytes t limits a = go (first_no (long_questions s v queue bytes)) refl
  where
    go : (k : ℕ) → first_no (long_questions s v queue bytes) ≡ k → Absorbing s v (long_absorb_by k s v (long_decode s.epsilon bytes) t)
    go zero e =
        let f = long_decode s.epsilon bytes in
        let p = long-taken s v queue bytes limits.epsilon-pos e in
        let early = long-early-from s v f p.early in
        record {
          opened =
              opened-absorb s.n s.epsilon v f.stamp.r t f.stamp limits.n_pos limits.epsilon-pos a.opened p.frame.sound
              (omega (arith, early, limits.epsilon-pos)) (unfold sum in early) p.counts;
          r-is = unfold absorb in a.r-is;
        }
    go (suc k) e = a

-- the verdicts are the numbers of the entries
pub heard-numbers :
    (i : Input)
    → (long_heard i).verdicts
    ≡ numbers_by (long_questions i.setup i.clock) (long_hear_one i.setup i.clock) (record { queue = long_opened i; verdicts = [] }) (batch_entries i.batch)
unfolding long_heard long_hear
heard-numbers i =
    fold-verdicts (long_questions i.setup i.clock) (long_hear_one i.setup i.clock) (long-one-verdict i.setup i.clock)
    (record { queue = long_opened i; verdicts = [] }) (batch_entries i.batch)

-- the stamp before the own event
abbrev pub long_heard_stamp : Input → Timestamp
long_heard_stamp i = long_absorb_all i.setup i.clock (long_opening_stamp i) (batch_entries i.batch) (long_heard i).verdicts

pub long-absorbed : (i : Input) → LongLimits i.setup → Absorbing i.setup i.clock (long_heard_stamp i)
unfolding long_absorb_all
long-absorbed i limits =
    let s = i.setup in
    let v = i.clock in
    let start : Heard = record { queue = long_opened i; verdicts = [] } in
    rw (heard-numbers i)
    (fold-stamp (long_questions s v) (long_hear_one s v) (λ number bytes u. long_absorb_by number s v (long_decode s.epsilon bytes) u) (Absorbing s v)
    (λ queue bytes t p. long-absorbing s v queue bytes t limits p) start (long_opening_stamp i) (batch_entries i.batch) (long-opening i limits))

pub long-left : (i : Input) → LongLimits i.setup → Left i.setup.n i.setup.epsilon (long_new_stamp i)
unfolding long_new_stamp
long-left i limits =
    own-left i.setup.n i.setup.epsilon i.clock (long_heard_stamp i) limits.n_pos limits.epsilon-pos (long-absorbed i limits).opened

pub long-new-r : (i : Input) → (long_new_stamp i).r ≡ i.clock
unfolding long_new_stamp count_own
long-new-r i = refl

-- such tables are sound for every next clock 1 to ε ahead
pub long-tables-next :
    (i : Input) (k : ℕ) → LongPassed i → 1 ≤ k → k ≤ i.setup.epsilon → long_tables_sound i.setup (i.clock + k) (widened (long_new_stamp i)) ≡ true
unfolding long_tables_sound long_clock_sound widened
long-tables-next i k p pos few =
    let s = i.setup in
    let left = long-left i p.limits in
    let r-is = long-new-r i in
    let back : trimmed s.epsilon (widened (long_new_stamp i)) ≡ long_new_stamp i = trimmed-widened s.epsilon (long_new_stamp i) p.limits.epsilon-most left.sound.wide in
    let clock : long_clock_sound s.epsilon (i.clock + k) (long_new_stamp i).r ≡ true =
    unfold long_clock_sound in
    (and_intro (lt-ltb (long_new_stamp i).r long_bound (omega (arith, r-is, p.clock-below)))
    (within-intro {lo = 1} {hi = s.epsilon} {x = i.clock + k - (long_new_stamp i).r} (omega (arith, r-is)) (omega (arith, r-is)))) in
    rw back (left-beside (long_clock_sound s.epsilon (i.clock + k) (long_new_stamp i).r) s.n s.epsilon (long_new_stamp i) left clock)

-- ---- what it hands out and keeps

module _ (i : Input) (pos : 1 ≤ i.setup.epsilon) where
  abbrev due_here : List Frame
  due_here = select (long_due_by i.setup i.clock) (long_heard i).queue

  pub delivered-of : (f : Frame) → Memᴰ f (long_delivered i) → Memᴰ f (long_heard i).queue × (long_due_by i.setup i.clock f ≡ true)
  unfolding long_delivered
  delivered-of f m = mem-of-select (long_due_by i.setup i.clock) (long_heard i).queue (mem-of-sort_by (long_before i.setup) due_here m)

  pub delivered-all : (f : Frame) → Memᴰ f (long_heard i).queue → long_due_by i.setup i.clock f ≡ true → Memᴰ f (long_delivered i)
  unfolding long_delivered
  delivered-all f m h = mem-sort_by (long_before i.setup) (mem-select (long_due_by i.setup i.clock) m h)

  pub delivered-ok : (f : Frame) → Memᴰ f (long_delivered i) → FrameOk (plainly i.setup) f
  delivered-ok f m = (heard-holds i pos).frames f (delivered-of f m).0

  pub delivered-few : length (long_delivered i) ≤ long_most
  unfolding long_delivered
  delivered-few =
      omega (
        arith,
        length-sort_by (long_before i.setup) due_here,
        select-length-le (long_due_by i.setup i.clock) (long_heard i).queue,
        (heard-holds i pos).few,
      )

  -- no station and r twice, so the keys are all different
  pub delivered-ordered : chained (long_before i.setup) (long_delivered i) ≡ true
  unfolding long_delivered long_before
  delivered-ordered =
      chained-of-sorted long_key (sort_by (less_by long_key) due_here)
      (sorted-sort_by long_key same_origin due_here (apart-select same_origin (long_due_by i.setup i.clock) (long_heard i).queue (heard-holds i pos).single)
      (λ f g m n e. let t = key-origin i.setup f.stamp.r g.stamp.r f g e in origin-to f g t.0 t.1))
    where
      long_key : Frame → List ℕ
      long_key f = key i.setup f.stamp.r f

  abbrev not_due : Frame → Bool
  not_due f = not (long_due_by i.setup i.clock f)

  pub kept-holds : Holds i.setup i.clock (long_kept i)
  unfolding long_kept
  kept-holds =
      let h = heard-holds i pos in
      record {
        frames = λ f m. h.frames f (mem-of-select not_due (long_heard i).queue m).0;
        single = apart-select same_origin not_due (long_heard i).queue h.single;
        early = every-select (long_not_early i.setup i.clock) not_due (long_heard i).queue h.early;
        few = omega (arith, h.few, select-length-le not_due (long_heard i).queue);
      }

  kept-later : (f : Frame) → Memᴰ f (long_kept i) → long_not_expired i.setup (i.clock + 1) f ≡ true
  unfolding long_kept long_due_by long_not_expired
  kept-later f m =
      let past = leb-false (long_due i.setup f) i.clock (false_of_not (long_due_by i.setup i.clock f) (mem-of-select not_due (long_heard i).queue m).1) in
      le-leb (i.clock + 1) (long_due i.setup f) (omega (arith, past))

  -- the shelf that it leaves
  pub kept-held : long_held i.setup.epsilon (long_encode_holdback (long_holdback_size i.setup) (long_kept i)) ≡ long_kept i
  unfolding long_encode_holdback padded
  kept-held = long-held-frames i.setup (long_kept i) kept-holds.frames _

  kept-passes : every (long_passes i.setup) (long_held_bytes i.setup.epsilon (long_encode_holdback (long_holdback_size i.setup) (long_kept i))) ≡ true
  unfolding long_encode_holdback padded
  kept-passes =
      rw (long-held-bytes i.setup (long_kept i) kept-holds.frames _)
      (every_map (long_passes i.setup) long_encode (long_kept i)
      ∙ every-of-mem (λ (f : Frame). long_passes i.setup (long_encode f)) (long_kept i) (λ f m. long-passes-encode i.setup f (kept-holds.frames f m)))

  -- is sound for every next clock, each frame due after this one
  pub kept-sound : (k : ℕ) → long_sound_holdback i.setup (i.clock + k) (i.clock + 1) (long_encode_holdback (long_holdback_size i.setup) (long_kept i)) ≡ true
  unfolding long_sound_holdback
  kept-sound k =
      let bytes = long_encode_holdback (long_holdback_size i.setup) (long_kept i) in
      let h = kept-holds in
      let count : two_at bytes 0 ≡ length (long_kept i) = unfold long_encode_holdback padded in (long-count (long_kept i) _) in
      and_intro (le-leb (two_at bytes 0) long_most (omega (arith, count, h.few)))
      (and_intro kept-passes
      (rw kept-held
      (and_intro h.single
      (and_intro
      (every-of-mem (long_not_early i.setup (i.clock + k)) (long_kept i)
      (λ f m.
      long-early-to i.setup (i.clock + k) f
      (omega (arith, long-early-from i.setup i.clock f (every-mem (long_not_early i.setup i.clock) h.early m)))))
      (every-of-mem (long_not_expired i.setup (i.clock + 1)) (long_kept i) kept-later)))))
