-- The hold-back queue stays sound: opening it, taking a frame, letting the due ones go; it is never full.
-- Assumes nothing.
use Prim.Native.Nat.{ℕ, suc, ◌+◌, ◌-◌, ◌*◌, ◌%◌, ◌≤◌, ◌<◌}
use native.Mathlib.Omega.{arith}
use native.Mathlib.Nat.{mul-le-mul_left, mul-le-mul_right, mul-suc, mul-add}
use mathlib.Core.Path.{◌≡◌, refl, sym, ap, ap₂, ◌∙◌}
use mathlib.Core.Bool.{Bool, true, false, not, ◌&&◌, cond}
use mathlib.Core.Logic.{◌⊎◌, inl, inr}
use mathlib.Core.List.Memᴰ
use mathlib.Core.List.{List, [], ◌∷◌, ◌++◌, Memᴰ}
use lib.Dec.{leb, ltb, eqb}
use lib.ListN.{length, drop}
use lib.Seq.{drop_at}
use borrow.Author.Tests.{le-leb, eq-eqb, leb-true, ltb-true, ltb-false, eqb-true, eqb-false}
use Rattle.laws.specs.Lists.{any, every, chained, apart, insert_at, select, padded}
use Rattle.laws.specs.Lex.{lex_compare}
use Rattle.laws.proofs.Numbers.{clash, and_intro, and_left, and_right, false_of_not, eqb-sym}
use Rattle.laws.proofs.Lists.{every-mem, every-of-mem, every_map, every-insert_at, any_false, mem-of-insert_at, mem-of-select}
use Rattle.laws.proofs.Lex.{lt-is_less, lex-head-lt, lex-shift}
use Rattle.laws.proofs.Sorted.{less_by, Sorted, pairwise_append, sorted-of-chained, chained-of-sorted, sorted-select, sorted_insert, sorted-rekey, apart-select, apart-insert_at, pigeonhole-pairs}
use Rattle.model.specs.Setup.{Setup, width, depth}
use Rattle.model.specs.Timestamp.{sum, counts_from, at_most}
use Rattle.model.specs.Frame.{Frame, encode, decode, two_at}
use Rattle.model.specs.Order.{reading_of, counts_down, key_by, key, key_near, compare_frames, before, due, due_near}
use Rattle.model.specs.Holdback.{same_origin, passes, not_early_at, not_early, not_expired, held_bytes, held, sound_holdback, encode_frames, encode_holdback}
use Rattle.model.specs.Question.{Question, ask, first_no}
use Rattle.model.specs.Judge.{Asking, ask_late_at, ask_late, ask_early, ask_counts, ask_repeat, place_questions, judge_questions, observer_place_questions, observer_questions, place_for}
use Rattle.model.specs.Tick.{opening_queue, due_before, due_now, holdback_size}
use Rattle.lemmas.proofs.Bounds.{Limits, FrameOk, QueueOk}
use Rattle.lemmas.proofs.Reading.{near-true, near-high, near-later, near-injective}
use Rattle.lemmas.proofs.Counts.{length-down}
use Rattle.lemmas.proofs.RoundTrip.{none-no, frame-passed, passes-encode, passes-decode, length-held, held-encode, held-frames}

-- the tests of a frame's time, as facts
pub early_from : (s : Setup) (v : ℕ) (f : Frame) → not_early s v f ≡ true → reading_of s v f + f.stamp.c ≤ s.modulus + (s.epsilon - 1)
unfolding not_early sum
early_from s v f h = leb-true (reading_of s v f + f.stamp.c) (s.modulus + (s.epsilon - 1)) h

pub early-to : (s : Setup) (v : ℕ) (f : Frame) → reading_of s v f + f.stamp.c ≤ s.modulus + (s.epsilon - 1) → not_early s v f ≡ true
unfolding not_early sum
early-to s v f h = le-leb (reading_of s v f + f.stamp.c) (s.modulus + (s.epsilon - 1)) h

pub expired-from : (s : Setup) (v least : ℕ) (f : Frame) → not_expired s v least f ≡ true → least ≤ reading_of s v f + f.stamp.c + s.delta + s.epsilon
unfolding not_expired due_near due sum
expired-from s v least f h = leb-true least (reading_of s v f + f.stamp.c + s.delta + s.epsilon) h

pub expired-to : (s : Setup) (v least : ℕ) (f : Frame) → least ≤ reading_of s v f + f.stamp.c + s.delta + s.epsilon → not_expired s v least f ≡ true
unfolding not_expired due_near due sum
expired-to s v least f h = le-leb least (reading_of s v f + f.stamp.c + s.delta + s.epsilon) h

-- a frame that is due at no moment but later
pub not-due : (s : Setup) (v : ℕ) (f : Frame) → not (due_now s v f) ≡ true → reading_of s v f + f.stamp.c + s.delta + s.epsilon ≡ s.modulus → ⊥
unfolding due_now due_near due sum
not-due s v f h =
    eqb-false (reading_of s v f + f.stamp.c + s.delta + s.epsilon) s.modulus
    (false_of_not (eqb (reading_of s v f + f.stamp.c + s.delta + s.epsilon) s.modulus) h)

-- a frame that is due before v, or is not
pub due-before : (s : Setup) (v : ℕ) (f : Frame) → due_before s v f ≡ true → reading_of s v f + f.stamp.c + s.delta + s.epsilon < s.modulus
unfolding due_before due_near due sum
due-before s v f h = ltb-true (reading_of s v f + f.stamp.c + s.delta + s.epsilon) s.modulus h

pub due-not-before : (s : Setup) (v : ℕ) (f : Frame) → not (due_before s v f) ≡ true → s.modulus ≤ reading_of s v f + f.stamp.c + s.delta + s.epsilon
unfolding due_before due_near due sum
due-not-before s v f h =
    ltb-false (reading_of s v f + f.stamp.c + s.delta + s.epsilon) s.modulus
    (false_of_not (ltb (reading_of s v f + f.stamp.c + s.delta + s.epsilon) s.modulus) h)

-- one that is due at v
pub due-now : (s : Setup) (v : ℕ) (f : Frame) → due_now s v f ≡ true → reading_of s v f + f.stamp.c + s.delta + s.epsilon ≡ s.modulus
unfolding due_now due_near due sum
due-now s v f h = eqb-true (reading_of s v f + f.stamp.c + s.delta + s.epsilon) s.modulus h

pub reading-high : (s : Setup) (v : ℕ) (f : Frame) → Limits s → reading_of s v f < s.modulus + s.epsilon
unfolding reading_of
reading-high s v f limits = near-high s.epsilon s.modulus v f.stamp.r limits.epsilon-pos (omega arith)

-- the reading of a frame is its true clock R, where R is less than ε ahead of v and at most B − ε behind
pub reading-true : (s : Setup) (v R : ℕ) (f : Frame) → Limits s → f.stamp.r ≡ R % s.modulus → R < v + s.epsilon → v + s.epsilon ≤ R + s.modulus → reading_of s (v % s.modulus) f + v ≡ s.modulus + R
unfolding reading_of
reading-true s v R f limits is hi lo = rw is (near-true s.epsilon s.modulus v R limits.epsilon-pos (omega arith) hi lo)

-- where the readings of a queue's frames lie
pub record InWindow (s : Setup) (v least : ℕ) (f : Frame) : Type 0 where
  pub low : least < reading_of s v f + (s.delta + 2 * s.epsilon)
  pub high : reading_of s v f < s.modulus + s.epsilon

pub in_window : (s : Setup) (v least : ℕ) (f : Frame) → Limits s → FrameOk s f → not_expired s v least f ≡ true → InWindow s v least f
in_window s v least f limits ok h =
    let o = expired-from s v least f h in
    let c = ok.sound.close in
    record { low = omega arith; high = reading-high s v f limits }

-- what a frame that is taken has passed, 15 aside
pub record Passed (s : Setup) (v : ℕ) (queue : List Frame) (f : Frame) : Type 0 where
  pub frame : FrameOk s f
  pub late : s.modulus ≤ reading_of s v f + (s.delta + s.epsilon)
  pub early : not_early s v f ≡ true
  pub new : any (same_origin f) queue ≡ false

-- questions that take no other frame
abbrev pub Places : Setup → ℕ → Asking → Type 0
Places s v asking = (queue : List Frame) (bytes : List ℕ) → first_no (asking queue bytes) ≡ 0 → Passed s v queue (decode s.epsilon bytes)

-- 13 and 14, wherever r and v are read, and then 16
pub times-passed :
    (s : Setup) (at reading : ℕ) (f : Frame) (qs : List Question) → first_no (ask_late_at s at reading ∷ ask (not_early_at s at reading f) 14 ∷ qs) ≡ 0
    → (at ≤ reading + (s.delta + s.epsilon)) × (not_early_at s at reading f ≡ true) × (first_no qs ≡ 0)
times-passed s at reading f qs e =
    let q13 = none-no (leb at (reading + (s.delta + s.epsilon))) 12 (ask (not_early_at s at reading f) 14 ∷ qs) e in
    let q14 = none-no (not_early_at s at reading f) 13 qs q13.1 in
    (leb-true at (reading + (s.delta + s.epsilon)) q13.0, q14.0, q14.1)

passed-times : (s : Setup) (v : ℕ) (f : Frame) (qs : List Question) → first_no (ask_late s v f ∷ ask_early s v f ∷ qs) ≡ 0 → (s.modulus ≤ reading_of s v f + (s.delta + s.epsilon)) × (not_early s v f ≡ true) × (first_no qs ≡ 0)
unfolding ask_late ask_early not_early
passed-times s v f qs e = times-passed s s.modulus (reading_of s v f) f qs e

pub passed-new : (queue : List Frame) (f : Frame) (qs : List Question) → first_no (ask_repeat queue f ∷ qs) ≡ 0 → any (same_origin f) queue ≡ false
unfolding ask_repeat
passed-new queue f qs e = false_of_not (any (same_origin f) queue) (none-no (not (any (same_origin f) queue)) 15 qs e).0

-- 10 to 16
judged-all :
    (s : Setup) (v : ℕ) (queue : List Frame) (bytes : List ℕ) → Limits s → first_no (judge_questions s v queue bytes) ≡ 0
    → Passed s v queue (decode s.epsilon bytes)
    × (at_most (s.n - 1) (counts_from s.epsilon (reading_of s v (decode s.epsilon bytes)) (decode s.epsilon bytes).stamp.kn s.modulus) ≡ true)
unfolding judge_questions place_questions ask_counts
judged-all s v queue bytes limits e =
    let f = decode s.epsilon bytes in
    let q = frame-passed s bytes (place_questions s v queue f) limits e in
    let t = passed-times s v f (ask_counts s v f ∷ ask_repeat queue f ∷ []) q.1 in
    let q15 = none-no (at_most (s.n - 1) (counts_from s.epsilon (reading_of s v f) f.stamp.kn s.modulus)) 14 (ask_repeat queue f ∷ []) t.2 in
    (record { frame = q.0; late = t.0; early = t.1; new = passed-new queue f [] q15.1 }, q15.0)

pub judged-passed : (s : Setup) (v : ℕ) (queue : List Frame) (bytes : List ℕ) → Limits s → first_no (judge_questions s v queue bytes) ≡ 0 → Passed s v queue (decode s.epsilon bytes)
judged-passed s v queue bytes limits e = (judged-all s v queue bytes limits e).0

-- 15
pub judged-counts :
    (s : Setup) (v : ℕ) (queue : List Frame) (bytes : List ℕ) → Limits s → first_no (judge_questions s v queue bytes) ≡ 0
    → at_most (s.n - 1) (counts_from s.epsilon (reading_of s v (decode s.epsilon bytes)) (decode s.epsilon bytes).stamp.kn s.modulus) ≡ true
judged-counts s v queue bytes limits e = (judged-all s v queue bytes limits e).1

-- 02, 2.6: an observer's questions
pub observed-passed : (s : Setup) (v : ℕ) (queue : List Frame) (bytes : List ℕ) → Limits s → first_no (observer_questions s v queue bytes) ≡ 0 → Passed s v queue (decode s.epsilon bytes)
unfolding observer_questions observer_place_questions
observed-passed s v queue bytes limits e =
    let f = decode s.epsilon bytes in
    let q = frame-passed s bytes (observer_place_questions s v queue f) limits e in
    let t = passed-times s v f (ask_repeat queue f ∷ []) q.1 in
    record { frame = q.0; late = t.0; early = t.1; new = passed-new queue f [] t.2 }

-- the order of a queue is that of its keys
ordered-sorted : (s : Setup) (v : ℕ) (queue : List Frame) → chained (before s v) queue ≡ true → Sorted (key_near s v) queue
unfolding before compare_frames
ordered-sorted s v queue h = sorted-of-chained (key_near s v) queue h

sorted-ordered : (s : Setup) (v : ℕ) (queue : List Frame) → Sorted (key_near s v) queue → chained (before s v) queue ≡ true
unfolding before compare_frames
sorted-ordered s v queue h = chained-of-sorted (key_near s v) queue h

-- frames of one station and r
pub origin-to : (f g : Frame) → f.station ≡ g.station → f.stamp.r ≡ g.stamp.r → same_origin f g ≡ true
unfolding same_origin
origin-to f g e h = and_intro (eq-eqb f.station g.station e) (eq-eqb f.stamp.r g.stamp.r h)

pub origin-sym : (f g : Frame) → same_origin f g ≡ same_origin g f
unfolding same_origin
origin-sym f g = ap₂ ◌&&◌ (eqb-sym f.station g.station) (eqb-sym f.stamp.r g.stamp.r)

-- the key tells station and reading
pub key-origin : (s : Setup) (x y : ℕ) (f g : Frame) → key s x f ≡ key s y g → (f.station ≡ g.station) × (x ≡ y)
unfolding key key_by
key-origin s x y f g e =
    let t : f.station ∷ x ∷ [] ≡ g.station ∷ y ∷ [] =
    sym (drop_at (counts_down s.epsilon f.stamp) (f.station ∷ x ∷ []) s.epsilon (length-down s.epsilon f.stamp))
    ∙ ap (drop (suc s.epsilon)) e
    ∙ drop_at (counts_down s.epsilon g.stamp) (g.station ∷ y ∷ []) s.epsilon (length-down s.epsilon g.stamp) in
    (cc, cc)

-- two frames with one station and one reading
pub reading-origin : (s : Setup) (v : ℕ) (f g : Frame) → Limits s → v < s.modulus → FrameOk s f → FrameOk s g → f.station ≡ g.station → reading_of s v f ≡ reading_of s v g → same_origin f g ≡ true
unfolding reading_of
reading-origin s v f g limits below okf okg e h =
    origin-to f g e (near-injective s.epsilon s.modulus v f.stamp.r g.stamp.r limits.epsilon-pos (omega arith) below okf.r-below okg.r-below h)

key-near-origin : (s : Setup) (v : ℕ) (f g : Frame) → Limits s → v < s.modulus → FrameOk s f → FrameOk s g → key_near s v f ≡ key_near s v g → same_origin f g ≡ true
unfolding key_near
key-near-origin s v f g limits below okf okg e =
    let t = key-origin s (reading_of s v f) (reading_of s v g) f g e in
    reading-origin s v f g limits below okf okg t.0 t.1

pub queue-none : (s : Setup) (v least : ℕ) → QueueOk s v least []
unfolding chained apart every
queue-none s v least =
    record { frames = λ f m. absurd (Memᴰ.not-nil m); ordered = refl; single = refl; early = refl; expired = refl }

-- the test of a queue's bytes, as facts
pub sound-queue : (s : Setup) (v least : ℕ) (bytes : List ℕ) → Limits s → sound_holdback s v least bytes ≡ true → QueueOk s v least (held s.epsilon bytes)
unfolding sound_holdback held
sound-queue s v least bytes limits h =
    let queue = held s.epsilon bytes in
    let h₁ = and_right (leb (two_at bytes 0) (depth s.n s.epsilon s.delta)) _ h in
    let h₂ = and_right (every (passes s) (held_bytes s.epsilon bytes)) _ h₁ in
    let h₃ = and_right (chained (before s v) queue) _ h₂ in
    let h₄ = and_right (apart same_origin queue) _ h₃ in
    record {
      frames = λ f m. one f (Memᴰ.of_map (decode s.epsilon) (held_bytes s.epsilon bytes) m) (and_left _ _ h₁);
      ordered = and_left _ _ h₂;
      single = and_left _ _ h₃;
      early = and_left _ _ h₄;
      expired = and_right (every (not_early s v) queue) _ h₄;
    }
  where
    one : (f : Frame) → (a : List ℕ) × Memᴰ a (held_bytes s.epsilon bytes) × (decode s.epsilon a ≡ f) → every (passes s) (held_bytes s.epsilon bytes) ≡ true → FrameOk s f
    one f t p = rw (← t.2) (passes-decode s t.0 limits (every-mem (passes s) p t.1))

pub opening-queue : (s : Setup) (v least : ℕ) (bytes : List ℕ) → Limits s → QueueOk s v least (opening_queue s v least bytes)
unfolding opening_queue
opening-queue s v least bytes limits = go (sound_holdback s v least bytes) refl
  where
    go : (b : Bool) → sound_holdback s v least bytes ≡ b → QueueOk s v least (cond b (held s.epsilon bytes) [])
    go true e = sound-queue s v least bytes limits e
    go false e = queue-none s v least

-- a part of a sound queue, with another least due clock that its frames keep
pub queue-part :
    (s : Setup) (v least least' : ℕ) (p : Frame → Bool) (queue : List Frame) → QueueOk s v least queue
    → ((f : Frame) → Memᴰ f queue → p f ≡ true → least' ≤ reading_of s v f + f.stamp.c + s.delta + s.epsilon) → QueueOk s v least' (select p queue)
queue-part s v least least' p queue ok h =
    record {
      frames = λ f m. ok.frames f (mem-of-select p queue m).0;
      ordered = sorted-ordered s v (select p queue) (sorted-select (key_near s v) p queue (ordered-sorted s v queue ok.ordered));
      single = apart-select same_origin p queue ok.single;
      early = every-of-mem (not_early s v) (select p queue) (λ f m. every-mem (not_early s v) ok.early (mem-of-select p queue m).0);
      expired =
          every-of-mem (not_expired s v least') (select p queue)
          (λ f m. expired-to s v least' f (h f (mem-of-select p queue m).0 (mem-of-select p queue m).1));
    }

-- 02, 2.2: without what is due before v no due clock is before v
pub queue-rest : (s : Setup) (v least : ℕ) (queue : List Frame) → QueueOk s v least queue → QueueOk s v s.modulus (select (λ f. not (due_before s v f)) queue)
queue-rest s v least queue ok = queue-part s v least s.modulus (λ f. not (due_before s v f)) queue ok (λ f m e. due-not-before s v f e)

pub queue-take : (s : Setup) (v : ℕ) (queue : List Frame) (f : Frame) → Limits s → v < s.modulus → QueueOk s v s.modulus queue → Passed s v queue f → QueueOk s v s.modulus (insert_at (place_for s v queue f) f queue)
unfolding place_for before compare_frames
queue-take s v queue f limits below ok p =
    let late = p.late in
    let at = place_for s v queue f in
    record {
      frames = λ g m. one g (mem-of-insert_at at f queue m);
      ordered =
          sorted-ordered s v (insert_at at f queue)
          (sorted_insert (key_near s v) f queue (ordered-sorted s v queue ok.ordered) other);
      single = apart-insert_at same_origin origin-sym at f queue p.new ok.single;
      early = every-insert_at (not_early s v) at f queue ∙ and_intro p.early ok.early;
      expired = every-insert_at (not_expired s v s.modulus) at f queue ∙ and_intro (expired-to s v s.modulus f (omega arith)) ok.expired;
    }
  where
    one : (g : Frame) → (g ≡ f) ⊎ Memᴰ g queue → FrameOk s g
    one g (inl e) = rw e p.frame
    one g (inr m) = ok.frames g m

    other : (g : Frame) → Memᴰ g queue → key_near s v g ≡ key_near s v f → ⊥
    other g m e = clash (key-near-origin s v f g limits below p.frame (ok.frames g m) (sym e)) (any_false (same_origin f) p.new m)

-- where the readings of a sound queue's frames lie
pub queue-window : (s : Setup) (v least : ℕ) (queue : List Frame) → Limits s → QueueOk s v least queue → (f : Frame) → Memᴰ f queue → InWindow s v least f
queue-window s v least queue limits ok f m = in_window s v least f limits (ok.frames f m) (every-mem (not_expired s v least) ok.expired m)

-- frames of a sound queue whose readings are among m from lo on: n m at most
pub part-few :
    (s : Setup) (v least : ℕ) (queue : List Frame) (lo m : ℕ) → Limits s → v < s.modulus → QueueOk s v least queue
    → ((f : Frame) → Memᴰ f queue → lo ≤ reading_of s v f) → ((f : Frame) → Memᴰ f queue → reading_of s v f < lo + m) → length queue ≤ s.n * m
part-few s v least queue lo m limits below ok low high =
    pigeonhole-pairs same_origin (λ f. f.station) (reading_of s v) s.n lo m queue
    ok.single (λ f g x y e h. reading-origin s v f g limits below (ok.frames f x) (ok.frames g y) e h) (λ f x. (ok.frames f x).station-below)
    low high

-- 02, 2.7: n(δ + 3ε − 1) frames at most where none is due before v, so it is never full
pub queue-bound : (s : Setup) (v least : ℕ) (queue : List Frame) → Limits s → v < s.modulus → s.modulus ≤ least → QueueOk s v least queue → length queue ≤ s.n * (s.delta + 3 * s.epsilon - 1)
queue-bound s v least queue limits below late ok =
    part-few s v least queue (s.modulus + 1 - (s.delta + 2 * s.epsilon)) (s.delta + 3 * s.epsilon - 1) limits below ok
    (λ f m. omega (arith, (queue-window s v least queue limits ok f m).low)) (λ f m. omega (arith, (queue-window s v least queue limits ok f m).high))

pub queue-room : (s : Setup) (v least : ℕ) (queue : List Frame) → Limits s → v < s.modulus → s.modulus ≤ least → QueueOk s v least queue → length queue < depth s.n s.epsilon s.delta
unfolding depth
queue-room s v least queue limits below late ok =
    omega (arith, queue-bound s v least queue limits below late ok, mul-suc s.n (s.delta + 3 * s.epsilon - 1), ap (λ (k : ℕ). s.n * k) (pred-suc s.delta s.epsilon limits.epsilon-pos))
  where
    pred-suc : (d e : ℕ) → 1 ≤ e → suc (d + 3 * e - 1) ≡ d + 3 * e
    pred-suc d e h = omega arith

-- 02, 2.2: few are due before v, after a last clock at most ε before it, and few at v
pub overdue-few :
    (s : Setup) (v least : ℕ) (queue : List Frame) → Limits s → v < s.modulus → s.modulus + 1 ≤ least + s.epsilon → QueueOk s v least queue
    → length (select (due_before s v) queue) ≤ s.n * (2 * s.epsilon - 2)
overdue-few s v least queue limits below few ok =
    part-few s v least (select (due_before s v) queue) (s.modulus + 2 - (s.delta + 3 * s.epsilon)) (2 * s.epsilon - 2) limits below
    (queue-part s v least least (due_before s v) queue ok (λ f m e. expired-from s v least f (every-mem (not_expired s v least) ok.expired m)))
    (λ f m. omega (arith, (queue-window s v least queue limits ok f (mem-of-select (due_before s v) queue m).0).low))
    (λ f m.
    omega (
      arith,
      (queue-window s v least queue limits ok f (mem-of-select (due_before s v) queue m).0).low,
      due-before s v f (mem-of-select (due_before s v) queue m).1,
      limits.modulus-least,
    ))

pub due-few :
    (s : Setup) (v : ℕ) (queue : List Frame) → Limits s → v < s.modulus → QueueOk s v s.modulus queue
    → length (select (due_now s v) queue) ≤ s.n * s.epsilon
due-few s v queue limits below ok =
    part-few s v s.modulus (select (due_now s v) queue) (s.modulus + 1 - (s.delta + 2 * s.epsilon)) s.epsilon limits below
    (queue-part s v s.modulus s.modulus (due_now s v) queue ok (λ f m e. expired-from s v s.modulus f (every-mem (not_expired s v s.modulus) ok.expired m)))
    (λ f m. omega (arith, (queue-window s v s.modulus queue limits ok f (mem-of-select (due_now s v) queue m).0).low))
    (λ f m. omega (arith, due-now s v f (mem-of-select (due_now s v) queue m).1, limits.modulus-least))

-- so both have room in a delivery
pub both-few : (s : Setup) → s.n * (2 * s.epsilon - 2) + s.n * s.epsilon ≤ depth s.n s.epsilon s.delta
unfolding depth
both-few s = omega (arith, mul-le-mul_left s.n most, mul-add s.n (2 * s.epsilon - 2) s.epsilon)
  where
    most : 2 * s.epsilon - 2 + s.epsilon ≤ s.delta + 3 * s.epsilon
    most = omega arith

-- what is due before v, and then what is due at v, is in order: the sums of the first are smaller
pub due-sorted :
    (s : Setup) (v least : ℕ) (opened queue : List Frame) → QueueOk s v least opened → QueueOk s v s.modulus queue
    → Sorted (key_near s v) (select (due_before s v) opened ++ select (due_now s v) queue)
unfolding key_near key key_by sum
due-sorted s v least opened queue first ok =
    pairwise_append (less_by (key_near s v)) (select (due_before s v) opened) (select (due_now s v) queue)
    (sorted-select (key_near s v) (due_before s v) opened (ordered-sorted s v opened first.ordered))
    (sorted-select (key_near s v) (due_now s v) queue (ordered-sorted s v queue ok.ordered))
    (λ f g m h. smaller f g (due-before s v f (mem-of-select (due_before s v) opened m).1) (due-now s v g (mem-of-select (due_now s v) queue h).1))
  where
    smaller :
        (f g : Frame) → reading_of s v f + f.stamp.c + s.delta + s.epsilon < s.modulus → reading_of s v g + g.stamp.c + s.delta + s.epsilon ≡ s.modulus
        → less_by (key_near s v) f g ≡ true
    smaller f g p q = lt-is_less (lex-head-lt (reading_of s v f + f.stamp.c) (reading_of s v g + g.stamp.c) _ _ (omega arith))

-- keys whose readings are both k less are in the same order
pub key-lower : (s : Setup) (k a a' b b' : ℕ) (f g : Frame) → a' + k ≡ a → b' + k ≡ b → lex_compare (key s a f) (key s b g) ≡ lex_compare (key s a' f) (key s b' g)
unfolding key key_by sum
key-lower s k a a' b b' f g p q =
    let e : a + f.stamp.c ≡ a' + f.stamp.c + k = omega arith in
    let h : b + g.stamp.c ≡ b' + g.stamp.c + k = omega arith in
    rw (e, h, ← p, ← q)
    (lex-shift k (a' + f.stamp.c) (b' + g.stamp.c) f.station g.station a' b' (counts_down s.epsilon f.stamp) (counts_down s.epsilon g.stamp)
    (length-down s.epsilon f.stamp ∙ sym (length-down s.epsilon g.stamp)))

-- k clocks later a reading is k less
pub reading-later : (s : Setup) (v k : ℕ) (f : Frame) → Limits s → f.stamp.r < s.modulus → s.epsilon + k ≤ reading_of s (v % s.modulus) f → reading_of s ((v + k) % s.modulus) f + k ≡ reading_of s (v % s.modulus) f
unfolding reading_of
reading-later s v k f limits below far = near-later s.epsilon s.modulus v k f.stamp.r limits.epsilon-pos (omega arith) below far

-- a queue at v that was left k clocks before: each frame is due after that
pub record QueueLeft (s : Setup) (v k : ℕ) (queue : List Frame) : Type 0 where
  pub frames : (f : Frame) → Memᴰ f queue → FrameOk s f
  pub ordered : chained (before s v) queue ≡ true
  pub single : apart same_origin queue ≡ true
  pub early : (f : Frame) → Memᴰ f queue → reading_of s v f + f.stamp.c + k ≤ s.modulus + (s.epsilon - 1)
  pub later : (f : Frame) → Memᴰ f queue → s.modulus < reading_of s v f + f.stamp.c + s.delta + s.epsilon + k

-- what a tick leaves: the queue without what is due
pub queue-left : (s : Setup) (v : ℕ) (queue : List Frame) → QueueOk s v s.modulus queue → QueueLeft s v 0 (select (λ f. not (due_now s v f)) queue)
queue-left s v queue ok =
    record {
      frames = λ f m. ok.frames f (mem-of-select kept queue m).0;
      ordered = sorted-ordered s v (select kept queue) (sorted-select (key_near s v) kept queue (ordered-sorted s v queue ok.ordered));
      single = apart-select same_origin kept queue ok.single;
      early = λ f m. let o = early_from s v f (every-mem (not_early s v) ok.early (mem-of-select kept queue m).0) in omega arith;
      later = λ f m.
          let o = expired-from s v s.modulus f (every-mem (not_expired s v s.modulus) ok.expired (mem-of-select kept queue m).0) in
          omega (arith, not-due s v f (mem-of-select kept queue m).1);
    }
  where
    kept : Frame → Bool
    kept f = not (due_now s v f)

-- k clocks later its readings are k less
pub left-moved :
    (s : Setup) (v j k : ℕ) (queue : List Frame) → Limits s → j + k ≤ s.epsilon → QueueLeft s (v % s.modulus) j queue → (f : Frame) → Memᴰ f queue
    → reading_of s ((v + k) % s.modulus) f + k ≡ reading_of s (v % s.modulus) f
left-moved s v j k queue limits few left f m =
    reading-later s v k f limits (left.frames f m).r-below
    (omega (arith, left.later f m, (left.frames f m).sound.close, limits.modulus-least))

-- the same queue then
pub left-later : (s : Setup) (v j k : ℕ) (queue : List Frame) → Limits s → j + k ≤ s.epsilon → QueueLeft s (v % s.modulus) j queue → QueueLeft s ((v + k) % s.modulus) (j + k) queue
unfolding key_near
left-later s v j k queue limits few left =
    record {
      frames = left.frames;
      ordered =
          sorted-ordered s ((v + k) % s.modulus) queue
          (sorted-rekey (key_near s (v % s.modulus)) (key_near s ((v + k) % s.modulus)) queue same (ordered-sorted s (v % s.modulus) queue left.ordered));
      single = left.single;
      early = λ f m. omega (arith, moved f m, left.early f m);
      later = λ f m. omega (arith, moved f m, left.later f m);
    }
  where
    moved : (f : Frame) → Memᴰ f queue → reading_of s ((v + k) % s.modulus) f + k ≡ reading_of s (v % s.modulus) f
    moved = left-moved s v j k queue limits few left

    same : (f g : Frame) → Memᴰ f queue → Memᴰ g queue → lex_compare (key_near s (v % s.modulus) f) (key_near s (v % s.modulus) g) ≡ lex_compare (key_near s ((v + k) % s.modulus) f) (key_near s ((v + k) % s.modulus) g)
    same f g m h =
        key-lower s k (reading_of s (v % s.modulus) f) (reading_of s ((v + k) % s.modulus) f) (reading_of s (v % s.modulus) g) (reading_of s ((v + k) % s.modulus) g)
        f g (moved f m) (moved g h)

-- such a queue is sound for its clock, where the least due clock allowed is the one after that at which it was left
pub left-ok : (s : Setup) (v k : ℕ) (queue : List Frame) → QueueLeft s v k queue → QueueOk s v (s.modulus + 1 - k) queue
left-ok s v k queue left =
    record {
      frames = left.frames;
      ordered = left.ordered;
      single = left.single;
      early = every-of-mem (not_early s v) queue (λ f m. early-to s v f (omega (arith, left.early f m)));
      expired = every-of-mem (not_expired s v (s.modulus + 1 - k)) queue (λ f m. expired-to s v (s.modulus + 1 - k) f (omega (arith, left.later f m)));
    }

-- what a tick leaves is never full
pub left-room : (s : Setup) (v : ℕ) (queue : List Frame) → Limits s → v < s.modulus → QueueLeft s v 0 queue → length queue < depth s.n s.epsilon s.delta
left-room s v queue limits below left = queue-room s v (s.modulus + 1 - 0) queue limits below (omega arith) (left-ok s v 0 queue left)

-- no queue is longer than two bytes can say
pub depth_small : (s : Setup) → Limits s → depth s.n s.epsilon s.delta < 65536
unfolding depth
depth_small s lim =
    let a : s.n * (s.delta + 3 * s.epsilon) ≤ 16 * (s.delta + 3 * s.epsilon) = mul-le-mul_right (s.delta + 3 * s.epsilon) lim.n-most in
    omega (arith, a, lim.epsilon-most, lim.delta-most)

-- bytes of which each frame passes 10 to 12 are a sound shelf where their frames are a sound queue, and not too many
pub bytes-sound : (s : Setup) (v least : ℕ) (bytes : List ℕ) → length (held s.epsilon bytes) ≤ depth s.n s.epsilon s.delta → every (passes s) (held_bytes s.epsilon bytes) ≡ true → QueueOk s v least (held s.epsilon bytes) → sound_holdback s v least bytes ≡ true
unfolding sound_holdback
bytes-sound s v least bytes few passed ok =
    and_intro (le-leb (two_at bytes 0) (depth s.n s.epsilon s.delta) (omega (arith, length-held s.epsilon bytes, few)))
    (and_intro passed (and_intro ok.ordered (and_intro ok.single (and_intro ok.early ok.expired))))

-- the frames of a queue in a buffer, with anything behind them
pub frames-sound : (s : Setup) (v least : ℕ) (queue : List Frame) (rest : List ℕ) → Limits s → length queue ≤ depth s.n s.epsilon s.delta → QueueOk s v least queue → sound_holdback s v least (encode_frames queue ++ rest) ≡ true
frames-sound s v least queue rest limits few ok =
    let wide : (f : Frame) → Memᴰ f queue → length f.stamp.kn ≡ width s.epsilon = λ f m. (ok.frames f m).sound.wide in
    let small : length queue < 65536 = omega (arith, few, depth_small s limits) in
    bytes-sound s v least (encode_frames queue ++ rest)
    (rw (held-frames s.epsilon queue rest wide small) few)
    (rw (held-encode s.epsilon queue rest wide small)
    (every_map (passes s) encode queue ∙ every-of-mem (λ f. passes s (encode f)) queue (λ f m. passes-encode s f limits (ok.frames f m))))
    (rw (held-frames s.epsilon queue rest wide small) ok)

-- and with zeros
pub queue-sound : (s : Setup) (v least : ℕ) (queue : List Frame) → Limits s → length queue ≤ depth s.n s.epsilon s.delta → QueueOk s v least queue → sound_holdback s v least (encode_holdback (holdback_size s) queue) ≡ true
unfolding encode_holdback padded
queue-sound s v least queue limits few ok = frames-sound s v least queue _ limits few ok
