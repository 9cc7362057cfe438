-- One frame's verdict by the number of its first no, as the code finds it. Assumes nothing.
use Prim.Native.Nat.{ℕ, zero, suc, ◌+◌, ◌≤◌}
use native.Mathlib.Omega.{arith}
use mathlib.Core.Path.{◌≡◌, refl, sym, ap, ◌∙◌}
use mathlib.Core.Bool.{Bool, true, false, not}
use mathlib.Core.List.{List, [], ◌∷◌, ◌++◌}
use lib.Dec.{leb, ltb}
use borrow.Author.Tests.{leb-true, eq-eqb}
use Rattle.laws.specs.Lists.{any, every}
use Rattle.laws.proofs.Numbers.{and_intro}
use Rattle.model.specs.Setup.{Setup}
use Rattle.model.specs.Frame.{Frame, decode}
use Rattle.model.specs.Order.{reading_of}
use Rattle.model.specs.Question.{Question, ask, first_no, frame_questions, ask_form, ask_range, ask_stamp}
use Rattle.model.specs.Holdback.{held, passes, same_origin, not_early}
use Rattle.model.specs.Judge.{Asking, taken, refused, verdict_number, verdict_place, verdict_by, judge, judge_questions, place_questions, observer_questions, observer_place_questions, ask_late, ask_early, ask_counts, ask_repeat, place_for}
use Rattle.lemmas.proofs.Bounds.{Limits, FrameOk, QueueOk}
use Rattle.lemmas.proofs.Questions.{limits-from, first-yes, other-yes, no-append, yes-append, front-append}
use Rattle.lemmas.proofs.Queue.{InWindow, Passed, judged-passed, observed-passed, sound-queue, queue-window, expired-to}
use Rattle.holdback.specs.Seen.{Placeable, is_marked}
use Rattle.holdback.specs.Sound.{fits}
use Rattle.holdback.proofs.Seen.{seen_at}
use Rattle.node.specs.declared.verdict.Placed.{Placed}
use Rattle.node.specs.declared.verdict.Verdict as codes
use Rattle.node.specs.declared.verdict.Verdict.TheVariants.{Taken, Refused}
use Rattle.node.specs.Views.{verdict_of, LocatedBy, questions_for, time_questions, time_questions_at}
use Rattle.node.specs.States.{Timed, Readable, Queued}

-- ---- the questions, as the code asks them: 10 to 12, 13 to 15, and 16

asked_is :
    (listens : Bool) (s : Setup) (v : ℕ) (queue : List Frame) (bytes : List ℕ)
    → questions_for listens s v queue bytes
    ≡ frame_questions s bytes ++ (time_questions listens s v (decode s.epsilon bytes) ++ (ask_repeat queue (decode s.epsilon bytes) ∷ []))
unfolding questions_for judge_questions observer_questions place_questions observer_place_questions time_questions time_questions_at ask_late ask_early ask_counts not_early
asked_is true s v queue bytes = refl
asked_is false s v queue bytes = refl

frame-numbered : (s : Setup) (bytes : List ℕ) → every (λ q. ltb 0 q.number) (frame_questions s bytes) ≡ true
unfolding every frame_questions ask_form ask_range ask_stamp
frame-numbered s bytes = refl

time-numbered : (listens : Bool) (s : Setup) (v : ℕ) (f : Frame) → every (λ q. ltb 0 q.number) (time_questions listens s v f) ≡ true
unfolding every time_questions time_questions_at
time-numbered true s v f = refl
time-numbered false s v f = refl

-- ---- the verdict by three lists of questions, whatever the place is: 10 to 12, 13 to 15, and 16

module _ (form time : List Question) (shelved : Bool) (place : ℕ) where
  -- 16
  abbrev last : List Question
  last = ask (not shelved) 16 ∷ []

  -- all of them
  abbrev in_turn : List Question
  in_turn = form ++ (time ++ last)

  by_number : (k : ℕ) → first_no in_turn ≡ k → verdict_by (first_no in_turn) place ≡ verdict_by k place
  by_number k e = ap (λ (n : ℕ). verdict_by n place) e

  refused-by : (k : ℕ) → (k ≡ 0 → ⊥) → k ≡ first_no in_turn → refused k ≡ verdict_by (first_no in_turn) place
  refused-by zero h e = absurd (h refl)
  refused-by (suc k) h e = sym (by_number (suc k) (sym e))

  pub by_form : (k : ℕ) → k ≡ first_no form → (k ≡ 0 → ⊥) → refused k ≡ verdict_by (first_no in_turn) place
  by_form k e h = refused-by k h (no-append form (time ++ last) k e h)

  -- no question has the number 0
  module _ (form-numbered : every (λ q. ltb 0 q.number) form ≡ true) (formed : first_no form ≡ 0) where
    from-time : first_no in_turn ≡ first_no (time ++ last)
    from-time = yes-append form (time ++ last) form-numbered formed

    pub by-time : (k : ℕ) → k ≡ first_no time → (k ≡ 0 → ⊥) → refused k ≡ verdict_by (first_no in_turn) place
    by-time k e h = refused-by k h (no-append time last k e h ∙ sym from-time)

    module _ (time-numbered : every (λ q. ltb 0 q.number) time ≡ true) (timed : first_no time ≡ 0) where
      from-repeat : first_no in_turn ≡ first_no last
      from-repeat = from-time ∙ yes-append time last time-numbered timed

      pub by-repeat : shelved ≡ true → refused 16 ≡ verdict_by (first_no in_turn) place
      unfolding first_no
      by-repeat h = refused-by 16 (λ e. let z : ◌≡◌ {A = ℕ} 16 0 = e in omega arith) (sym (from-repeat ∙ rw h))

      pub by-none : shelved ≡ false → taken place ≡ verdict_by (first_no in_turn) place
      unfolding first_no
      by-none new = sym (by_number 0 (from-repeat ∙ rw new))

-- ---- at a node

module _ (listens : Bool) (s : Setup) (v : ℕ) (queue : List Frame) (bytes : List ℕ) where
  abbrev f : Frame
  f = decode s.epsilon bytes

  abbrev repeated : Bool
  repeated = any (same_origin f) queue

  judge-is :
      verdict_by (first_no (frame_questions s bytes ++ (time_questions listens s v f ++ (ask (not repeated) 16 ∷ [])))) (place_for s v queue f)
      ≡ judge s v (questions_for listens s v) queue bytes
  unfolding judge ask_repeat
  judge-is = ap (λ (qs : List Question). verdict_by (first_no qs) (place_for s v queue f)) (sym (asked_is listens s v queue bytes))

  pub form-no : (k : ℕ) → k ≡ first_no (frame_questions s bytes) → (k ≡ 0 → ⊥) → refused k ≡ judge s v (questions_for listens s v) queue bytes
  form-no k e h = by_form (frame_questions s bytes) (time_questions listens s v f) repeated (place_for s v queue f) k e h ∙ judge-is

  module _ (form : first_no (frame_questions s bytes) ≡ 0) where
    pub time-no : (k : ℕ) → k ≡ first_no (time_questions listens s v f) → (k ≡ 0 → ⊥) → refused k ≡ judge s v (questions_for listens s v) queue bytes
    time-no k e h =
        by-time (frame_questions s bytes) (time_questions listens s v f) repeated (place_for s v queue f) (frame-numbered s bytes) form k e h ∙ judge-is

    module _ (time : first_no (time_questions listens s v f) ≡ 0) where
      pub repeat-no : any (same_origin f) queue ≡ true → refused 16 ≡ judge s v (questions_for listens s v) queue bytes
      repeat-no h =
          by-repeat (frame_questions s bytes) (time_questions listens s v f) repeated (place_for s v queue f) (frame-numbered s bytes) form (time-numbered listens s v f) time h ∙ judge-is

      pub all_yes : any (same_origin f) queue ≡ false → taken (place_for s v queue f) ≡ judge s v (questions_for listens s v) queue bytes
      all_yes new =
          by-none (frame_questions s bytes) (time_questions listens s v f) repeated (place_for s v queue f) (frame-numbered s bytes) form (time-numbered listens s v f) time new ∙ judge-is

-- and the other way round
pub verdict-taken : (k place place' : ℕ) → verdict_by k place ≡ taken place' → (k ≡ 0) × (place ≡ place')
verdict-taken zero place place' e = (refl, ap verdict_place e)
verdict-taken (suc k) place place' e = absurd (let z : suc k ≡ 0 = ap verdict_number e in omega arith)

pub verdict-refused : (k place number : ℕ) → verdict_by k place ≡ refused number → number ≡ 0 → ⊥
verdict-refused zero place number e z = let y : ◌≡◌ {A = ℕ} 0 1 = cc in omega arith
verdict-refused (suc k) place number e z = let y : suc k ≡ number = ap verdict_number e in omega arith

pub taken-passed : (s : Setup) (v : ℕ) (asking : Asking) (queue : List Frame) (bytes : List ℕ) (place : ℕ) → judge s v asking queue bytes ≡ taken place
    → (first_no (asking queue bytes) ≡ 0) × (place_for s v queue (decode s.epsilon bytes) ≡ place)
unfolding judge
taken-passed s v asking queue bytes place e = verdict-taken (first_no (asking queue bytes)) (place_for s v queue (decode s.epsilon bytes)) place e

pub refused-number : (s : Setup) (v : ℕ) (asking : Asking) (queue : List Frame) (bytes : List ℕ) (number : ℕ) → judge s v asking queue bytes ≡ refused number → number ≡ 0 → ⊥
unfolding judge
refused-number s v asking queue bytes number e = verdict-refused (first_no (asking queue bytes)) (place_for s v queue (decode s.epsilon bytes)) number e

-- the tags of the code's verdict, by which a match tells them apart
pub record Tags : Type 0 where
  pub tag : codes.Verdict → ℕ
  pub at-taken : (placed : Placed) → tag (Taken placed) ≡ 0
  pub at-refused : (number : ℕ) → tag (Refused number) ≡ 1

pub is-refused : (tags : Tags) (r : codes.Verdict) → tags.tag r ≡ 1 → verdict_of r ≡ refused (verdict_number (verdict_of r))
is-refused tags (Taken placed) e = absurd (omega (arith, tags.at-taken placed))
is-refused tags (Refused number) e = refl

pub refused-located : {start : ℕ → ℕ} {reading number : ℕ} → LocatedBy start reading (Refused number)
refused-located =
    record {
      stands = λ placed e. absurd (let z : ◌≡◌ {A = ℕ} 0 1 = cc in omega arith);
      reads = λ placed e. absurd (let z : ◌≡◌ {A = ℕ} 0 1 = cc in omega arith);
    }

pub taken-located : {start : ℕ → ℕ} {reading : ℕ} {placed : Placed} → placed.place.at ≡ start placed.place.index → placed.reading ≡ reading → LocatedBy start reading (Taken placed)
taken-located {placed} h r =
    record {
      stands = λ placed' e. let same : placed ≡ placed' = cc in rw (← same) h;
      reads = λ placed' e. let same : placed ≡ placed' = cc in rw (← same) r;
    }

-- ---- a frame that has passed 10 to 14 fits

pub fits-when : (s : Setup) (v : ℕ) (bytes : List ℕ) → first_no (frame_questions s bytes) ≡ 0 → s.modulus ≤ reading_of s v (decode s.epsilon bytes) + (s.delta + s.epsilon)
    → not_early s v (decode s.epsilon bytes) ≡ true → fits s v s.modulus bytes ≡ true
unfolding fits passes
fits-when s v bytes form late early =
    and_intro (eq-eqb (first_no (frame_questions s bytes)) 0 form) (and_intro early (expired-to s v s.modulus (decode s.epsilon bytes) (omega arith)))

-- one that is taken has passed 10 to 12
pub asked-form : (listens : Bool) (s : Setup) (v : ℕ) (queue : List Frame) (bytes : List ℕ) → first_no (questions_for listens s v queue bytes) ≡ 0 → first_no (frame_questions s bytes) ≡ 0
asked-form listens s v queue bytes e =
    front-append (frame_questions s bytes) (time_questions listens s v f ++ last) (ap first_no (sym (asked_is listens s v queue bytes)) ∙ e)
  where
    f : Frame
    f = decode s.epsilon bytes

    last : List Question
    last = ask_repeat queue f ∷ []

pub taken-readable : (listens : Bool) (s : Setup) (v : ℕ) (queue : List Frame) (bytes : List ℕ) (place : ℕ) → Timed s v → judge s v (questions_for listens s v) queue bytes ≡ taken place → Readable s v bytes
taken-readable listens s v queue bytes place t e =
    record { timed = t; passed = asked-form listens s v queue bytes (taken-passed s v (questions_for listens s v) queue bytes place e).0 }

-- and 13, 14 and 16
pub asked-passed : (listens : Bool) (s : Setup) (v : ℕ) (queue : List Frame) (bytes : List ℕ) → Limits s → first_no (questions_for listens s v queue bytes) ≡ 0 → Passed s v queue (decode s.epsilon bytes)
unfolding questions_for
asked-passed true s v queue bytes limits e = observed-passed s v queue bytes limits e
asked-passed false s v queue bytes limits e = judged-passed s v queue bytes limits e

-- ---- the table of origins

pub placeable-of : (s : Setup) (v : ℕ) (f : Frame) → InWindow s v s.modulus f → FrameOk s f → Placeable s v f
placeable-of s v f w ok = record { station-below = ok.station-below; r-below = ok.r-below; not-before = omega (arith, w.low) }

-- a frame that has passed 13 has a place in the table of origins
pub late-placeable : (s : Setup) (v : ℕ) (f : Frame) → FrameOk s f → s.modulus ≤ reading_of s v f + (s.delta + s.epsilon) → Placeable s v f
late-placeable s v f ok h = record { station-below = ok.station-below; r-below = ok.r-below; not-before = omega arith }

pub time-late : (listens : Bool) (s : Setup) (v : ℕ) (f : Frame) → first_no (time_questions listens s v f) ≡ 0 → s.modulus ≤ reading_of s v f + (s.delta + s.epsilon)
unfolding time_questions time_questions_at
time-late listens s v f e =
    leb-true s.modulus (reading_of s v f + (s.delta + s.epsilon)) (first-yes (leb s.modulus (reading_of s v f + (s.delta + s.epsilon))) 12 _ e)

pub time-early : (listens : Bool) (s : Setup) (v : ℕ) (f : Frame) → first_no (time_questions listens s v f) ≡ 0 → not_early s v f ≡ true
unfolding time_questions time_questions_at not_early
time-early listens s v f e =
    first-yes (not_early s v f) 13 _ (other-yes (leb s.modulus (reading_of s v f + (s.delta + s.epsilon))) 12 _ e)

-- question 16 by one look-up
pub marked-is : (s : Setup) (v : ℕ) (buffer table starts : List ℕ) (f : Frame) → Timed s v → Queued s v buffer table starts → Placeable s v f
    → is_marked s v f table ≡ any (same_origin f) (held s.epsilon buffer)
marked-is s v buffer table starts f t q w =
    let lim : Limits s = limits-from s t.limits in
    let ok : QueueOk s v s.modulus (held s.epsilon buffer) = sound-queue s v s.modulus buffer lim q.sound in
    ap (is_marked s v f) q.table_is
    ∙ seen_at s v lim t.below (held s.epsilon buffer) f (λ g m. placeable-of s v g (queue-window s v s.modulus (held s.epsilon buffer) lim ok g m) (ok.frames g m)) w
