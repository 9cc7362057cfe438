-- 02, 2.10: one frame's verdict by the number of its first no, as the code finds it, by both pairs of limits. Assumes nothing.
use Prim.Native.Nat.{ℕ, ◌+◌, ◌≤◌}
use native.Mathlib.Omega.{arith}
use mathlib.Core.Path.{◌≡◌, refl, sym, ap, ◌∙◌}
use mathlib.Core.Bool.{Bool, true, false, not}
use mathlib.Core.List.{List, [], ◌∷◌, ◌++◌, Memᴰ}
use lib.Dec.{leb, ltb}
use borrow.Author.Tests.{leb-true}
use Rattle.laws.specs.Lists.{any, every}
use Rattle.laws.proofs.Numbers.{and_left}
use Rattle.model.specs.Setup.{Setup}
use Rattle.model.specs.Frame.{Frame}
use Rattle.model.specs.Question.{Question, ask, first_no, ask_range}
use Rattle.model.specs.Holdback.{same_origin, not_early}
use Rattle.model.specs.Judge.{Asking, taken, refused, verdict_by, ask_early, ask_repeat}
use Rattle.model.specs.Schedule.{Schedule, widening, modulus_of, own_limits}
use Rattle.model.specs.Wider.{wider_decode, wider_reading, wider_due, wider_frame_questions, wider_held, wider_due_before, not_late_along, wider_ask_counts, wider_place_questions, wider_observer_place_questions, wider_questions, wider_observer_questions, wider_place, wider_judge}
use Rattle.lemmas.proofs.Bounds.{Limits}
use Rattle.lemmas.proofs.Questions.{front-append}
use Rattle.lemmas.proofs.RoundTrip.{none-no}
use Rattle.lemmas.proofs.Schedules.{Good, limits-good, limits-modulus}
use Rattle.lemmas.proofs.WideFrames.{FrameWithin}
use Rattle.lemmas.proofs.WiderQueue.{QueueAlong, PassedAlong, sound-along, window-along, judged-along, observed-along}
use Rattle.holdback.specs.Seen.{Placeable, is_marked}
use Rattle.holdback.proofs.Seen.{seen_at}
use Rattle.node.proofs.Verdicts.{by_form, by-time, by-repeat, by-none, verdict-taken, verdict-refused}
use Rattle.widernode.specs.Views.{questions_for, not_late, time_questions}
use Rattle.widernode.specs.States.{Timed, Readable, Queued}

-- ---- the questions, as the code asks them: 10 to 12, 13 to 15, and 16

form-numbered : (g : Schedule) (bytes : List ℕ) → every (λ q. ltb 0 q.number) (wider_frame_questions g bytes) ≡ true
unfolding every wider_frame_questions ask_range
form-numbered g bytes = refl

time-numbered : (listens : Bool) (g : Schedule) (reading : ℕ) (f : Frame) → every (λ q. ltb 0 q.number) (time_questions listens g reading f) ≡ true
unfolding every time_questions
time-numbered true g reading f = refl
time-numbered false g reading f = refl

module _ (listens : Bool) (before after : Setup) (change v : ℕ) (queue : List Frame) (bytes : List ℕ) where
  abbrev g : Schedule
  g = widening before after change

  abbrev f : Frame
  f = wider_decode g bytes

  abbrev repeated : Bool
  repeated = any (same_origin f) queue

  abbrev timed : List Question
  timed = time_questions listens g (wider_reading g v f) f

  asked_is : questions_for listens g v queue bytes ≡ wider_frame_questions g bytes ++ (timed ++ (ask (not repeated) 16 ∷ []))
  unfolding questions_for wider_questions wider_observer_questions wider_place_questions wider_observer_place_questions time_questions not_late_along wider_due_before wider_due ask_early not_early wider_ask_counts ask_repeat
  asked_is = go listens
    where
      go : (b : Bool) → questions_for b g v queue bytes ≡ wider_frame_questions g bytes ++ (time_questions b g (wider_reading g v f) f ++ (ask (not repeated) 16 ∷ []))
      go true = refl
      go false = refl

  judge-is :
      verdict_by (first_no (wider_frame_questions g bytes ++ (timed ++ (ask (not repeated) 16 ∷ [])))) (wider_place g v queue f)
      ≡ wider_judge g v (questions_for listens g v) queue bytes
  unfolding wider_judge
  judge-is = ap (λ (qs : List Question). verdict_by (first_no qs) (wider_place g v queue f)) (sym asked_is)

  pub form-no : (k : ℕ) → k ≡ first_no (wider_frame_questions g bytes) → (k ≡ 0 → ⊥) → refused k ≡ wider_judge g v (questions_for listens g v) queue bytes
  form-no k e h = by_form (wider_frame_questions g bytes) timed repeated (wider_place g v queue f) k e h ∙ judge-is

  module _ (form : first_no (wider_frame_questions g bytes) ≡ 0) {reading : ℕ} (read : reading ≡ wider_reading g v f) where
    pub time-no : (k : ℕ) → k ≡ first_no (time_questions listens g reading f) → (k ≡ 0 → ⊥) → refused k ≡ wider_judge g v (questions_for listens g v) queue bytes
    time-no k e h =
        by-time (wider_frame_questions g bytes) timed repeated (wider_place g v queue f) (form-numbered g bytes) form k
        (e ∙ ap (λ (x : ℕ). first_no (time_questions listens g x f)) read) h
        ∙ judge-is

    module _ (time : first_no (time_questions listens g reading f) ≡ 0) where
      none : first_no timed ≡ 0
      none = ap (λ (x : ℕ). first_no (time_questions listens g x f)) (sym read) ∙ time

      pub repeat-no : repeated ≡ true → refused 16 ≡ wider_judge g v (questions_for listens g v) queue bytes
      repeat-no h =
          by-repeat (wider_frame_questions g bytes) timed repeated (wider_place g v queue f) (form-numbered g bytes) form (time-numbered listens g (wider_reading g v f) f) none h ∙ judge-is

      pub all_yes : repeated ≡ false → taken (wider_place g v queue f) ≡ wider_judge g v (questions_for listens g v) queue bytes
      all_yes new =
          by-none (wider_frame_questions g bytes) timed repeated (wider_place g v queue f) (form-numbered g bytes) form (time-numbered listens g (wider_reading g v f) f) none new ∙ judge-is

-- ---- and the other way round

pub taken-passed : (g : Schedule) (v : ℕ) (asking : Asking) (queue : List Frame) (bytes : List ℕ) (place : ℕ) → wider_judge g v asking queue bytes ≡ taken place
    → (first_no (asking queue bytes) ≡ 0) × (wider_place g v queue (wider_decode g bytes) ≡ place)
unfolding wider_judge
taken-passed g v asking queue bytes place e = verdict-taken (first_no (asking queue bytes)) (wider_place g v queue (wider_decode g bytes)) place e

pub refused-number : (g : Schedule) (v : ℕ) (asking : Asking) (queue : List Frame) (bytes : List ℕ) (number : ℕ) → wider_judge g v asking queue bytes ≡ refused number → number ≡ 0 → ⊥
unfolding wider_judge
refused-number g v asking queue bytes number e = verdict-refused (first_no (asking queue bytes)) (wider_place g v queue (wider_decode g bytes)) number e

-- one that is taken has passed 10 to 12
asked-form : (listens : Bool) (g : Schedule) (v : ℕ) (queue : List Frame) (bytes : List ℕ) → first_no (questions_for listens g v queue bytes) ≡ 0 → first_no (wider_frame_questions g bytes) ≡ 0
unfolding questions_for wider_questions wider_observer_questions
asked-form true g v queue bytes e = front-append (wider_frame_questions g bytes) _ e
asked-form false g v queue bytes e = front-append (wider_frame_questions g bytes) _ e

pub taken-readable : (listens : Bool) (g : Schedule) (v : ℕ) (queue : List Frame) (bytes : List ℕ) (place : ℕ) → Timed g v → wider_judge g v (questions_for listens g v) queue bytes ≡ taken place → Readable g v bytes
taken-readable listens g v queue bytes place t e =
    record { timed = t; passed = asked-form listens g v queue bytes (taken-passed g v (questions_for listens g v) queue bytes place e).0 }

-- and 13, 14 and 16
pub asked-passed : (listens : Bool) (g : Schedule) (v : ℕ) (queue : List Frame) (bytes : List ℕ) → Good g → first_no (questions_for listens g v queue bytes) ≡ 0 → PassedAlong g v queue (wider_decode g bytes)
unfolding questions_for
asked-passed true g v queue bytes good e = observed-along g good v queue bytes e
asked-passed false g v queue bytes good e = (judged-along g good v queue bytes e).0

-- ---- the table of origins

-- a frame of a sound queue has a place in it
pub queue-placeable : (g : Schedule) (v : ℕ) (queue : List Frame) → Good g → QueueAlong g v (modulus_of g) queue → (f : Frame) → Memᴰ f queue → Placeable (own_limits g) v f
queue-placeable g v queue good ok f m =
    record {
      station-below = (ok.frames f m).station-below;
      r-below = (ok.frames f m).r-below;
      not-before = omega (arith, window-along g good v (modulus_of g) queue (omega arith) ok f m, limits-modulus g good (modulus_of g));
    }

-- and so has one that has passed 13
pub late-placeable : (g : Schedule) (v : ℕ) (f : Frame) → Good g → FrameWithin g (own_limits g) f → modulus_of g ≤ wider_reading g v f + ((own_limits g).delta + (own_limits g).epsilon) → Placeable (own_limits g) v f
late-placeable g v f good ok h =
    record { station-below = ok.station-below; r-below = ok.r-below; not-before = omega (arith, limits-modulus g good (modulus_of g)) }

pub time-late : (listens : Bool) (g : Schedule) (reading : ℕ) (f : Frame) → first_no (time_questions listens g reading f) ≡ 0 → not_late g reading f ≡ true
unfolding time_questions
time-late listens g reading f e = (none-no (not_late g reading f) 12 _ e).0

-- question 16 by one look-up
pub marked-is : (g : Schedule) (v : ℕ) (buffer table : List ℕ) (f : Frame) → Timed g v → Queued g v buffer table → Placeable (own_limits g) v f
    → is_marked (own_limits g) v f table ≡ any (same_origin f) (wider_held g buffer)
marked-is g v buffer table f t q w =
    let lim : Limits (own_limits g) = limits-good g t.good (modulus_of g) in
    let ok : QueueAlong g v (modulus_of g) (wider_held g buffer) = sound-along g t.good v (modulus_of g) buffer q.sound in
    ap (is_marked (own_limits g) v f) q.table_is
    ∙ seen_at (own_limits g) v lim (omega (arith, t.below, limits-modulus g t.good (modulus_of g))) (wider_held g buffer) f (λ a m. queue-placeable g v (wider_held g buffer) t.good ok a m) w

-- 13 gives that r is near enough, where it is read already
pub late_asked : (g : Schedule) (v : ℕ) (f : Frame) {reading : ℕ} → reading ≡ wider_reading g v f → not_late g reading f ≡ true → modulus_of g ≤ wider_reading g v f + ((own_limits g).delta + (own_limits g).epsilon)
late_asked g v f {reading} e h =
    rw e at (leb-true (modulus_of g) (reading + ((own_limits g).delta + (own_limits g).epsilon)) (and_left (leb (modulus_of g) (reading + ((own_limits g).delta + (own_limits g).epsilon))) _ h))
