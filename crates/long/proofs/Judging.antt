-- 02, 2.9: the questions of one frame as an engine asks them: 10 to 12, 13 to 15, 16 and 18. Assumes nothing.
use Prim.Native.Nat.{ℕ, ◌^◌, ◌≤◌, ◌<◌}
use native.Mathlib.Omega.{arith}
use mathlib.Core.Path.{◌≡◌, refl, sym, ap, ◌∙◌}
use mathlib.Core.Bool.{true, false}
use mathlib.Core.List.{List, [], ◌∷◌, ◌++◌, append-nil}
use lib.Dec.{ltb}
use lib.ListN.{length}
use borrow.Author.Tests.{lt-ltb, le-ltb, eq-eqb}
use Rattle.laws.specs.Lists.{any, every}
use Rattle.model.specs.Setup.{Setup, width}
use Rattle.model.specs.Frame.{Frame, payload_count_at, decode}
use Rattle.model.specs.Question.{Question, first_no, ask_range, ask_stamp}
use Rattle.model.specs.Holdback.{same_origin}
use Rattle.model.specs.Judge.{ask_repeat}
use Rattle.model.specs.Long.{plainly, six_on, long_most, long_formed, long_decode, long_frame_questions, long_passes, long_not_early, ask_long_early, ask_held, long_place_questions, long_questions, long_held, long_holdback_size, longest_long}
use Rattle.lemmas.proofs.Bounds.{LongLimits, FrameOk}
use Rattle.lemmas.proofs.Questions.{long-limits-from, no-append, yes-append, front-append}
use Rattle.lemmas.proofs.LongFrames.{LongFormed, long-formed-from, long-form-passed, long-frame-passed}
use Rattle.lemmas.proofs.LongTick.{long-taken}
use Rattle.longqueue.specs.Queue.{Extent}
use Rattle.longqueue.proofs.Extents.{held-length, extent-inside}
use Rattle.node.specs.Views.{time_questions_at}
use Rattle.node.specs.States.{Askable}
use Rattle.long.specs.States.{Timed, Readable}

-- ---- what a frame that has passed 10 to 12 gives

pub record Given (s : Setup) (bytes : List ℕ) : Type 0 where
  pub limits : LongLimits s
  pub formed : long_formed s.epsilon bytes ≡ true
  pub frame : FrameOk (plainly s) (long_decode s.epsilon bytes)
  -- r stands in it
  pub clock-there : 10 ≤ length bytes

pub given : {s : Setup} {v : ℕ} {bytes : List ℕ} → Readable s v bytes → Given s bytes
given {s} {v} {bytes} p =
    let lim : LongLimits s = long-limits-from s p.timed.limits in
    let none : first_no (long_frame_questions s bytes ++ []) ≡ 0 = ap first_no (append-nil (long_frame_questions s bytes)) ∙ p.passed in
    let form : long_formed s.epsilon bytes ≡ true = long-form-passed s bytes [] none in
    let parts : LongFormed s.epsilon bytes = long-formed-from s.epsilon bytes form in
    record {
      limits = lim;
      formed = form;
      frame = (long-frame-passed s bytes [] lim.epsilon-pos none).0;
      clock-there = omega (arith, parts.long, parts.later.size);
    }

-- so 13 to 15 can be asked of it, from its second section on
pub askable : {s : Setup} {v : ℕ} {bytes : List ℕ} → (reading : ℕ) → Readable s v bytes → reading ≡ (long_decode s.epsilon bytes).stamp.r → Askable s v reading (six_on bytes)
unfolding payload_count_at long_decode
askable {s} {v} {bytes} reading p e =
    let g : Given s bytes = given p in
    let parts : LongFormed s.epsilon bytes = long-formed-from s.epsilon bytes g.formed in
    record {
      n_pos = g.limits.n_pos;
      epsilon-pos = g.limits.epsilon-pos;
      epsilon-most = g.limits.epsilon-most;
      delta-most = g.limits.delta-most;
      clock-fits = omega (arith, p.timed.below);
      reading-fits = omega (arith, g.frame.r-below);
      c-below = g.frame.sound.close;
      long = omega (arith, parts.later.size);
    }

-- ---- the questions, as the code asks them

frame-numbered : (s : Setup) (bytes : List ℕ) → every (λ q. ltb 0 q.number) (long_frame_questions s bytes) ≡ true
unfolding every long_frame_questions ask_range ask_stamp
frame-numbered s bytes = refl

time-numbered : (s : Setup) (v reading : ℕ) (f : Frame) → every (λ q. ltb 0 q.number) (time_questions_at false s v reading f) ≡ true
unfolding every time_questions_at
time-numbered s v reading f = refl

module _ (s : Setup) (v : ℕ) (queue : List Frame) (bytes : List ℕ) where
  abbrev f : Frame
  f = long_decode s.epsilon bytes

  -- 13 to 15, of what stands six bytes on
  abbrev times : List Question
  times = time_questions_at false s v f.stamp.r (decode s.epsilon (six_on bytes))

  -- 16 and 18
  abbrev last : List Question
  last = ask_repeat queue f ∷ ask_held queue ∷ []

  asked_is : long_questions s v queue bytes ≡ long_frame_questions s bytes ++ (times ++ last)
  unfolding long_questions long_place_questions time_questions_at ask_long_early long_not_early long_decode
  asked_is = refl

  pub form-no : (k : ℕ) → k ≡ first_no (long_frame_questions s bytes) → (k ≡ 0 → ⊥) → k ≡ first_no (long_questions s v queue bytes)
  form-no k e h = no-append (long_frame_questions s bytes) (times ++ last) k e h ∙ ap first_no (sym asked_is)

  module _ (form : first_no (long_frame_questions s bytes) ≡ 0) where
    from-time : first_no (long_questions s v queue bytes) ≡ first_no (times ++ last)
    from-time = ap first_no asked_is ∙ yes-append (long_frame_questions s bytes) (times ++ last) (frame-numbered s bytes) form

    pub time-no : (k : ℕ) → k ≡ first_no times → (k ≡ 0 → ⊥) → k ≡ first_no (long_questions s v queue bytes)
    time-no k e h = no-append times last k e h ∙ sym from-time

    module _ (time : first_no times ≡ 0) where
      from-repeat : first_no (long_questions s v queue bytes) ≡ first_no last
      from-repeat = from-time ∙ yes-append times last (time-numbered s v f.stamp.r (decode s.epsilon (six_on bytes))) time

      pub repeat-no : any (same_origin f) queue ≡ true → 16 ≡ first_no (long_questions s v queue bytes)
      unfolding ask_repeat first_no
      repeat-no h = sym (from-repeat ∙ rw h)

      module _ (new : any (same_origin f) queue ≡ false) where
        pub held-no : long_most ≤ length queue → 18 ≡ first_no (long_questions s v queue bytes)
        unfolding ask_repeat ask_held first_no
        held-no h = sym (from-repeat ∙ rw (new, le-ltb (length queue) long_most h))

        pub all_yes : length queue < long_most → 0 ≡ first_no (long_questions s v queue bytes)
        unfolding ask_repeat ask_held first_no
        all_yes h = sym (from-repeat ∙ rw (new, lt-ltb (length queue) long_most h))

-- ---- a frame that is taken

pub taken-readable : {s : Setup} {v : ℕ} (queue : List Frame) (bytes : List ℕ) → Timed s v → 0 ≡ first_no (long_questions s v queue bytes) → Readable s v bytes
taken-readable {s} {v} queue bytes t e =
    record { timed = t; passed = front-append (long_frame_questions s bytes) (times s v queue bytes ++ last s v queue bytes) (ap first_no (sym (asked_is s v queue bytes)) ∙ sym e) }

pub taken-passes : {s : Setup} {v : ℕ} {bytes : List ℕ} → Readable s v bytes → long_passes s bytes ≡ true
unfolding long_passes
taken-passes {s} {v} {bytes} p = eq-eqb (first_no (long_frame_questions s bytes)) 0 p.passed

-- there is room for it
pub taken-few : {s : Setup} {v : ℕ} {buffer : List ℕ} {count stop : ℕ} (bytes : List ℕ) → Timed s v → Extent s buffer count stop
    → 0 ≡ first_no (long_questions s v (long_held s.epsilon buffer) bytes) → count < long_most
taken-few {s} {v} {buffer} bytes t extent e =
    let room = (long-taken s v (long_held s.epsilon buffer) bytes (long-limits-from s t.limits).epsilon-pos (sym e)).room in
    omega (arith, room, extent.count-is, held-length s.epsilon buffer)

-- and its end is a number of the machine
pub stop-small : {s : Setup} {v : ℕ} {buffer : List ℕ} {count stop : ℕ} → Timed s v → Extent s buffer count stop → stop ≤ 2 ^ 16
unfolding long_holdback_size longest_long width
stop-small {s} {v} {buffer} {count} {stop} t extent =
    let lim : LongLimits s = long-limits-from s t.limits in
    omega (arith, extent-inside extent, extent.sized, lim.epsilon-most)
