-- 01: the questions "Of each frame", the verdict, and the hearing of a batch.
use Rattle.std.specs.Prelude.{ℕ, zero, suc, ◌+◌, ◌-◌, not, List, [], ◌∷◌, ◌++◌, leb}
use Rattle.laws.specs.Lists.{any, leading, insert_at, fold_left}
use Rattle.model.specs.Setup.{Setup}
use Rattle.model.specs.Timestamp.{Timestamp, counts_from, at_most, absorb}
use Rattle.model.specs.Frame.{Frame, decode}
use Rattle.model.specs.Order.{reading_of, before}
use Rattle.model.specs.Question.{Question, ask, first_no, frame_questions}
use Rattle.model.specs.Holdback.{same_origin, not_early}

-- 01, 13: "Is r at most δ + ε behind v?", with r at a reading, and v at its own
abbrev pub ask_late_at : Setup → ℕ → ℕ → Question
ask_late_at s at reading = ask (leb at (reading + (s.delta + s.epsilon))) 13

-- r is read near v, which reads B
unfoldable pub ask_late : Setup → ℕ → Frame → Question
ask_late s v f = ask_late_at s s.modulus (reading_of s v f)

-- 01, 14: "Is the sum at most ε − 1 past v?"
unfoldable pub ask_early : Setup → ℕ → Frame → Question
ask_early s v f = ask (not_early s v f) 14

-- 01, 15: "Is each count for clock v or later at most n − 1?", likewise
abbrev pub ask_counts_at : Setup → ℕ → ℕ → Frame → Question
ask_counts_at s at reading f = ask (at_most (s.n - 1) (counts_from s.epsilon reading f.stamp.kn at)) 15

unfoldable pub ask_counts : Setup → ℕ → Frame → Question
ask_counts s v f = ask_counts_at s s.modulus (reading_of s v f) f

-- 01, 16: "Is that station and r not yet shelved?"
unfoldable pub ask_repeat : List Frame → Frame → Question
ask_repeat queue f = ask (not (any (same_origin f) queue)) 16

-- 01: 13 to 16. 02, 2.7: "17 leaves the questions"
unfoldable pub place_questions : Setup → ℕ → List Frame → Frame → List Question
place_questions s v queue f = ask_late s v f ∷ ask_early s v f ∷ ask_counts s v f ∷ ask_repeat queue f ∷ []

-- 01: "Of each frame, in order": 10 to 16
unfoldable pub judge_questions : Setup → ℕ → List Frame → List ℕ → List Question
judge_questions s v queue bytes = frame_questions s bytes ++ place_questions s v queue (decode s.epsilon bytes)

-- 02, 2.6: "It judges frames by 10 to 14, 16 and 17, not 15: all n stations may be ahead of it"; with 2.7 not by 17 either
unfoldable pub observer_place_questions : Setup → ℕ → List Frame → Frame → List Question
observer_place_questions s v queue f = ask_late s v f ∷ ask_early s v f ∷ ask_repeat queue f ∷ []

unfoldable pub observer_questions : Setup → ℕ → List Frame → List ℕ → List Question
observer_questions s v queue bytes = frame_questions s bytes ++ observer_place_questions s v queue (decode s.epsilon bytes)

-- 01: "A verdict is either taken, with its place on the shelf, or refused, with the number"
pub data Verdict : Type 0 where
  taken : ℕ → Verdict
  refused : ℕ → Verdict

-- 01: "the verdict buffer gets 0 or the number"
abbrev pub verdict_number : Verdict → ℕ
verdict_number (taken place) = 0
verdict_number (refused number) = number

-- 01: "its place on the shelf"; 0 for a refused frame, which has none
abbrev pub verdict_place : Verdict → ℕ
verdict_place (taken place) = place
verdict_place (refused number) = 0

-- 01: "places count from 0": the shelved frames that come before it
unfoldable pub place_for : Setup → ℕ → List Frame → Frame → ℕ
place_for s v queue f = leading (λ g. before s v g f) queue

-- what is asked of a frame: questions about the frames that are shelved at that moment, and its bytes
abbrev pub Asking : Type 0
Asking = List Frame → List ℕ → List Question

-- the verdict by the number of the first no
abbrev pub verdict_by : ℕ → ℕ → Verdict
verdict_by zero place = taken place
verdict_by (suc k) place = refused (suc k)

-- one frame's verdict
unfoldable pub judge : Setup → ℕ → Asking → List Frame → List ℕ → Verdict
judge s v asking queue bytes =
    verdict_by (first_no (asking queue bytes)) (place_for s v queue (decode s.epsilon bytes))

-- what hearing has made of the shelf so far, and the verdicts' numbers
pub record Heard : Type 0 where
  -- 01: the frames on the shelf
  pub queue : List Frame
  pub verdicts : List ℕ

-- 01, tick 3: "A taken frame goes on the shelf"; "a no skips it"
abbrev pub hear_by : Verdict → Frame → Heard → Heard
hear_by (taken place) f h = record { queue = insert_at place f h.queue; verdicts = h.verdicts ++ (0 ∷ []) }
hear_by (refused number) f h = record { queue = h.queue; verdicts = h.verdicts ++ (number ∷ []) }

-- one entry of the batch heard: judged, and shelved or skipped
unfoldable pub hear_one : Setup → ℕ → Asking → Heard → List ℕ → Heard
hear_one s v asking h bytes = hear_by (judge s v asking h.queue bytes) (decode s.epsilon bytes) h

-- 01, tick 3: "Each frame of the bundle is judged in turn", by the questions asked
unfoldable pub hear : Setup → ℕ → Asking → Heard → List (List ℕ) → Heard
hear s v asking h entries = fold_left (hear_one s v asking) h entries

-- 01, tick 3: of a taken frame "c and each count become the larger of own and frame's"; a refused one is not "counted in". Of a stamp with
-- its r at a reading, and v at its own
abbrev pub absorb_at : ℕ → ℕ → ℕ → ℕ → Timestamp → Timestamp → Timestamp
absorb_at zero epsilon at reading stamp t = absorb epsilon at t reading stamp
absorb_at (suc k) epsilon at reading stamp t = t

-- of a frame, by the verdict's number
abbrev pub absorb_by : ℕ → Setup → ℕ → Frame → Timestamp → Timestamp
absorb_by number s v f t = absorb_at number s.epsilon s.modulus (reading_of s v f) f.stamp t

-- the same of all entries of the batch, by the verdicts' numbers
unfoldable pub absorb_each : (ℕ → List ℕ → Timestamp → Timestamp) → Timestamp → List (List ℕ) → List ℕ → Timestamp
absorb_each one t [] numbers = t
absorb_each one t (bytes ∷ rest) [] = t
absorb_each one t (bytes ∷ rest) (number ∷ numbers) = absorb_each one (one number bytes t) rest numbers

unfoldable pub absorb_all : Setup → ℕ → Timestamp → List (List ℕ) → List ℕ → Timestamp
absorb_all s v t entries numbers =
    absorb_each (λ number bytes u. absorb_by number s v (decode s.epsilon bytes) u) t entries numbers
