-- 02, 2.4: "Comparing two frames shall say which is first and also what decided". Each r is read near v.
use Prim.Native.Nat.{ℕ, zero, suc, ◌-◌, compare, Ordering}
use Rattle.std.specs.Prelude.{cond, List, ◌∷◌, ◌++◌, ltb, get_or}
use Rattle.laws.specs.Lex.{first_difference}
use Rattle.model.specs.Setup.{Setup}
use Rattle.model.specs.Timestamp.{sum}
use Rattle.model.specs.Frame.{Frame, decode}
use Rattle.model.specs.Order.{reading_of, key_near, reading_clock}
use Rattle.model.specs.Question.{Question, ask, first_no, ask_setup, frame_questions}

-- 02: "sum, the count at a given clock, station, r, or nothing where all agree"
pub data Reason : Type 0 where
  by_sum : Reason
  by_count : ℕ → Reason
  by_station : Reason
  by_r : Reason
  by_nothing : Reason

-- 02: "which is first and also what decided"
pub record Comparison : Type 0 where
  pub order : Ordering
  pub reason : Reason

-- what stands behind the counts of a key
abbrev pub reason_past : ℕ → Reason
reason_past zero = by_station
reason_past (suc zero) = by_r
reason_past (suc (suc k)) = by_nothing

-- what stands at a place of a key. 01: "sum; count at offset c; at c − 1; and so on …; station number; r". A count is named here by how
-- far its clock lies before the sum
unfoldable pub reason_at : ℕ → ℕ → Reason
reason_at epsilon zero = by_sum
reason_at epsilon (suc k) = cond (ltb k epsilon) (by_count k) (reason_past (k - epsilon))

-- two keys, by ε. 01: "first difference decides"
unfoldable pub compare_keys : ℕ → List ℕ → List ℕ → Comparison
compare_keys epsilon a b =
    let at : ℕ = first_difference a b in
    record { order = compare (get_or a at 0) (get_or b at 0); reason = reason_at epsilon at }

-- 02: a count's "clock modulo B": k before the sum, where v reads B
unfoldable pub count_clock : Setup → ℕ → ℕ → ℕ → ℕ
count_clock s v total k = reading_clock s v (total - k)

-- a reason with the count named by its clock
abbrev pub clocked : (ℕ → ℕ) → Reason → Reason
clocked clock by_sum = by_sum
clocked clock (by_count k) = by_count (clock k)
clocked clock by_station = by_station
clocked clock by_r = by_r
clocked clock by_nothing = by_nothing

-- the same comparison, with the count named by its clock
abbrev pub at_clocks : (ℕ → ℕ) → Comparison → Comparison
at_clocks clock c = record { order = c.order; reason = clocked clock c.reason }

-- 02: which of two frames is first, and what decided
unfoldable pub compared : Setup → ℕ → Frame → Frame → Comparison
compared s v f g =
    at_clocks (count_clock s v (sum (reading_of s v f) f.stamp.c)) (compare_keys s.epsilon (key_near s v f) (key_near s v g))

-- ---- in numbers

-- 0 the first is first, 1 the second, 2 they are alike
abbrev pub order_number : Ordering → ℕ
order_number Ordering.lt = 0
order_number Ordering.gt = 1
order_number Ordering.eq = 2

-- 0 nothing, 1 sum, 2 count, 3 station, 4 r
abbrev pub reason_number : Reason → ℕ
reason_number by_sum = 1
reason_number (by_count clock) = 2
reason_number by_station = 3
reason_number by_r = 4
reason_number by_nothing = 0

-- the count's clock; 0 where no count decided
abbrev pub reason_clock : Reason → ℕ
reason_clock by_sum = 0
reason_clock (by_count clock) = clock
reason_clock by_station = 0
reason_clock by_r = 0
reason_clock by_nothing = 0

-- ---- the comparison alone, as a call

-- it asks 1, 2, then 10 to 12 of the first frame and of the second
unfoldable pub compare_questions : Setup → ℕ → ℕ → List ℕ → List ℕ → List Question
compare_questions s own v first second =
    ask_setup s own ∷ ask (ltb v s.modulus) 2 ∷ (frame_questions s first ++ frame_questions s second)

-- what it answers; 01: a refused one "answers the number alone"
pub record CompareAnswer : Type 0 where
  -- 0, or the check's number
  pub number : ℕ
  pub order : ℕ
  pub reason : ℕ
  pub clock : ℕ

-- the answer by the number of the first no
abbrev pub compare_by : ℕ → Comparison → CompareAnswer
compare_by zero c =
    record {
      number = 0;
      order = order_number c.order;
      reason = reason_number c.reason;
      clock = reason_clock c.reason;
    }
compare_by (suc k) c = record { number = suc k; order = 0; reason = 0; clock = 0 }

-- the comparison of two frames' bytes at a clock
unfoldable pub compare_call : Setup → ℕ → ℕ → List ℕ → List ℕ → CompareAnswer
compare_call s own v first second =
    compare_by (first_no (compare_questions s own v first second)) (compared s v (decode s.epsilon first) (decode s.epsilon second))
