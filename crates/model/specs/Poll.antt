-- 02, 2.5: "When does something show next?", asked after a tick at clock v. Due clocks are read near v, which reads B.
use Rattle.std.specs.Prelude.{ℕ, zero, suc, ◌+◌, Bool, List, ◌∷◌, map, leb, length}
use Rattle.std.proofs.Math.Option
use Rattle.std.proofs.Math.Option.{Option, none}
use Rattle.laws.specs.Lists.{select, smallest}
use Rattle.model.specs.Setup.{Setup}
use Rattle.model.specs.Frame.{Frame}
use Rattle.model.specs.Order.{due_near, reading_clock}
use Rattle.model.specs.Question.{Question, first_no, ask_setup}
use Rattle.model.specs.Tick.{opening_queue, holdback_questions}

-- 02: "checks 1 to 3"
unfoldable pub poll_questions : Setup → ℕ → ℕ → List ℕ → List Question
poll_questions s own v holdback = ask_setup s own ∷ holdback_questions s v holdback

-- 02: "the shelf is judged for the last tick's clock v, every due clock past v; an unsound one answers as an empty one"
unfoldable pub polled_queue : Setup → ℕ → List ℕ → List Frame
polled_queue s v holdback = opening_queue s v (s.modulus + 1) holdback

-- 02: "the soonest due clock … over all shelved frames", here as a reading
unfoldable pub soonest_due : Setup → ℕ → List Frame → Option ℕ
soonest_due s v queue = smallest (map (due_near s v) queue)

-- 02: "the next due clock, or none", modulo B
unfoldable pub next_due : Setup → ℕ → List Frame → Option ℕ
next_due s v queue = Option.map (reading_clock s v) (soonest_due s v queue)

-- 02: "due at most d ticks after v"
unfoldable pub due_within : Setup → ℕ → ℕ → Frame → Bool
due_within s v d f = leb (due_near s v f) (s.modulus + d)

-- 02: "the number so due over all shelved frames"
unfoldable pub number_within : Setup → ℕ → ℕ → List Frame → ℕ
number_within s v d queue = length (select (due_within s v d) queue)

-- what a poll answers; 01: a refused one "answers the number alone"
pub record PollAnswer : Type 0 where
  -- 0, or the check's number
  pub number : ℕ
  -- the next due clock, or none
  pub next : Option ℕ
  -- how many are due within d ticks
  pub within : ℕ

-- the answer by the number of the first no
abbrev pub poll_by : ℕ → Setup → ℕ → ℕ → List Frame → PollAnswer
poll_by zero s v d queue = record { number = 0; next = next_due s v queue; within = number_within s v d queue }
poll_by (suc k) s v d queue = record { number = suc k; next = none; within = 0 }

-- the poll. The shelf is only read
unfoldable pub poll : Setup → ℕ → ℕ → ℕ → List ℕ → PollAnswer
poll s own v d holdback = poll_by (first_no (poll_questions s own v holdback)) s v d (polled_queue s v holdback)
