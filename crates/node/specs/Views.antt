-- What the code's values say in the model's terms.
-- Assumes nothing.
use Rattle.std.specs.Prelude.{ℕ, ◌≡◌, Bool, ◌&&◌, cond, List, [], ◌∷◌, leb, length}
use Rattle.model.specs.Setup.{verdict_length}
use Rattle.model.specs.Setup as setups
use Rattle.model.specs.Frame.{Frame, decode}
use Rattle.model.specs.Order.{reading_of}
use Rattle.model.specs.Batch.{exact_batch}
use Rattle.model.specs.Question.{Question, ask}
use Rattle.model.specs.Codec.{ask_payload}
use Rattle.model.specs.Holdback.{not_early_at}
use Rattle.model.specs.Judge.{Asking, taken, refused, ask_late_at, ask_counts_at, judge_questions, observer_questions}
use Rattle.model.specs.Judge as judging
use Rattle.model.specs.Tick.{Input}
use Rattle.setup.specs.Views.{setup_of}
use Rattle.setup.specs.declared.limits.Setup.{Setup}
use Rattle.timestamp.specs.Views.{stamp_of}
use Rattle.timestamp.specs.declared.stamp.Timestamp.{Timestamp}
use Rattle.holdback.specs.Queue.{frame_start}
use Rattle.node.specs.declared.verdict.Placed.{Placed}
use Rattle.node.specs.declared.verdict.Verdict.{Verdict}
use Rattle.node.specs.declared.verdict.Verdict.TheVariants.{Taken, Refused}

-- the arguments of a call
abbrev pub call_input : Setup → ℕ → ℕ → Timestamp → List ℕ → List ℕ → Bool → List ℕ → List ℕ → List ℕ → List ℕ → Input
call_input setup own clock tables holdback batch send payload outgoing verdicts delivery =
    record {
      setup = setup_of setup;
      own = own;
      clock = clock;
      tables = stamp_of tables;
      holdback = holdback;
      batch = batch;
      send = send;
      payload = payload;
      outgoing = outgoing;
      verdicts = verdicts;
      delivery = delivery;
    }

-- questions 4 to 6 of a call, by the lengths of the longest frame and of the shelf
unfoldable pub buffer_questions : ℕ → ℕ → List ℕ → List ℕ → List ℕ → List ℕ → List ℕ → List Question
buffer_questions longest size batch payload outgoing verdicts delivery =
    ask_payload payload
    ∷ ask (exact_batch batch) 5
    ∷ ask (leb longest (length outgoing) && (leb verdict_length (length verdicts) && leb size (length delivery))) 6
    ∷ []

-- 01: "A verdict is either taken, with its place on the shelf, or refused, with the number"
abbrev pub verdict_of : Verdict → judging.Verdict
verdict_of (Taken placed) = taken placed.place.index
verdict_of (Refused number) = refused number

-- where the place of a taken frame stands, by where each place does, and the reading of its r near v
pub record LocatedBy (start : ℕ → ℕ) (reading : ℕ) (r : Verdict) : Type 0 where
  pub stands : (placed : Placed) → r ≡ Taken placed → placed.place.at ≡ start placed.place.index
  pub reads : (placed : Placed) → r ≡ Taken placed → placed.reading ≡ reading

abbrev pub Located : setups.Setup → ℕ → List ℕ → List ℕ → Verdict → Type 0
Located s v buffer bytes r = LocatedBy (frame_start s.epsilon buffer) (reading_of s v (decode s.epsilon bytes)) r

-- what is asked of a frame: 10 to 16. 02, 2.6: "not 15" of one that only listens
unfoldable pub questions_for : Bool → setups.Setup → ℕ → Asking
questions_for listens s v = cond listens (observer_questions s v) (judge_questions s v)

-- 13 to 15 of them: what is asked of a frame's clock and counts, with r at a reading, and v at its own
unfoldable pub time_questions_at : Bool → setups.Setup → ℕ → ℕ → Frame → List Question
time_questions_at listens s at reading f =
    ask_late_at s at reading ∷ ask (not_early_at s at reading f) 14 ∷ cond listens [] (ask_counts_at s at reading f ∷ [])

-- r is read near v, which reads B
unfoldable pub time_questions : Bool → setups.Setup → ℕ → Frame → List Question
time_questions listens s v f = time_questions_at listens s s.modulus (reading_of s v f) f
