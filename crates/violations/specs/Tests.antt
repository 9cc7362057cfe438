-- The promises as tests: what demands 2 and 3 say of a concrete list of calls, or of one call, tried by computation. A test for each clause;
-- proofs/Refuting shows that a promise makes its tests true, so that a test that computes to false refutes the promise.
use Rattle.std.specs.Prelude.{ℕ, suc, ◌+◌, ◌-◌, ◌*◌, ◌%◌, Bool, true, false, ◌&&◌, ◌||◌, not, cond, List, [], ◌∷◌, map, leb, ltb, eqb, length, take, get_or}
use Rattle.std.proofs.Math.Option.{Option, none, some}
use Rattle.std.proofs.Math.ListN.{get_elem?}
use Rattle.laws.specs.Lists.{tab, every, any, select, sort_by, overlay, same_list}
use Rattle.model.specs.Setup.{Setup, depth_of}
use Rattle.model.specs.Timestamp.{trimmed, widened, sound_clock, sound_tables}
use Rattle.model.specs.Frame.{encode}
use Rattle.model.specs.Batch.{batch_entries}
use Rattle.model.specs.Holdback.{held_bytes, sound_holdback, encode_frames, encode_holdback}
use Rattle.model.specs.Question.{first_no}
use Rattle.model.specs.Judge.{Asking, Heard, judge_questions, observer_questions}
use Rattle.model.specs.Codec.{WriteAnswer}
use Rattle.model.specs.Schedule.{Schedule}
use Rattle.model.specs.Wider.{wider_held_bytes}
use Rattle.model.specs.Published.{Process, Condition, in_order}
use Rattle.model.specs.Tick.{Input, holdback_size, least_due, sent_bytes, delivered_of, taken_count, tick}
use Rattle.model.specs.Observer.{Listening, observer_least, observer_delivered, listen}
use Rattle.model.specs.Run.{Source, sent_by, stale, Done, World, is_accepted, is_event, message_bytes}
use Rattle.theory.specs.Premises.{same_timestamp}
use Rattle.theory.specs.Demand2.{Published, Outcome, outcome_of, publish, heard_before, observed_before, reduced, reduced_frame}
use Rattle.theory.specs.Demand3.{covered, is_from, heard_in, earlier, due_here, covered_frame, written}
use Rattle.theory.specs.Charges.{shown_on, heard_and_due}
use Rattle.theory.specs.Through.{earlier_along, due_here_along, covered_along, written_along}

module _ {A : Type 0} where
  -- the test holds of every element at its position, counted from i
  unfoldable pub every_from : (ℕ → A → Bool) → ℕ → List A → Bool
  every_from p i [] = true
  every_from p i (x ∷ xs) = p i x && every_from p (suc i) xs

  -- the test holds of some element at its position, counted from i
  unfoldable pub any_from : (ℕ → A → Bool) → ℕ → List A → Bool
  any_from p i [] = false
  any_from p i (x ∷ xs) = p i x || any_from p (suc i) xs

  -- the two lists are the same, by a test of two elements
  unfoldable pub same_each : (A → A → Bool) → List A → List A → Bool
  same_each same [] [] = true
  same_each same [] (y ∷ ys) = false
  same_each same (x ∷ xs) [] = false
  same_each same (x ∷ xs) (y ∷ ys) = same x y && same_each same xs ys

-- where the first holds, the second does
abbrev pub implies : Bool → Bool → Bool
implies a b = cond a b true

-- the two lists of frames' bytes are the same
abbrev pub same_frames : List (List ℕ) → List (List ℕ) → Bool
same_frames xs ys = same_each same_list xs ys

-- Demand 3, `sending`: of one call, by what the writer answers
abbrev pub sends_right : (Done → WriteAnswer) → ℕ → Done → Bool
sends_right writer from d =
    implies (covered from d) (eqb (writer d).number 0 && (eqb d.output.answer.sent (writer d).size
    && same_list d.output.outgoing (writer d).buffer))

-- of the list
unfoldable pub sending_test : Setup → ℕ → List Done → Bool
sending_test s from past = every (λ d. sends_right (written s) from d) past

-- Demand 3, `hearing`: of entry e of the call at j, which comes from the call at k
abbrev pub verdict_right : ℕ → List Done → ℕ → Done → ℕ → ℕ → Option Done → Bool
verdict_right from past j d e k none = true
verdict_right from past j d e k (some m) =
    implies (covered from m) (eqb (get_or d.output.verdicts e 0)
    (cond (any (heard_in d.node k) (take j past) || any (is_from k) (take e d.call.sources)) 16 0))

-- by the entry's source
abbrev pub entry_right : ℕ → List Done → ℕ → Done → ℕ → Source → Bool
entry_right from past j d e (sent_by k) = verdict_right from past j d e k (get_elem? past k)
entry_right from past j d e stale = true

abbrev pub hears_right : ℕ → List Done → ℕ → Done → Bool
hears_right from past j d = implies (is_accepted d.output) (every_from (entry_right from past j d) 0 d.call.sources)

-- of the list
unfoldable pub hearing_test : Setup → ℕ → List Done → Bool
hearing_test s from past = every_from (hears_right from past) 0 past

-- Demand 3, `delivering`: of one call, by its covered frames and what they should be
abbrev pub delivers_right : Done → List (List ℕ) → List (List ℕ) → Bool
delivers_right d handed expected = implies (is_accepted d.output) (same_frames handed expected)

-- of the list
unfoldable pub delivering_test : Setup → ℕ → List Done → Bool
delivering_test s from past =
    every_from (λ j d. delivers_right d (select (covered_frame s from d.clock) (held_bytes s.epsilon d.output.delivery))
    (map message_bytes (sort_by (earlier s) (due_here s from (take (j + 1) past) d.node d.last d.clock)))) 0 past

-- Demand 3, `Leads`, one step: the call at j is a later one of the station of the call at i
abbrev pub later_than : ℕ → Done → ℕ → Option Done → Bool
later_than j b i none = false
later_than j b i (some a) = ltb i j && eqb a.node b.node

-- or takes the message that the call at i sent
abbrev pub takes_from : Done → ℕ → Bool
takes_from b i =
    is_accepted b.output && any_from (λ e o. is_from i o && eqb (get_or b.output.verdicts e 0) 0) 0 b.call.sources

abbrev pub step_to : List Done → ℕ → Done → ℕ → Bool
step_to past j b i = later_than j b i (get_elem? past i) || takes_from b i

-- Demand 3, `causality`: of the call a and every call from j on that it leads to, through the positions led to so far. One walk along the
-- list finds them all, since a step leads on in the list
unfoldable pub causes_right : (Done → Done → Bool) → ℕ → List Done → Done → List ℕ → ℕ → List Done → Bool
causes_right first from past a led j [] = true
causes_right first from past a led j (b ∷ bs) =
    cond (any (step_to past j b) led)
    (implies (covered from b) (first a b) && causes_right first from past a (j ∷ led) (suc j) bs)
    (causes_right first from past a led (suc j) bs)

abbrev pub cause_right : (Done → Done → Bool) → ℕ → List Done → ℕ → Done → Bool
cause_right first from past i a = implies (covered from a) (causes_right first from past a (i ∷ []) 0 past)

-- of the list
unfoldable pub causality_test : Setup → ℕ → List Done → Bool
causality_test s from past = every_from (cause_right (earlier s) from past) 0 past

-- 02, 2.10: the same by a schedule
unfoldable pub sending_along : Schedule → ℕ → List Done → Bool
sending_along g from past = every (λ d. sends_right (written_along g) from d) past

unfoldable pub hearing_along : Schedule → ℕ → List Done → Bool
hearing_along g from past = every_from (hears_right from past) 0 past

unfoldable pub delivering_along : Schedule → ℕ → List Done → Bool
delivering_along g from past =
    every_from (λ j d. delivers_right d (select (covered_along g from d.clock) (wider_held_bytes g d.output.delivery))
    (map message_bytes (sort_by (earlier_along g) (due_here_along g from (take (j + 1) past) d.node d.last d.clock)))) 0 past

unfoldable pub causality_along : Schedule → ℕ → List Done → Bool
causality_along g from past = every_from (cause_right (earlier_along g) from past) 0 past

-- 02, 2.11: two boards heard the same covered messages, a premise; and they have shown the same
unfoldable pub same_heard_test : Setup → ℕ → World → ℕ → ℕ → Bool
same_heard_test s from w a b = every_from (λ k m. implies (covered from m) (same_truth (heard_and_due s w a k m) (heard_and_due s w b k m))) 0 w.past
  where
    same_truth : Bool → Bool → Bool
    same_truth x y = cond x y (not y)

unfoldable pub shown_test : Setup → ℕ → List Done → ℕ → ℕ → Bool
shown_test s from past a b = same_frames (shown_on s from a past) (shown_on s from b past)

-- Demand 2 from any state, of an accepted call: a test for each clause. The verdicts, by what is asked
abbrev pub first_failed : Asking → (ℕ → Heard) → List (List ℕ) → List ℕ → Bool
first_failed asking before entries verdicts =
    every_from (λ k entry. eqb (get_or verdicts k 0) (first_no (asking (before k).queue entry))) 0 entries

unfoldable pub verdict_test : Input → Bool
verdict_test i = first_failed (judge_questions i.setup i.clock) (heard_before i) (batch_entries i.batch) (tick i).verdicts

unfoldable pub taken_test : Input → Bool
taken_test i = eqb (tick i).answer.taken (taken_count (take (length (batch_entries i.batch)) (tick i).verdicts))

unfoldable pub delivered_test : Input → Bool
delivered_test i = eqb (tick i).answer.delivered (length (delivered_of i))

unfoldable pub delivery_test : Input → Bool
delivery_test i = same_frames (held_bytes i.setup.epsilon (tick i).delivery) (map encode (delivered_of i))

unfoldable pub sent_test : Input → Bool
sent_test i = eqb (tick i).answer.sent (length (sent_bytes i))

unfoldable pub outgoing_test : Input → Bool
outgoing_test i = same_list (take (tick i).answer.sent (tick i).outgoing) (sent_bytes i)

-- a test of every step, 1 to ε
abbrev pub every_step : (ℕ → Bool) → ℕ → Bool
every_step p epsilon = every p (tab epsilon (λ k. k + 1))

unfoldable pub bounded_test : Input → Bool
bounded_test i =
    every_step (λ k. sound_tables i.setup.n i.setup.epsilon i.setup.modulus ((i.clock + k) % i.setup.modulus)
    (trimmed i.setup.epsilon (tick i).answer.tables)) i.setup.epsilon

unfoldable pub bounded_queue_test : Input → Bool
bounded_queue_test i =
    every_step (λ k. sound_holdback i.setup ((i.clock + k) % i.setup.modulus) (i.setup.modulus + 1 - k) (tick i).holdback)
    i.setup.epsilon

-- 02, 2.7: before each entry, and after the last one
abbrev pub room_before : Setup → List (List ℕ) → (ℕ → Heard) → Bool
room_before s entries before =
    every (λ k. ltb (length (before k).queue) (depth_of s) && leb (length (before k).queue) (s.n * (s.delta + 3 * s.epsilon - 1)))
    (tab (length entries + 1) (λ k. k))

unfoldable pub never_full_test : Input → Bool
never_full_test i = room_before i.setup (batch_entries i.batch) (heard_before i)

unfoldable pub repair_test : Input → Bool
repair_test i =
    eqb (tick i).answer.repair
    (cond (sound_tables i.setup.n i.setup.epsilon i.setup.modulus i.clock (trimmed i.setup.epsilon i.tables)) 0 1
    + cond (sound_holdback i.setup i.clock (least_due i.setup i.clock i.tables) i.holdback) 0 2)

unfoldable pub any_state_test : Input → Bool
any_state_test i =
    verdict_test i && (taken_test i && (delivered_test i && (delivery_test i && (sent_test i && (outgoing_test i && (repair_test i
    && (bounded_test i && (bounded_queue_test i && never_full_test i))))))))

-- 02, 2.6: the same of an observer's call
unfoldable pub observed_test : Listening → Bool
observed_test i =
    first_failed (observer_questions i.setup i.clock) (observed_before i) (batch_entries i.batch) (listen i).verdicts

unfoldable pub observer_taken_test : Listening → Bool
observer_taken_test i = eqb (listen i).taken (taken_count (take (length (batch_entries i.batch)) (listen i).verdicts))

unfoldable pub observer_delivered_test : Listening → Bool
observer_delivered_test i = eqb (listen i).delivered (length (observer_delivered i))

unfoldable pub observer_delivery_test : Listening → Bool
observer_delivery_test i = same_frames (held_bytes i.setup.epsilon (listen i).delivery) (map encode (observer_delivered i))

unfoldable pub observer_repair_test : Listening → Bool
observer_repair_test i =
    eqb (listen i).repair
    (cond (sound_clock i.setup.epsilon i.setup.modulus i.clock i.last) 0 1
    + cond (sound_holdback i.setup i.clock (observer_least i) i.holdback) 0 2)

unfoldable pub last_test : Listening → Bool
last_test i = eqb (listen i).last i.clock

unfoldable pub last_bounded_test : Listening → Bool
last_bounded_test i =
    every_step (λ k. sound_clock i.setup.epsilon i.setup.modulus ((i.clock + k) % i.setup.modulus) (listen i).last) i.setup.epsilon

unfoldable pub observer_queue_test : Listening → Bool
observer_queue_test i =
    every_step (λ k. sound_holdback i.setup ((i.clock + k) % i.setup.modulus) (i.setup.modulus + 1 - k) (listen i).holdback)
    i.setup.epsilon

unfoldable pub observer_never_full_test : Listening → Bool
observer_never_full_test i = room_before i.setup (batch_entries i.batch) (observed_before i)

unfoldable pub any_observer_test : Listening → Bool
any_observer_test i =
    observed_test i && (observer_taken_test i && (observer_delivered_test i && (observer_delivery_test i && (observer_repair_test i && (last_test i
    && (last_bounded_test i && (observer_queue_test i && observer_never_full_test i)))))))

-- Demand 2 from fresh stations, of an accepted call and its outcome in the published program
abbrev pub FreshTest : Type 0
FreshTest = Setup → Outcome → Done → Bool

unfoldable pub same_tables : FreshTest
same_tables s o d = same_timestamp d.output.answer.tables (widened (reduced s.modulus o.last))

unfoldable pub same_repair : FreshTest
same_repair s o d = eqb d.output.answer.repair 0

unfoldable pub same_taken : FreshTest
same_taken s o d = eqb d.output.answer.taken (length o.new_messages)

unfoldable pub same_verdicts : FreshTest
same_verdicts s o d = same_list d.output.verdicts (overlay o.verdicts d.call.verdicts)

unfoldable pub same_holdback : FreshTest
same_holdback s o d =
    same_list d.output.holdback
    (encode_holdback (holdback_size s) (map (reduced_frame s.modulus) (in_order s.epsilon o.buffer)))

unfoldable pub same_outgoing : FreshTest
same_outgoing s o d =
    same_list d.output.outgoing
    (overlay (cond d.call.send (encode (reduced_frame s.modulus o.message)) []) d.call.outgoing)

unfoldable pub same_sent : FreshTest
same_sent s o d =
    eqb d.output.answer.sent (length (cond d.call.send (encode (reduced_frame s.modulus o.message)) []))

unfoldable pub same_delivery : FreshTest
same_delivery s o d =
    same_list d.output.delivery (overlay (encode_frames (map (reduced_frame s.modulus) o.delivered)) d.call.delivery)

unfoldable pub same_delivered : FreshTest
same_delivered s o d = eqb d.output.answer.delivered (length o.delivered)

unfoldable pub same_all : FreshTest
same_all s o d =
    same_tables s o d && (same_repair s o d && (same_taken s o d && (same_verdicts s o d && (same_holdback s o d && (same_outgoing s o d
    && (same_sent s o d && (same_delivery s o d && same_delivered s o d)))))))

-- the test of a call, where its station has a process, by a condition of delivery
abbrev pub matched_by : FreshTest → Condition → Setup → Published → Done → Option Process → Bool
matched_by test delcond s w d none = false
matched_by test delcond s w d (some p) = test s (outcome_of delcond s w.sent p d.clock d.call) d

-- of every accepted call of a station in a list, the published program being at w before it
unfoldable pub fresh_test : FreshTest → Condition → Setup → Published → List Done → Bool
fresh_test test delcond s w [] = true
fresh_test test delcond s w (d ∷ ds) =
    implies (is_event d) (matched_by test delcond s w d (get_elem? w.processes d.node))
    && fresh_test test delcond s (publish delcond s w d) ds
