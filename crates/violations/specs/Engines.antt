-- 02, 2.9: calls of engines with long clocks; what demand 2 from any state says of such a call, and what 2.9's theorem says of a list of
-- calls, as tests.
use Rattle.std.specs.Prelude.{ℕ, ◌+◌, ◌-◌, ◌/◌, ◌%◌, ◌^◌, Bool, true, false, ◌&&◌, cond, List, [], ◌∷◌, ◌++◌, map, leb, eqb, length, take, drop, replicate}
use Rattle.std.proofs.Math.Option.{Option, none, some}
use Rattle.laws.specs.Lists.{tab, every, chained, joined, overlay, same_list}
use Rattle.model.specs.Setup.{Setup}
use Rattle.model.specs.Frame.{Frame}
use Rattle.model.specs.Batch.{batch_entries}
use Rattle.model.specs.Holdback.{held}
use Rattle.model.specs.Tick.{Input, Output, taken_count}
use Rattle.model.specs.Run.{Done, is_event}
use Rattle.model.specs.Long.{long_most, long_encode, long_before, long_holdback_size, long_held_bytes, long_held, long_sound_holdback, long_encode_frames, long_questions, long_tables_sound, long_least_due, long_sent, long_delivered, long_tick}
use Rattle.theory.specs.Premises.{same_timestamp}
use Rattle.theory.specs.LongAny.{long_heard_before}
use Rattle.theory.specs.LongClocks.{LongGroup, long_of, long_acted, reduced_stamp, reduced_long, rewritten, narrowed, narrowed_delivery}
use Rattle.violations.specs.Stories.{fresh_tables, batch_with}
use Rattle.violations.specs.Tests.{same_each, implies, first_failed, every_step, same_frames}

-- ---- calls

-- n 2, ε 1, δ 1; what stands for B is not looked at
abbrev pub engine_group : Setup
engine_group = record { n = 2; epsilon = 1; delta = 1; modulus = 0 }

-- a clock of six bytes
abbrev pub now : ℕ
now = 2 ^ 40 + 7

-- the bytes of a frame at ε 1, with c 0 and a count of one
abbrev pub engine_frame : ℕ → ℕ → List ℕ
engine_frame station r = long_encode (record { station = station; stamp = record { r = r; c = 0; kn = 0 ∷ 1 ∷ [] }; payload = [] })

-- a call for now, of an engine whose tables are fresh at the clock before, with nonsense behind the frames on its shelf
abbrev pub engine_call : Setup → List ℕ → List (List ℕ) → Input
engine_call s frames entries =
    record {
      setup = s;
      own = 0;
      clock = now;
      tables = fresh_tables (now - 1);
      holdback = frames ++ replicate (long_holdback_size s - length frames) 170;
      batch = batch_with entries;
      send = true;
      payload = 9 ∷ [];
      outgoing = replicate 77 3;
      verdicts = replicate 255 3;
      delivery = replicate (long_holdback_size s) 3;
    }

-- it hears frames of station 1 and 0 that are due, and the first again
abbrev pub hears_two : Input
hears_two = engine_call engine_group (0 ∷ 0 ∷ []) (engine_frame 1 (now - 2) ∷ engine_frame 0 (now - 2) ∷ engine_frame 1 (now - 2) ∷ [])

-- a shelf with a frame twice
abbrev pub held_twice : Input
held_twice = engine_call engine_group (2 ∷ 0 ∷ (engine_frame 1 now ++ engine_frame 1 now)) []

-- n 16, ε 1, δ 3: a shelf with 64 frames, of each station at four clocks, none of them due; it hears one more
abbrev pub full_group : Setup
full_group = record { n = 16; epsilon = 1; delta = 3; modulus = 0 }

abbrev pub holds_all : Input
holds_all = engine_call full_group (64 ∷ 0 ∷ joined (λ k. engine_frame (k / 4) (now - k % 4)) (tab 64 (λ k. k))) (engine_frame 0 (now - 4) ∷ [])

-- ---- tests of one call

unfoldable pub engine_verdict_test : Input → Bool
engine_verdict_test i = first_failed (long_questions i.setup i.clock) (long_heard_before i) (batch_entries i.batch) (long_tick i).verdicts

unfoldable pub engine_repair_test : Input → Bool
engine_repair_test i =
    eqb (long_tick i).answer.repair
    (cond (long_tables_sound i.setup i.clock i.tables) 0 1
    + cond (long_sound_holdback i.setup i.clock (long_least_due i.setup i.clock i.tables) i.holdback) 0 2)

unfoldable pub engine_taken_test : Input → Bool
engine_taken_test i = eqb (long_tick i).answer.taken (taken_count (take (length (batch_entries i.batch)) (long_tick i).verdicts))

unfoldable pub engine_delivery_test : Input → Bool
engine_delivery_test i =
    eqb (long_tick i).answer.delivered (length (long_delivered i))
    && same_frames (long_held_bytes i.setup.epsilon (long_tick i).delivery) (map long_encode (long_delivered i))

unfoldable pub engine_order_test : Input → Bool
engine_order_test i = chained (long_before i.setup) (long_delivered i)

unfoldable pub engine_sent_test : Input → Bool
engine_sent_test i =
    eqb (long_tick i).answer.sent (length (long_sent i)) && same_list (take (long_tick i).answer.sent (long_tick i).outgoing) (long_sent i)

-- the bytes beyond the hand-out stay
unfoldable pub engine_kept_test : Input → Bool
engine_kept_test i =
    same_list (drop (length (long_encode_frames (long_delivered i))) (long_tick i).delivery) (drop (length (long_encode_frames (long_delivered i))) i.delivery)

unfoldable pub engine_bounded_test : Input → Bool
engine_bounded_test i =
    every_step (λ k. long_tables_sound i.setup (i.clock + k) (long_tick i).answer.tables
    && long_sound_holdback i.setup (i.clock + k) (i.clock + 1) (long_tick i).holdback) i.setup.epsilon

-- before each entry, and after the last one
unfoldable pub engine_few_test : Input → Bool
engine_few_test i = every (λ k. leb (length (long_heard_before i k).queue) long_most) (tab (length (batch_entries i.batch) + 1) (λ k. k))

unfoldable pub engine_test : Input → Bool
engine_test i =
    engine_verdict_test i && (engine_repair_test i && (engine_taken_test i && (engine_delivery_test i && (engine_order_test i
    && (engine_sent_test i && (engine_kept_test i && (engine_bounded_test i && engine_few_test i)))))))

-- ---- tests of a list of calls

-- of an accepted call of a station, and of what comes of the same call of its engine: a test for each clause of `SameLong`
abbrev pub LongTest : Type 0
LongTest = Setup → Done → Output → Bool

unfoldable pub long_same_number : LongTest
long_same_number s d o = eqb o.answer.number 0

unfoldable pub long_same_repair : LongTest
long_same_repair s d o = eqb o.answer.repair d.output.answer.repair

unfoldable pub long_same_verdicts : LongTest
long_same_verdicts s d o =
    same_list (take (length d.call.sources) o.verdicts) (take (length d.call.sources) d.output.verdicts)

unfoldable pub long_same_taken : LongTest
long_same_taken s d o = eqb o.answer.taken d.output.answer.taken

unfoldable pub long_same_tables : LongTest
long_same_tables s d o = same_timestamp d.output.answer.tables (reduced_stamp s.modulus o.answer.tables)

unfoldable pub long_same_frames : LongTest
long_same_frames s d o =
    same_list (take d.output.answer.sent d.output.outgoing) (narrowed s.modulus (take o.answer.sent o.outgoing))

unfoldable pub long_same_frames_read : LongTest
long_same_frames_read s d o =
    same_list (take d.output.answer.sent d.output.outgoing) (rewritten s (take o.answer.sent o.outgoing))

unfoldable pub long_same_delivered : LongTest
long_same_delivered s d o = eqb o.answer.delivered d.output.answer.delivered

unfoldable pub long_same_delivery : LongTest
long_same_delivery s d o = same_list d.output.delivery (overlay (narrowed_delivery s o.delivery) d.call.delivery)

-- the two frames are the same
unfoldable pub same_frame : Frame → Frame → Bool
same_frame f g = eqb f.station g.station && (same_timestamp f.stamp g.stamp && same_list f.payload g.payload)

unfoldable pub long_same_held : LongTest
long_same_held s d o =
    same_each same_frame (held s.epsilon d.output.delivery) (map (reduced_long s.modulus) (long_held s.epsilon o.delivery))

unfoldable pub long_same_all : LongTest
long_same_all s d o =
    long_same_number s d o && (long_same_repair s d o && (long_same_verdicts s d o && (long_same_taken s d o && (long_same_tables s d o
    && (long_same_frames s d o && (long_same_frames_read s d o && (long_same_delivered s d o && (long_same_delivery s d o && long_same_held s d o))))))))

-- the test of a call, where its station has an engine
abbrev pub beside_by : LongTest → Setup → Done → Option Output → Bool
beside_by test s d none = false
beside_by test s d (some o) = test s d o

-- of every accepted call of a station in a list, the engines being as they are before it
unfoldable pub beside_test : LongTest → Setup → LongGroup → List Done → Bool
beside_test test s workbench [] = true
beside_test test s workbench (d ∷ ds) =
    implies (is_event d) (beside_by test s d (long_of (is_event d) workbench d)) && beside_test test s (long_acted workbench d) ds
