-- The premises can be met: lists of calls from damage in every memory, and from fresh stations, without and with an observer, by computation.
-- Assumes nothing.
use Prim.Native.Nat.{ℕ, ◌+◌, ◌-◌, ◌%◌}
use mathlib.Core.Path.{◌≡◌, refl}
use mathlib.Core.Bool.{Bool, true, false}
use mathlib.Core.List.{List, [], ◌∷◌, ◌++◌, map}
use mathlib.Core.Option.{Option, none, some}
use lib.ListN.{length, take, drop, replicate, get_elem?}
use Rattle.laws.specs.Lists.{largest, select, sort_by, same_list, joined}
use Rattle.model.specs.Setup.{Setup}
use Rattle.model.specs.Timestamp.{Timestamp}
use Rattle.model.specs.Frame.{encode}
use Rattle.model.specs.Holdback.{held_bytes}
use Rattle.model.specs.Question.{first_no}
use Rattle.model.specs.Judge.{judge_questions, observer_questions}
use Rattle.model.specs.Tick.{holdback_size}
use Rattle.model.specs.Published.{Condition, Process, known, beyond, initial, event_c, event_kn, counted, next_event, rank, less, deliverable, deliverable_by, in_order, same_message, new_ones, event_of, buffered, delivered_at, advanced, message_of, started}
use Rattle.model.specs.Run.{Node, Source, sent_by, stale, Call, Done, lengthened, input_of, listening_of, listened_output, is_accepted, moved_clock, node_after, output_of, done_of, act, at_start, run_from, is_event, sends, message_bytes}
use Rattle.model.proofs.Computing.{computing}
use Rattle.theory.specs.Premises.{same_setup, together, distinct, valid_for, exact_holdback, good_start, largest_clock, stale_until, entries_allowed, one_setup, true_clock, step_allowed, hears_allowed, plain_call, accepted_well, allowed, keeps, none_stale, steps_of_one, is_sent, same_timestamp, is_fresh, all_fresh}
use Rattle.theory.specs.Demand2.{messages_heard, outcome_of, publish, publish_all, published_start, published_after, Matched}
use Rattle.theory.specs.Demand3.{covered_from, covered_frame, Promised}
use Rattle.theory.proofs.Demand2.{demand2-fresh}
use Rattle.theory.proofs.OneProgram.{demand2-ones}
use Rattle.theory.proofs.Demand3.{demand3, demand3-fresh}

-- every definition of the runs, the premises and the published program, opened at once
unfoldable running : Unit {0}
unfolding keeps allowed plain_call accepted_well one_setup true_clock step_allowed hears_allowed same_setup together distinct valid_for exact_holdback good_start entries_allowed stale_until largest_clock largest same_list none_stale steps_of_one is_sent same_timestamp is_fresh all_fresh covered_frame covered_from act at_start run_from done_of output_of node_after moved_clock is_accepted lengthened input_of listening_of listened_output is_event sends message_bytes known beyond initial event_c event_kn counted next_event rank less deliverable deliverable_by in_order sort_by same_message new_ones event_of buffered delivered_at advanced message_of started messages_heard outcome_of publish publish_all published_start computing
running = tt

-- n 2, ε 2, δ 1 and the least B
abbrev group : Setup
group = record { n = 2; epsilon = 2; delta = 1; modulus = 14 }

-- a frame's bytes
abbrev bytes_of : ℕ → ℕ → ℕ → List ℕ → List ℕ → List ℕ
bytes_of station r c kn payload =
    encode (record { station = station; stamp = record { r = r; c = c; kn = kn }; payload = payload })

-- tables and a queue of nonsense
abbrev bad_tables : Timestamp
bad_tables = record { r = 5; c = 9; kn = replicate 32 77 }

abbrev bad_queue : List ℕ
bad_queue = replicate (holdback_size group) 170

-- tables that were never written by a tick, but look sound for clock 13, two clocks after theirs, and a queue that does for clock 12
abbrev likely_tables : Timestamp
likely_tables = record { r = 11; c = 0; kn = 2 ∷ 1 ∷ 2 ∷ 0 ∷ replicate 28 255 }

abbrev forged : List ℕ
forged = bytes_of 1 11 0 (0 ∷ 1 ∷ 1 ∷ 0 ∷ []) (9 ∷ [])

abbrev likely_queue : List ℕ
likely_queue = take (holdback_size group) (1 ∷ 0 ∷ (forged ++ bad_queue))

-- the clocks start ε apart, and below B by 4 and 2: X is 12, older frames may be heard up to 15, and messages are covered from 19 on
abbrev damaged_nodes : List Node
damaged_nodes =
    record { listens = false; own = 0; clock = 10; tables = bad_tables; holdback = likely_queue }
    ∷ record { listens = false; own = 1; clock = 12; tables = likely_tables; holdback = bad_queue }
    ∷ []

-- what a call hears: an entry and its source
pub record Sourced : Type 0 where
  pub bytes : List ℕ
  pub source : Source

abbrev batch_of : List Sourced → List ℕ
batch_of entries = length entries ∷ joined (λ (e : Sourced). length e.bytes ∷ e.bytes) entries

-- a call of the node that moves its true clock by a step to this one
abbrev stepping : ℕ → ℕ → ℕ → Bool → List ℕ → List Sourced → Call
stepping step node clock send payload entries =
    record {
      node = node;
      setup = group;
      wider = none;
      spare = [];
      own = node;
      clock = clock % 14;
      step = step;
      batch = batch_of entries;
      sources = map (λ (e : Sourced). e.source) entries;
      send = send;
      payload = payload;
      outgoing = replicate 71 3;
      verdicts = replicate 255 3;
      delivery = replicate (holdback_size group) 3;
    }

-- by one
abbrev calling : ℕ → ℕ → Bool → List ℕ → List Sourced → Call
calling node clock send payload entries = stepping 1 node clock send payload entries

abbrev quiet : ℕ → ℕ → Call
quiet node clock = calling node clock false [] []

-- a quiet call that moves the clock by ε
abbrev nudged : ℕ → ℕ → Call
nudged node clock = stepping 2 node clock false [] []

-- a call that sends one byte and hears these
abbrev sending : ℕ → ℕ → ℕ → List Sourced → Call
sending node clock byte entries = calling node clock true (byte ∷ []) entries

abbrev hearing : ℕ → ℕ → List Sourced → Call
hearing node clock entries = calling node clock false [] entries

-- a call that fails a check, by its setup and clock
abbrev failing : ℕ → Setup → ℕ → Call
failing node s clock =
    record {
      node = node;
      setup = s;
      wider = none;
      spare = [];
      own = node;
      clock = clock;
      step = 7;
      batch = [];
      sources = [];
      send = true;
      payload = [];
      outgoing = [];
      verdicts = [];
      delivery = [];
    }

-- an entry from the call at a position, and an older frame
abbrev from : ℕ → List ℕ → Sourced
from k bytes = record { bytes = bytes; source = sent_by k }

abbrev older : List ℕ → Sourced
older bytes = record { bytes = bytes; source = stale }

-- older frames: one that is taken, scraps that get 10, and at clock 13 one each that gets 13, 14 and 15
abbrev old : Sourced
old = older (bytes_of 0 12 0 (1 ∷ 1 ∷ 1 ∷ 0 ∷ []) (7 ∷ []))

abbrev scrap : Sourced
scrap = older (1 ∷ 2 ∷ [])

abbrev too_late : Sourced
too_late = older (bytes_of 0 9 0 (1 ∷ 1 ∷ 1 ∷ 0 ∷ []) (7 ∷ []))

abbrev too_early : Sourced
too_early = older (bytes_of 0 0 1 (1 ∷ 1 ∷ 1 ∷ 1 ∷ []) (7 ∷ []))

abbrev too_full : Sourced
too_full = older (bytes_of 0 13 0 (1 ∷ 2 ∷ 2 ∷ 0 ∷ []) (7 ∷ []))

-- older frames at the last clock at which one may be heard, 15: they claim an event at 16 that never was
abbrev ghost : Sourced
ghost = older (bytes_of 0 1 1 (2 ∷ 2 ∷ 1 ∷ 1 ∷ []) (8 ∷ []))

abbrev ghost' : Sourced
ghost' = older (bytes_of 1 2 0 (2 ∷ 1 ∷ 1 ∷ 0 ∷ []) (8 ∷ []))

-- what node 1 sends at 16 still has that event in its counts, and gets 15
abbrev haunted : List ℕ
haunted = bytes_of 1 2 0 (2 ∷ 2 ∷ 2 ∷ 0 ∷ []) (2 ∷ [])

-- a covered message of node 1 at 20, and one of node 0 at 19, sent because of it: the effect has the smaller r
abbrev cause : List ℕ
cause = bytes_of 1 6 0 (1 ∷ 0 ∷ 1 ∷ 0 ∷ []) (66 ∷ [])

abbrev effect : List ℕ
effect = bytes_of 0 5 1 (1 ∷ 1 ∷ 1 ∷ 1 ∷ []) (65 ∷ [])

-- and one of node 0 at 21, due one clock after these
abbrev third : List ℕ
third = bytes_of 0 7 0 (1 ∷ 2 ∷ 1 ∷ 0 ∷ []) (67 ∷ [])

-- the calls; B wraps at clock 14, two calls fail a check (clock 99; a setup of no nodes), and the last message sent is lost. Steps are of 1, and four
-- of 2, which is ε: from damage, past the due clock of a junk frame, to the due clock of covered messages, and past it
abbrev damaged_calls : List Call
damaged_calls =
    stepping 2 0 12 true (1 ∷ []) (old ∷ scrap ∷ [])
    ∷ hearing 1 13 (old ∷ too_late ∷ too_early ∷ too_full ∷ [])
    ∷ failing 0 group 99
    ∷ quiet 0 13 ∷ quiet 1 14
    ∷ failing 1 (record { n = 0; epsilon = 2; delta = 1; modulus = 14 }) 1
    ∷ hearing 1 15 (ghost ∷ []) ∷ quiet 0 14 ∷ hearing 0 15 (ghost' ∷ [])
    ∷ sending 1 16 2 [] ∷ hearing 0 16 (from 9 haunted ∷ [])
    ∷ quiet 1 17 ∷ quiet 0 17 ∷ quiet 1 18 ∷ quiet 0 18
    ∷ stepping 2 1 20 true (66 ∷ []) [] ∷ sending 0 19 65 (from 15 cause ∷ [])
    ∷ hearing 0 20 (from 15 cause ∷ from 16 effect ∷ [])
    ∷ hearing 1 21 (from 16 effect ∷ from 15 cause ∷ from 16 effect ∷ [])
    ∷ sending 0 21 67 [] ∷ hearing 1 22 (from 19 third ∷ [])
    ∷ stepping 2 0 23 true (68 ∷ []) [] ∷ nudged 1 24
    ∷ []

pub damaged-start : good_start group damaged_nodes ≡ true
unfolding running
damaged-start = refl

pub damaged-keeps : keeps group (largest_clock damaged_nodes) (at_start damaged_nodes) damaged_calls ≡ true
unfolding running
damaged-keeps = refl

-- what came of each call: the true clock, the number, mend, frames taken and handed out, bytes sent, and the verdicts
abbrev figures : Done → List ℕ
figures d =
    d.clock ∷ d.output.answer.number ∷ d.output.answer.repair ∷ d.output.answer.taken ∷ d.output.answer.delivered
    ∷ d.output.answer.sent ∷ take (length d.call.sources) d.output.verdicts

-- damage is mended, older frames are taken and refused, calls are refused, repeats are passed over
pub damaged-figures :
    map figures (run_from (at_start damaged_nodes) damaged_calls).past
    ≡ (12 ∷ 0 ∷ 1 ∷ 1 ∷ 0 ∷ 12 ∷ 0 ∷ 10 ∷ [])
    ∷ (13 ∷ 0 ∷ 2 ∷ 1 ∷ 0 ∷ 0 ∷ 0 ∷ 13 ∷ 14 ∷ 15 ∷ [])
    ∷ (12 ∷ 2 ∷ 0 ∷ 0 ∷ 0 ∷ 0 ∷ [])
    ∷ (13 ∷ 0 ∷ 0 ∷ 0 ∷ 0 ∷ 0 ∷ [])
    ∷ (14 ∷ 0 ∷ 0 ∷ 0 ∷ 0 ∷ 0 ∷ [])
    ∷ (14 ∷ 1 ∷ 0 ∷ 0 ∷ 0 ∷ 0 ∷ [])
    ∷ (15 ∷ 0 ∷ 0 ∷ 1 ∷ 1 ∷ 0 ∷ 0 ∷ [])
    ∷ (14 ∷ 0 ∷ 0 ∷ 0 ∷ 1 ∷ 0 ∷ [])
    ∷ (15 ∷ 0 ∷ 0 ∷ 1 ∷ 1 ∷ 0 ∷ 0 ∷ [])
    ∷ (16 ∷ 0 ∷ 0 ∷ 0 ∷ 0 ∷ 12 ∷ [])
    ∷ (16 ∷ 0 ∷ 0 ∷ 0 ∷ 0 ∷ 0 ∷ 15 ∷ [])
    ∷ (17 ∷ 0 ∷ 0 ∷ 0 ∷ 0 ∷ 0 ∷ [])
    ∷ (17 ∷ 0 ∷ 0 ∷ 0 ∷ 0 ∷ 0 ∷ [])
    ∷ (18 ∷ 0 ∷ 0 ∷ 0 ∷ 0 ∷ 0 ∷ [])
    ∷ (18 ∷ 0 ∷ 0 ∷ 0 ∷ 0 ∷ 0 ∷ [])
    ∷ (20 ∷ 0 ∷ 0 ∷ 0 ∷ 1 ∷ 12 ∷ [])
    ∷ (19 ∷ 0 ∷ 0 ∷ 1 ∷ 1 ∷ 12 ∷ 0 ∷ [])
    ∷ (20 ∷ 0 ∷ 0 ∷ 1 ∷ 0 ∷ 0 ∷ 16 ∷ 0 ∷ [])
    ∷ (21 ∷ 0 ∷ 0 ∷ 2 ∷ 0 ∷ 0 ∷ 0 ∷ 0 ∷ 16 ∷ [])
    ∷ (21 ∷ 0 ∷ 0 ∷ 0 ∷ 0 ∷ 12 ∷ [])
    ∷ (22 ∷ 0 ∷ 0 ∷ 1 ∷ 0 ∷ 0 ∷ 0 ∷ [])
    ∷ (23 ∷ 0 ∷ 0 ∷ 0 ∷ 2 ∷ 12 ∷ [])
    ∷ (24 ∷ 0 ∷ 0 ∷ 0 ∷ 3 ∷ 0 ∷ [])
    ∷ []
unfolding running
damaged-figures = refl

-- the covered frames that a call handed out
abbrev covered_in : Option Done → List (List ℕ)
covered_in none = []
covered_in (some d) = select (covered_frame group (covered_from group 12) d.clock) (held_bytes 2 d.output.delivery)

-- both boards hand out both messages that are due at 23, the cause first: node 0 at 23, and node 1, whose clock goes from 22 to 24, at 24, and in the
-- same hand-out then what is due at 24
pub damaged-delivers :
    map (λ k. covered_in (get_elem? (run_from (at_start damaged_nodes) damaged_calls).past k)) (21 ∷ 22 ∷ [])
    ≡ (cause ∷ effect ∷ []) ∷ (cause ∷ effect ∷ third ∷ []) ∷ []
unfolding running
damaged-delivers = refl

-- 02, 2.2: "A step of 1 to ε": the premises rule out a first call of node 0 with a step of 0 or above ε
pub damaged-steps :
    map (λ k. keeps group (largest_clock damaged_nodes) (at_start damaged_nodes) (stepping k 0 (10 + k) false [] [] ∷ [])) (0 ∷ 1 ∷ 2 ∷ 3 ∷ [])
    ≡ false ∷ true ∷ true ∷ false ∷ []
unfolding running
damaged-steps = refl

-- so demand 3 holds of this list
pub damaged-promised : Promised group (covered_from group (largest_clock damaged_nodes)) (run_from (at_start damaged_nodes) damaged_calls).past
damaged-promised = demand3 group damaged_nodes damaged_calls damaged-start damaged-keeps

-- the same stations, fresh at clocks 11 and 13, with nonsense past the 2ε counts and behind the count of the shelf
abbrev fresh_node : ℕ → ℕ → Node
fresh_node own clock =
    record {
      listens = false;
      own = own;
      clock = clock;
      tables = record { r = clock; c = 0; kn = 0 ∷ 0 ∷ 1 ∷ 0 ∷ replicate 28 255 };
      holdback = 0 ∷ 0 ∷ replicate (holdback_size group - 2) 170;
    }

abbrev fresh_nodes : List Node
fresh_nodes = fresh_node 0 11 ∷ fresh_node 1 13 ∷ []

-- a message of node 1 at 14, where B wraps, and one of node 0 at 13, sent because of it
abbrev fresh_cause : List ℕ
fresh_cause = bytes_of 1 0 0 (0 ∷ 1 ∷ 1 ∷ 0 ∷ []) (66 ∷ [])

abbrev fresh_effect : List ℕ
fresh_effect = bytes_of 0 13 1 (1 ∷ 1 ∷ 2 ∷ 1 ∷ []) (65 ∷ [])

-- both are heard on both boards, some of them again; a refused call between
abbrev fresh_heard : List Call
fresh_heard =
    quiet 0 12 ∷ sending 1 14 66 [] ∷ sending 0 13 65 (from 1 fresh_cause ∷ [])
    ∷ hearing 1 15 (from 2 fresh_effect ∷ from 1 fresh_cause ∷ from 2 fresh_effect ∷ [])
    ∷ failing 1 group 14
    ∷ hearing 0 14 (from 1 fresh_cause ∷ from 2 fresh_effect ∷ [])
    ∷ quiet 1 16 ∷ []

-- and handed out when due, at 17, by steps of one
abbrev fresh_calls : List Call
fresh_calls = fresh_heard ++ (quiet 0 15 ∷ quiet 1 17 ∷ quiet 0 16 ∷ quiet 0 17 ∷ [])

-- or by steps of ε, of which one goes past it
abbrev nudged_calls : List Call
nudged_calls = fresh_heard ++ (nudged 0 16 ∷ nudged 1 18 ∷ quiet 0 17 ∷ [])

pub fresh_start : good_start group fresh_nodes ≡ true
unfolding running
fresh_start = refl

pub fresh-nodes : all_fresh group fresh_nodes ≡ true
unfolding running
fresh-nodes = refl

pub fresh_keeps : keeps group (largest_clock fresh_nodes) (at_start fresh_nodes) fresh_calls ≡ true
unfolding running
fresh_keeps = refl

pub fresh-none-stale : none_stale (run_from (at_start fresh_nodes) fresh_calls).past ≡ true
unfolding running
fresh-none-stale = refl

pub fresh-ones : steps_of_one (run_from (at_start fresh_nodes) fresh_calls).past ≡ true
unfolding running
fresh-ones = refl

pub fresh-figures :
    map figures (run_from (at_start fresh_nodes) fresh_calls).past
    ≡ (12 ∷ 0 ∷ 0 ∷ 0 ∷ 0 ∷ 0 ∷ [])
    ∷ (14 ∷ 0 ∷ 0 ∷ 0 ∷ 0 ∷ 12 ∷ [])
    ∷ (13 ∷ 0 ∷ 0 ∷ 1 ∷ 0 ∷ 12 ∷ 0 ∷ [])
    ∷ (15 ∷ 0 ∷ 0 ∷ 2 ∷ 0 ∷ 0 ∷ 0 ∷ 0 ∷ 16 ∷ [])
    ∷ (15 ∷ 2 ∷ 0 ∷ 0 ∷ 0 ∷ 0 ∷ [])
    ∷ (14 ∷ 0 ∷ 0 ∷ 1 ∷ 0 ∷ 0 ∷ 16 ∷ 0 ∷ [])
    ∷ (16 ∷ 0 ∷ 0 ∷ 0 ∷ 0 ∷ 0 ∷ [])
    ∷ (15 ∷ 0 ∷ 0 ∷ 0 ∷ 0 ∷ 0 ∷ [])
    ∷ (17 ∷ 0 ∷ 0 ∷ 0 ∷ 2 ∷ 0 ∷ [])
    ∷ (16 ∷ 0 ∷ 0 ∷ 0 ∷ 0 ∷ 0 ∷ [])
    ∷ (17 ∷ 0 ∷ 0 ∷ 0 ∷ 2 ∷ 0 ∷ [])
    ∷ []
unfolding running
fresh-figures = refl

-- so demand 2 holds of this list, with Equation 4.11's program
pub fresh-matched :
    (j : ℕ) (d : Done) → get_elem? (run_from (at_start fresh_nodes) fresh_calls).past j ≡ some d → is_event d ≡ true
    → Matched deliverable group (published_after deliverable group fresh_nodes fresh_calls j) d
fresh-matched = demand2-ones group fresh_nodes fresh_calls fresh_start fresh-nodes fresh_keeps fresh-none-stale fresh-ones

pub nudged-keeps : keeps group (largest_clock fresh_nodes) (at_start fresh_nodes) nudged_calls ≡ true
unfolding running
nudged-keeps = refl

pub nudged-none-stale : none_stale (run_from (at_start fresh_nodes) nudged_calls).past ≡ true
unfolding running
nudged-none-stale = refl

-- the clock and the hand-out of the last calls
pub nudged-figures :
    map (λ (d : Done). d.clock ∷ d.output.answer.delivered ∷ []) (drop 7 (run_from (at_start fresh_nodes) nudged_calls).past)
    ≡ (16 ∷ 0 ∷ []) ∷ (18 ∷ 2 ∷ []) ∷ (17 ∷ 2 ∷ []) ∷ []
unfolding running
nudged-figures = refl

-- demand 2 holds of it with the program that delivers at or past a due clock
pub nudged-matched :
    (j : ℕ) (d : Done) → get_elem? (run_from (at_start fresh_nodes) nudged_calls).past j ≡ some d → is_event d ≡ true
    → Matched deliverable_by group (published_after deliverable_by group fresh_nodes nudged_calls j) d
nudged-matched = demand2-fresh group fresh_nodes nudged_calls fresh_start fresh-nodes nudged-keeps nudged-none-stale

-- how many messages a process delivers at 18, hearing nothing
abbrev delivered_at18 : Condition → Option Process → ℕ
delivered_at18 delcond none = 0
delivered_at18 delcond (some p) = length (delivered_at delcond 2 1 18 p [])

-- Equation 4.11's program delivers nothing there: it is another one where a step goes past a due clock
pub nudged-missed :
    map (λ (delcond : Condition). delivered_at18 delcond (get_elem? (published_after delcond group fresh_nodes nudged_calls 8).processes 1)) (deliverable ∷ deliverable_by ∷ [])
    ≡ 0 ∷ 2 ∷ []
unfolding running
nudged-missed = refl

-- 02, 2.6: with an observer, behind both stations: its last clock is B or more, its shelf is nonsense. X is 12 again
abbrev watched_nodes : List Node
watched_nodes =
    record { listens = false; own = 0; clock = 12; tables = bad_tables; holdback = bad_queue }
    ∷ record { listens = false; own = 1; clock = 12; tables = likely_tables; holdback = bad_queue }
    ∷ record { listens = true; own = 0; clock = 10; tables = record { r = 77; c = 9; kn = replicate 32 77 }; holdback = bad_queue }
    ∷ []

-- node 0 and node 1 send at 21, node 1 because of the other's: it counts two events at 21, as many as there are stations
abbrev watched : List ℕ
watched = bytes_of 0 7 0 (0 ∷ 1 ∷ 1 ∷ 0 ∷ []) (65 ∷ [])

abbrev crowded : List ℕ
crowded = bytes_of 1 7 0 (0 ∷ 1 ∷ 2 ∷ 0 ∷ []) (66 ∷ [])

-- the observer, node 2, hears an older frame at 12, and at 20 both messages of 21, one of them again. Both are due at 24; its clock goes from 23
-- to 25
abbrev watched_calls : List Call
watched_calls =
    stepping 2 2 12 false [] (old ∷ []) ∷ nudged 0 14 ∷ nudged 1 14 ∷ nudged 2 14 ∷ nudged 0 16 ∷ nudged 1 16 ∷ nudged 2 16
    ∷ nudged 0 18 ∷ nudged 1 18 ∷ nudged 2 18 ∷ nudged 0 20 ∷ nudged 1 20 ∷ quiet 2 19
    ∷ sending 0 21 65 [] ∷ sending 1 21 66 (from 13 watched ∷ [])
    ∷ hearing 2 20 (from 14 crowded ∷ from 13 watched ∷ from 14 crowded ∷ [])
    ∷ hearing 0 22 (from 13 watched ∷ from 14 crowded ∷ []) ∷ quiet 1 22 ∷ nudged 2 22
    ∷ nudged 0 24 ∷ nudged 1 24 ∷ failing 2 group 99 ∷ quiet 2 23 ∷ nudged 2 25
    ∷ []

pub watched-start : good_start group watched_nodes ≡ true
unfolding running
watched-start = refl

pub watched-keeps : keeps group (largest_clock watched_nodes) (at_start watched_nodes) watched_calls ≡ true
unfolding running
watched-keeps = refl

-- the observer's calls: both its last clock and its shelf are mended, the older frame is taken, and both messages
pub watched-figures :
    map (λ k. map figures (take 1 (drop k (run_from (at_start watched_nodes) watched_calls).past))) (0 ∷ 3 ∷ 12 ∷ 15 ∷ 18 ∷ 21 ∷ 22 ∷ 23 ∷ [])
    ≡ ((12 ∷ 0 ∷ 3 ∷ 1 ∷ 0 ∷ 0 ∷ 0 ∷ []) ∷ [])
    ∷ ((14 ∷ 0 ∷ 0 ∷ 0 ∷ 0 ∷ 0 ∷ []) ∷ [])
    ∷ ((19 ∷ 0 ∷ 0 ∷ 0 ∷ 0 ∷ 0 ∷ []) ∷ [])
    ∷ ((20 ∷ 0 ∷ 0 ∷ 2 ∷ 0 ∷ 0 ∷ 0 ∷ 0 ∷ 16 ∷ []) ∷ [])
    ∷ ((22 ∷ 0 ∷ 0 ∷ 0 ∷ 0 ∷ 0 ∷ []) ∷ [])
    ∷ ((22 ∷ 2 ∷ 0 ∷ 0 ∷ 0 ∷ 0 ∷ []) ∷ [])
    ∷ ((23 ∷ 0 ∷ 0 ∷ 0 ∷ 0 ∷ 0 ∷ []) ∷ [])
    ∷ ((25 ∷ 0 ∷ 0 ∷ 0 ∷ 2 ∷ 0 ∷ []) ∷ [])
    ∷ []
unfolding running
watched-figures = refl

-- what a station answers at 20 to the message that counts two events at 21, and what the observer does: "not 15: all n stations may be ahead of it"
pub watched-crowded : (first_no (judge_questions group 6 [] crowded) ∷ first_no (observer_questions group 6 [] crowded) ∷ []) ≡ 15 ∷ 0 ∷ []
unfolding running
watched-crowded = refl

-- node 0, at 24, and the observer, at 25, hand out both, the cause first
pub watched-delivers :
    map (λ k. covered_in (get_elem? (run_from (at_start watched_nodes) watched_calls).past k)) (19 ∷ 23 ∷ [])
    ≡ (watched ∷ crowded ∷ []) ∷ (watched ∷ crowded ∷ []) ∷ []
unfolding running
watched-delivers = refl

-- so demand 3 holds of this list
pub watched-promised : Promised group (covered_from group (largest_clock watched_nodes)) (run_from (at_start watched_nodes) watched_calls).past
watched-promised = demand3 group watched_nodes watched_calls watched-start watched-keeps

-- the fresh stations with a fresh observer, behind them: its last clock is right, its tables are else nonsense
abbrev attended_nodes : List Node
attended_nodes =
    fresh_node 0 11 ∷ fresh_node 1 13
    ∷ record { listens = true; own = 0; clock = 11; tables = record { r = 11; c = 9; kn = replicate 32 77 }; holdback = 0 ∷ 0 ∷ replicate (holdback_size group - 2) 170 }
    ∷ []

-- the observer hears both messages at 13, where the effect counts two events, and its clock goes from 15 to 17, when both are due
abbrev attended_calls : List Call
attended_calls =
    quiet 0 12 ∷ quiet 2 12 ∷ sending 1 14 66 [] ∷ sending 0 13 65 (from 2 fresh_cause ∷ [])
    ∷ hearing 2 13 (from 3 fresh_effect ∷ from 2 fresh_cause ∷ from 3 fresh_effect ∷ [])
    ∷ hearing 1 15 (from 3 fresh_effect ∷ from 2 fresh_cause ∷ []) ∷ hearing 0 14 (from 2 fresh_cause ∷ from 3 fresh_effect ∷ [])
    ∷ nudged 2 15 ∷ quiet 1 16 ∷ nudged 0 16 ∷ quiet 1 17 ∷ nudged 2 17 ∷ quiet 0 17 ∷ []

pub attended-start : good_start group attended_nodes ≡ true
unfolding running
attended-start = refl

pub attended-nodes : all_fresh group attended_nodes ≡ true
unfolding running
attended-nodes = refl

pub attended-keeps : keeps group (largest_clock attended_nodes) (at_start attended_nodes) attended_calls ≡ true
unfolding running
attended-keeps = refl

pub attended-none-stale : none_stale (run_from (at_start attended_nodes) attended_calls).past ≡ true
unfolding running
attended-none-stale = refl

pub attended-figures :
    map (λ k. map figures (take 1 (drop k (run_from (at_start attended_nodes) attended_calls).past))) (1 ∷ 4 ∷ 7 ∷ 11 ∷ [])
    ≡ ((12 ∷ 0 ∷ 0 ∷ 0 ∷ 0 ∷ 0 ∷ []) ∷ [])
    ∷ ((13 ∷ 0 ∷ 0 ∷ 2 ∷ 0 ∷ 0 ∷ 0 ∷ 0 ∷ 16 ∷ []) ∷ [])
    ∷ ((15 ∷ 0 ∷ 0 ∷ 0 ∷ 0 ∷ 0 ∷ []) ∷ [])
    ∷ ((17 ∷ 0 ∷ 0 ∷ 0 ∷ 2 ∷ 0 ∷ []) ∷ [])
    ∷ []
unfolding running
attended-figures = refl

-- the frames that a call handed out
abbrev delivered_in : Option Done → List (List ℕ)
delivered_in none = []
delivered_in (some d) = held_bytes 2 d.output.delivery

-- every board hands out both, the cause first
pub attended-delivers :
    map (λ k. delivered_in (get_elem? (run_from (at_start attended_nodes) attended_calls).past k)) (10 ∷ 11 ∷ 12 ∷ [])
    ≡ replicate 3 (fresh_cause ∷ fresh_effect ∷ [])
unfolding running
attended-delivers = refl

-- so demand 3 holds of this list for every message, and demand 2 of the stations' calls
pub attended-promised : Promised group 0 (run_from (at_start attended_nodes) attended_calls).past
attended-promised = demand3-fresh group attended_nodes attended_calls attended-start attended-nodes attended-keeps attended-none-stale

pub attended-matched :
    (j : ℕ) (d : Done) → get_elem? (run_from (at_start attended_nodes) attended_calls).past j ≡ some d → is_event d ≡ true
    → Matched deliverable_by group (published_after deliverable_by group attended_nodes attended_calls j) d
attended-matched = demand2-fresh group attended_nodes attended_calls attended-start attended-nodes attended-keeps attended-none-stale

-- an observer more than ε behind, or ahead, is ruled out, at the start and later
pub attended-drift :
    map (λ clock. good_start group (fresh_node 0 13 ∷ record { listens = true; own = 0; clock = clock; tables = bad_tables; holdback = bad_queue } ∷ [])) (10 ∷ 11 ∷ 15 ∷ 16 ∷ [])
    ≡ false ∷ true ∷ true ∷ false ∷ []
unfolding running
attended-drift = refl
