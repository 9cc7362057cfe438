-- Stories that go through V (02, 2.10). A turn is a scene, and whether its node goes on to its next setup: from the old pair to both, and from both
-- to the new pair. A shelf that gets its new size has nonsense in the bytes that it gets.
use Rattle.std.specs.Prelude.{ℕ, ◌+◌, ◌-◌, ◌%◌, Bool, true, false, cond, List, [], ◌∷◌, ◌++◌, map, length, replicate}
use Rattle.std.proofs.Math.Option.{Option, none, some}
use Rattle.std.proofs.Math.ListN.{get_elem?}
use Rattle.model.specs.Setup.{Setup}
use Rattle.model.specs.Timestamp.{Timestamp}
use Rattle.model.specs.Tick.{holdback_size}
use Rattle.model.specs.Schedule.{Wider}
use Rattle.model.specs.Run.{Node, Call, Done, World, act, at_start, run_from}
use Rattle.theory.specs.Premises.{clock_at}
use Rattle.theory.specs.Changeover.{Changeover, Phase, older, both, newer, phase_setup, wider_for, takes_up, phases_after}
use Rattle.violations.specs.Stories.{StoryEntry, message, stale_frame, Scene, entry_bytes, entry_source, calling_in, nudged, quiet, hearing, sending, bytes_of, wide_tables}

pub record Turn : Type 0 where
  pub scene : Scene
  pub changes : Bool

-- as it is, and with the next setup
abbrev pub stays : Scene → Turn
stays scene = record { scene = scene; changes = false }

abbrev pub turns : Scene → Turn
turns scene = record { scene = scene; changes = true }

-- the setup of a turn, by the one before it
abbrev pub next_phase : Bool → Phase → Phase
next_phase false phase = phase
next_phase true older = both
next_phase true both = newer
next_phase true newer = newer

-- the wider pair in a call for v with it
abbrev pub pair_for : Changeover → Phase → ℕ → Option Wider
pair_for y older v = none
pair_for y both v = some (wider_for y v)
pair_for y newer v = none

-- by how much the shelf is longer
abbrev pub spare_for : Changeover → Phase → Phase → List ℕ
spare_for y phase next = cond (takes_up phase next) (replicate (holdback_size y.after - holdback_size y.before) 170) []

abbrev pub phase_at : Option Phase → Phase
phase_at none = older
phase_at (some phase) = phase

-- the call that a turn makes
abbrev pub call_through : Changeover → Phase → World → Turn → Call
call_through y phase w turn =
    let scene : Scene = turn.scene in
    let next : Phase = next_phase turn.changes phase in
    let v : ℕ = clock_at (get_elem? w.nodes scene.node) + scene.step in
    calling_in (phase_setup y next) (pair_for y next v) (spare_for y phase next) y.after scene.node scene.step v scene.send scene.payload
    (map (entry_bytes w.past) scene.hears) (map entry_source scene.hears)

-- the calls of a story
unfoldable pub calls_through : Changeover → List Phase → World → List Turn → List Call
calls_through y phases w [] = []
calls_through y phases w (turn ∷ rest) =
    let call : Call = call_through y (phase_at (get_elem? phases turn.scene.node)) w turn in
    call ∷ calls_through y (phases_after phases w call) (act w call) rest

-- ---- a season: n 2, at clock 17 from ε 1, δ 0 to ε 2, δ 1, with the least B for both

abbrev pub season : Changeover
season =
    record {
      before = record { n = 2; epsilon = 1; delta = 0; modulus = 14 };
      after = record { n = 2; epsilon = 2; delta = 1; modulus = 14 };
      change = 17;
    }

-- a shelf of these bytes and nonsense, of a setup's length
abbrev pub holdback_with : Setup → List ℕ → List ℕ
holdback_with s frames = frames ++ replicate (holdback_size s - length frames) 170

-- a call with a step of more than one that hears these, and one that also sends one byte
abbrev pub stepping : ℕ → ℕ → List StoryEntry → Scene
stepping step node entries = record { node = node; step = step; send = false; payload = []; hears = entries }

abbrev pub sending_after : ℕ → ℕ → ℕ → List StoryEntry → Scene
sending_after step node byte entries = record { node = node; step = step; send = true; payload = byte ∷ []; hears = entries }

-- a call with a ticket of 33 bytes, which gets 4
abbrev pub too_long : ℕ → Scene
too_long node = record { node = node; step = 1; send = true; payload = replicate 33 1; hears = [] }

-- a node, with tables and with a shelf
abbrev pub member : ℕ → ℕ → Timestamp → List ℕ → Node
member own clock tables holdback = record { listens = false; own = own; clock = clock; tables = tables; holdback = holdback }

-- an observer with a last clock, and nonsense for counts
abbrev pub listener : ℕ → ℕ → List ℕ → Node
listener clock last holdback =
    record { listens = true; own = 0; clock = clock; tables = record { r = last; c = 9; kn = replicate 32 77 }; holdback = holdback }

-- narrow and wide tables of a clock, with nothing known but the event there
abbrev pub narrow_at : ℕ → Timestamp
narrow_at clock = record { r = clock % 14; c = 0; kn = 0 ∷ 1 ∷ replicate 30 255 }

abbrev pub wide_at : ℕ → Timestamp
wide_at clock = record { r = clock % 14; c = 0; kn = 0 ∷ 0 ∷ 1 ∷ 0 ∷ replicate 28 255 }

-- Damage in every memory. Node 0 has the old pair, tables of nonsense and a forged frame on its shelf, node 1 has both pairs, tables that were
-- never written by a tick but look sound, and a shelf of nonsense; the observer, node 2, has the old pair, a last clock of B or more, and a
-- shelf of nonsense. X is 5: older frames may be heard up to 8, messages are covered from 12 on, and no setup changes before the last clock is 14
abbrev pub damaged_season : List Node
damaged_season =
    member 0 5 (record { r = 5; c = 9; kn = replicate 32 77 })
    (holdback_with season.before (1 ∷ 0 ∷ bytes_of 1 5 0 (0 ∷ 1 ∷ []) (9 ∷ [])))
    ∷ member 1 5 (record { r = 5; c = 0; kn = 1 ∷ 1 ∷ replicate 30 255 }) (holdback_with season.after [])
    ∷ listener 4 77 (holdback_with season.before [])
    ∷ []

abbrev pub damaged_phases : List Phase
damaged_phases = older ∷ both ∷ older ∷ []

-- older frames: one that is taken, a scrap that gets 10, one that gets 13; a wide one that is taken by node 1 before V, and one that gets 12 for c 1;
-- and two that claim an event at 8 that never was, heard there, at the last clock at which one may be
abbrev pub old : List ℕ
old = bytes_of 0 5 0 (1 ∷ 1 ∷ []) (7 ∷ [])

abbrev pub scrap : List ℕ
scrap = 1 ∷ 2 ∷ []

abbrev pub late : List ℕ
late = bytes_of 1 3 0 (0 ∷ 1 ∷ []) (7 ∷ [])

abbrev pub wide_old : List ℕ
wide_old = bytes_of 0 6 0 (1 ∷ 0 ∷ 1 ∷ 0 ∷ []) (8 ∷ [])

abbrev pub wide_ahead : List ℕ
wide_ahead = bytes_of 0 6 1 (1 ∷ 0 ∷ 1 ∷ 1 ∷ []) (8 ∷ [])

abbrev pub ghost : List ℕ
ghost = bytes_of 0 8 0 (2 ∷ 1 ∷ []) (9 ∷ [])

abbrev pub ghost' : List ℕ
ghost' = bytes_of 1 8 0 (2 ∷ 1 ∷ []) (9 ∷ [])

-- Node 1 sends at 12, and node 0 at 12 because of it. A take-up of node 0 is refused, the next one is not: it sends at 16, and node 1 because of it,
-- both narrow. The observer takes both pairs up in the step from 15 to 17, across V. Node 0 at 17 and node 1, which goes from 16 to 18, send wide
-- frames. From their last clock 22 on all go to the new pair; node 0 sends at 24, and node 1 at 23 because of it, and the observer changes with
-- both on its shelf
abbrev pub damaged_turns : List Turn
damaged_turns =
    stays (hearing 2 (stale_frame old ∷ stale_frame scrap ∷ [])) ∷ stays (hearing 0 (stale_frame late ∷ []))
    ∷ stays (hearing 1 (stale_frame wide_old ∷ stale_frame wide_ahead ∷ [])) ∷ stays (quiet 2) ∷ stays (quiet 0) ∷ stays (quiet 1) ∷ stays (quiet 2)
    ∷ stays (sending 1 1 (stale_frame ghost ∷ [])) ∷ stays (hearing 0 (message 7 ∷ [])) ∷ stays (hearing 2 (stale_frame ghost' ∷ [])) ∷ stays (quiet 0)
    ∷ stays (quiet 1) ∷ stays (quiet 2) ∷ stays (quiet 0) ∷ stays (quiet 1) ∷ stays (quiet 2) ∷ stays (quiet 0) ∷ stays (quiet 1) ∷ stays (quiet 2)
    ∷ stays (sending 1 66 []) ∷ stays (sending 0 65 (message 19 ∷ [])) ∷ stays (hearing 2 (message 20 ∷ message 19 ∷ message 20 ∷ []))
    ∷ stays (quiet 1) ∷ stays (quiet 0) ∷ stays (quiet 2) ∷ stays (quiet 0) ∷ stays (quiet 1) ∷ stays (quiet 2) ∷ turns (too_long 0) ∷ stays (quiet 0)
    ∷ stays (quiet 1) ∷ stays (quiet 2) ∷ turns (sending 0 67 []) ∷ stays (sending 1 68 (message 32 ∷ []))
    ∷ turns (stepping 2 2 (message 33 ∷ message 32 ∷ [])) ∷ stays (sending 0 69 (message 33 ∷ [])) ∷ stays (sending_after 2 1 70 (message 35 ∷ []))
    ∷ stays (stepping 2 2 (message 36 ∷ message 35 ∷ [])) ∷ stays (stepping 2 0 (message 36 ∷ [])) ∷ stays (quiet 1) ∷ stays (quiet 0)
    ∷ stays (quiet 2) ∷ stays (nudged 2 1) ∷ stays (nudged 2 0) ∷ stays (nudged 2 2) ∷ stays (quiet 1) ∷ turns (sending_after 2 0 71 [])
    ∷ turns (sending 1 72 (message 46 ∷ [])) ∷ stays (hearing 2 (message 47 ∷ message 46 ∷ [])) ∷ turns (quiet 2)
    ∷ stays (hearing 0 (message 47 ∷ [])) ∷ stays (nudged 2 1) ∷ stays (quiet 2) ∷ stays (nudged 2 0) ∷ stays (nudged 2 1) ∷ stays (nudged 2 2) ∷ []

-- the calls of a story in this season, and what comes of them
abbrev pub season_calls : List Phase → List Node → List Turn → List Call
season_calls phases nodes story = calls_through season phases (at_start nodes) story

abbrev pub season_past : List Phase → List Node → List Turn → List Done
season_past phases nodes story = (run_from (at_start nodes) (season_calls phases nodes story)).past

-- Fresh nodes at 13 and 14 and an observer at 13, all with the old pair, with nonsense past the 2ε counts and behind the count of the shelf
abbrev pub fresh_season : List Node
fresh_season =
    member 0 13 (record { r = 13; c = 0; kn = 0 ∷ 1 ∷ replicate 30 255 }) (holdback_with season.before (0 ∷ 0 ∷ []))
    ∷ member 1 14 (record { r = 0; c = 0; kn = 0 ∷ 1 ∷ replicate 30 255 }) (holdback_with season.before (0 ∷ 0 ∷ []))
    ∷ listener 13 13 (holdback_with season.before (0 ∷ 0 ∷ []))
    ∷ []

abbrev pub fresh_phases : List Phase
fresh_phases = older ∷ older ∷ older ∷ []

-- node 0 sends at 14 and 15, narrow, both due before V; node 1 at 16 and node 0 at 16 because of it, narrow, both due after V; node 0 at 17, and
-- node 1, which goes from 16 to 18, because of it, wide; the observer takes both pairs up from 15 to 17, past the due clock of the one of 15
abbrev pub fresh_turns : List Turn
fresh_turns =
    stays (sending 0 64 []) ∷ stays (hearing 2 (message 0 ∷ [])) ∷ stays (hearing 1 (message 0 ∷ [])) ∷ turns (sending 0 65 [])
    ∷ stays (hearing 2 (message 3 ∷ [])) ∷ turns (sending 1 66 (message 3 ∷ [])) ∷ stays (sending 0 67 (message 5 ∷ []))
    ∷ turns (stepping 2 2 (message 6 ∷ message 5 ∷ message 6 ∷ [])) ∷ stays (sending 0 68 []) ∷ stays (sending_after 2 1 69 (message 8 ∷ []))
    ∷ stays (hearing 2 (message 8 ∷ message 9 ∷ [])) ∷ stays (stepping 2 0 (message 9 ∷ [])) ∷ stays (quiet 1) ∷ stays (quiet 2)
    ∷ stays (sending 1 70 []) ∷ stays (hearing 0 (message 14 ∷ [])) ∷ stays (hearing 2 (message 14 ∷ [])) ∷ stays (nudged 2 1) ∷ stays (nudged 2 0)
    ∷ stays (nudged 2 2) ∷ turns (quiet 1) ∷ turns (nudged 2 0) ∷ turns (quiet 2) ∷ []

-- ---- stories that a premise less would let pass, or another promise would not hold of. Nodes are fresh, each with both pairs, but where it is said

abbrev pub empty : Setup → List ℕ
empty s = holdback_with s (0 ∷ 0 ∷ [])

abbrev pub narrow_member : ℕ → ℕ → Node
narrow_member own clock = member own clock (narrow_at clock) (empty season.after)

abbrev pub wide_member : ℕ → ℕ → Node
wide_member own clock = member own clock (wide_at clock) (empty season.after)

abbrev pub fresh_listener : ℕ → Node
fresh_listener clock = listener clock (clock % 14) (empty season.after)

abbrev pub both_phases : List Phase
both_phases = both ∷ both ∷ both ∷ []

abbrev pub two_both : List Phase
two_both = both ∷ both ∷ []

-- the observer, with the old pair, hears at 16 two messages of 16, which it orders by one count, and takes both pairs up in its call for 17
abbrev pub late_up : List Node
late_up =
    member 0 14 (narrow_at 14) (empty season.before) ∷ member 1 14 (narrow_at 14) (empty season.before)
    ∷ listener 15 1 (empty season.before) ∷ []

abbrev pub taken_up_late : List Turn
taken_up_late =
    turns (sending 1 65 []) ∷ turns (hearing 0 (message 0 ∷ [])) ∷ stays (sending 0 66 []) ∷ stays (sending 1 67 [])
    ∷ stays (hearing 2 (message 3 ∷ message 2 ∷ [])) ∷ stays (quiet 1) ∷ turns (quiet 2) ∷ stays (nudged 2 0) ∷ stays (nudged 2 2) ∷ []

-- node 1 hears a narrow message of 16, due at 19, and goes to the new pair in its call for 19
abbrev pub near_change : List Node
near_change = narrow_member 0 15 ∷ narrow_member 1 16 ∷ fresh_listener 16 ∷ []

abbrev pub new_too_soon : List Turn
new_too_soon =
    stays (sending 0 65 []) ∷ stays (quiet 2) ∷ stays (hearing 1 (message 0 ∷ [])) ∷ stays (nudged 2 0) ∷ stays (quiet 1) ∷ turns (quiet 1) ∷ []

-- the same, and node 1 goes on with both pairs, to 19
abbrev pub heard_near_change : List Turn
heard_near_change =
    stays (sending 0 65 []) ∷ stays (quiet 2) ∷ stays (hearing 1 (message 0 ∷ [])) ∷ stays (nudged 2 0) ∷ stays (quiet 1) ∷ stays (quiet 1) ∷ []

-- node 0 sends at 17, two clocks ahead of node 1, which hears it at 16
abbrev pub two_near : List Node
two_near = narrow_member 0 16 ∷ narrow_member 1 15 ∷ []

abbrev pub ahead_at_change : List Turn
ahead_at_change = stays (sending 0 65 []) ∷ stays (hearing 1 (message 0 ∷ [])) ∷ []

-- another season, at clock 30 from ε 2 to ε 3. Node 0 sends at 31, with both stations past V, and the observer hears it at 29
abbrev pub long_season : Changeover
long_season =
    record {
      before = record { n = 2; epsilon = 2; delta = 0; modulus = 19 };
      after = record { n = 2; epsilon = 3; delta = 0; modulus = 19 };
      change = 30;
    }

abbrev pub long_nodes : List Node
long_nodes =
    member 0 28 (record { r = 9; c = 0; kn = 0 ∷ 0 ∷ 1 ∷ 0 ∷ replicate 28 255 }) (empty long_season.after)
    ∷ member 1 30 (record { r = 11; c = 0; kn = 0 ∷ 0 ∷ 0 ∷ 1 ∷ 0 ∷ 0 ∷ replicate 26 255 }) (empty long_season.after)
    ∷ listener 28 9 (empty long_season.after) ∷ []

abbrev pub observer_behind : List Turn
observer_behind = stays (sending_after 3 0 65 []) ∷ stays (hearing 2 (message 0 ∷ [])) ∷ []

abbrev pub long_calls : List Call
long_calls = calls_through long_season both_phases (at_start long_nodes) observer_behind

-- a narrow message of 15 is heard at 17, its sender being at 16
abbrev pub before_change : List Node
before_change = narrow_member 0 14 ∷ narrow_member 1 14 ∷ fresh_listener 13 ∷ []

abbrev pub heard_one_late : List Turn
heard_one_late =
    stays (quiet 2) ∷ stays (sending 1 65 []) ∷ stays (quiet 2) ∷ stays (quiet 0) ∷ stays (quiet 2) ∷ stays (quiet 0) ∷ stays (quiet 1)
    ∷ stays (hearing 0 (message 1 ∷ [])) ∷ []

-- node 0 hears its own message of 15 in its call for 17, to which it goes from 15
abbrev pub together_before : List Node
together_before = narrow_member 0 14 ∷ narrow_member 1 14 ∷ fresh_listener 14 ∷ []

abbrev pub heard_own : List Turn
heard_own =
    stays (quiet 2) ∷ stays (quiet 1) ∷ stays (sending 0 65 []) ∷ stays (quiet 2) ∷ stays (quiet 1) ∷ stays (stepping 2 0 (message 2 ∷ [])) ∷ []

-- the observer goes from 14 to 16, before V, with a message on its shelf
abbrev pub early_nodes : List Node
early_nodes = narrow_member 0 13 ∷ narrow_member 1 13 ∷ fresh_listener 13 ∷ []

abbrev pub stepped_before : List Turn
stepped_before =
    stays (quiet 1) ∷ stays (sending 0 65 []) ∷ stays (hearing 2 (message 1 ∷ [])) ∷ stays (quiet 0) ∷ stays (quiet 1) ∷ stays (nudged 2 2) ∷ []

-- node 0 has both pairs at 31, B past V
abbrev pub past_nodes : List Node
past_nodes = wide_member 0 28 ∷ wide_member 1 28 ∷ []

abbrev pub both_too_long : List Turn
both_too_long = stays (sending 1 65 []) ∷ stays (nudged 2 0) ∷ stays (hearing 0 (message 0 ∷ [])) ∷ []

-- a third season, at clock 38 from ε 2 to ε 3, with δ 1. Two nodes with the old pair send at one clock, and of their counts the third alone differs, of which
-- ε 2 does not ask. Node 1 takes both pairs up in its next call, in which it hears both messages, and in the one after it hears node 0's again. From
-- clock 14 on the take-up is at 17, B + 1 before V; from 15 on at 18, B before it
abbrev pub soon_season : Changeover
soon_season =
    record {
      before = record { n = 2; epsilon = 2; delta = 1; modulus = 20 };
      after = record { n = 2; epsilon = 3; delta = 1; modulus = 20 };
      change = 38;
    }

abbrev pub soon_nodes : ℕ → List Node
soon_nodes clock =
    member 0 clock (wide_tables clock) (empty soon_season.before) ∷ member 1 (clock + 1) (wide_tables (clock + 1)) (empty soon_season.before) ∷ []

abbrev pub two_older : List Phase
two_older = older ∷ older ∷ []

abbrev pub taken_up_soon : List Turn
taken_up_soon =
    stays (quiet 0) ∷ stays (sending 0 65 []) ∷ stays (sending 1 66 []) ∷ turns (hearing 1 (message 1 ∷ message 2 ∷ [])) ∷ stays (hearing 1 (message 1 ∷ []))
    ∷ []

abbrev pub soon_calls : ℕ → List Call
soon_calls clock = calls_through soon_season two_older (at_start (soon_nodes clock)) taken_up_soon

-- X is 20: the observer hears a narrow older frame at 23, due at 27, and goes to the new pair in its call for 27, with a covered message on its shelf
abbrev pub frozen_nodes : List Node
frozen_nodes = wide_member 0 20 ∷ wide_member 1 18 ∷ fresh_listener 19 ∷ []

abbrev pub thawed_soon : List Turn
thawed_soon =
    stays (quiet 1) ∷ stays (quiet 1) ∷ stays (quiet 0) ∷ stays (quiet 2) ∷ stays (quiet 1) ∷ stays (quiet 2) ∷ stays (nudged 2 1) ∷ stays (nudged 2 0)
    ∷ stays (stepping 2 2 (stale_frame (bytes_of 1 10 0 (1 ∷ 1 ∷ []) (9 ∷ [])) ∷ [])) ∷ stays (nudged 2 1) ∷ stays (nudged 2 2) ∷ stays (quiet 0)
    ∷ stays (quiet 0) ∷ stays (sending_after 2 0 65 []) ∷ stays (hearing 2 (message 13 ∷ [])) ∷ turns (hearing 2 (message 13 ∷ [])) ∷ []

-- X is 13: an older frame that claims an event at 19 is heard at 18, and node 1's message of 20 has it in its counts
abbrev pub haunting : List Node
haunting = narrow_member 0 13 ∷ narrow_member 1 13 ∷ []

abbrev pub haunted_late : List Turn
haunted_late =
    stays (quiet 0) ∷ stays (quiet 1) ∷ stays (quiet 0) ∷ stays (quiet 1) ∷ stays (quiet 0) ∷ stays (quiet 1) ∷ stays (quiet 1)
    ∷ stays (sending_after 2 0 65 (stale_frame (bytes_of 0 5 0 (2 ∷ 1 ∷ 1 ∷ 0 ∷ []) (9 ∷ [])) ∷ [])) ∷ stays (stepping 2 1 (message 7 ∷ []))
    ∷ stays (sending 1 66 []) ∷ stays (hearing 0 (message 9 ∷ [])) ∷ []

-- X is 14: one that claims an event at 18 is heard at 17, the last clock at which one may be, and node 1's message of 19, two clocks before T, has it
abbrev pub haunted_nodes : List Node
haunted_nodes = narrow_member 0 14 ∷ narrow_member 1 13 ∷ fresh_listener 13 ∷ []

abbrev pub haunted_in_time : List Turn
haunted_in_time =
    stays (quiet 2) ∷ stays (quiet 1) ∷ stays (quiet 0) ∷ stays (quiet 2) ∷ stays (quiet 1) ∷ stays (quiet 0) ∷ stays (quiet 1) ∷ stays (nudged 2 2)
    ∷ stays (hearing 1 (stale_frame (bytes_of 1 3 1 (1 ∷ 0 ∷ 1 ∷ 1 ∷ []) (9 ∷ [])) ∷ [])) ∷ stays (quiet 0) ∷ stays (quiet 1) ∷ stays (sending 1 65 [])
    ∷ stays (hearing 0 (message 11 ∷ [])) ∷ []

-- past V node 0 sends at 20, and node 1 at 19 because of it, with c 1
abbrev pub past_change : List Node
past_change = wide_member 0 18 ∷ wide_member 1 18 ∷ []

abbrev pub known_ahead : List Turn
known_ahead = stays (sending_after 2 0 65 []) ∷ stays (sending 1 66 (message 0 ∷ [])) ∷ stays (hearing 0 (message 1 ∷ [])) ∷ []

-- what taken_up_late tells, with both pairs from the start
abbrev pub together_at14 : List Node
together_at14 = narrow_member 0 14 ∷ narrow_member 1 14 ∷ fresh_listener 15 ∷ []

abbrev pub ordered_before : List Turn
ordered_before =
    stays (sending 1 65 []) ∷ stays (hearing 0 (message 0 ∷ [])) ∷ stays (sending 0 66 []) ∷ stays (sending 1 67 [])
    ∷ stays (hearing 2 (message 3 ∷ message 2 ∷ [])) ∷ stays (quiet 1) ∷ stays (quiet 2) ∷ stays (nudged 2 0) ∷ stays (nudged 2 2) ∷ []

-- the same at 10, with messages that are due at 13
abbrev pub together_at10 : List Node
together_at10 = narrow_member 0 10 ∷ narrow_member 1 10 ∷ fresh_listener 11 ∷ []

-- a season of equal pairs: node 0 sends at 15, and node 1 hands it out at 16
abbrev pub even_season : Changeover
even_season = record { before = season.before; after = season.before; change = 17 }

abbrev pub even_nodes : List Node
even_nodes = member 0 14 (narrow_at 14) (empty season.before) ∷ member 1 14 (narrow_at 14) (empty season.before) ∷ []

abbrev pub even_calls : List Call
even_calls =
    calls_through even_season two_both (at_start even_nodes)
    (stays (sending 0 65 []) ∷ stays (hearing 1 (message 0 ∷ [])) ∷ stays (quiet 0) ∷ stays (quiet 1) ∷ [])

-- node 0 alone sends at 17, V; with the old pair, with both; and at 16 with the new pair
abbrev pub one_at : Phase → ℕ → List Node
one_at older clock = member 0 clock (narrow_at clock) (empty season.before) ∷ []
one_at both clock = member 0 clock (narrow_at clock) (empty season.after) ∷ []
one_at newer clock = member 0 clock (narrow_at clock) (empty season.after) ∷ []

abbrev pub sends_once : List Turn
sends_once = stays (sending 0 65 []) ∷ []
