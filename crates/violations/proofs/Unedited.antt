-- Without an edit no story breaks a promise: either it keeps the premises and every test is true, or the premises rule it out.
-- Assumes nothing.
use Prim.Native.Nat.{ℕ}
use mathlib.Core.Path.{◌≡◌, refl}
use mathlib.Core.Bool.{Bool, true, false, ◌&&◌}
use mathlib.Core.List.{List, [], ◌∷◌, ◌++◌, map}
use lib.ListN.{length, take, replicate}
use Rattle.laws.specs.Lists.{every}
use Rattle.model.specs.Setup.{Setup}
use Rattle.model.specs.Holdback.{held}
use Rattle.model.specs.Codec.{read, write}
use Rattle.model.specs.Published.{Condition, deliverable, deliverable_by}
use Rattle.model.specs.Tick.{tick}
use Rattle.model.specs.Observer.{listen}
use Rattle.model.specs.Wider.{tick_in}
use Rattle.model.specs.Run.{Node, Call, Done, at_start, run_from}
use Rattle.model.specs.Long.{long_read, long_write, long_held, long_tick}
use Rattle.theory.specs.Premises.{good_start, largest_clock, keeps, all_fresh, none_stale, steps_of_one}
use Rattle.theory.specs.Demand2.{heard_before, observed_before, published_start}
use Rattle.theory.specs.Demand3.{covered_from}
use Rattle.theory.specs.Changeover.{Changeover, along_all, Phase, older, both, newer, frozen_until, keeps_through, starts_through, fresh_through}
use Rattle.theory.specs.Through.{covered_through}
use Rattle.theory.specs.LongAny.{long_heard_before}
use Rattle.theory.specs.LongClocks.{long_start, ends_below, holds_few}
use Rattle.violations.specs.Tests.{sending_test, hearing_test, delivering_test, causality_test, any_state_test, any_observer_test, same_all, fresh_test}
use Rattle.violations.specs.Stories.{group, Scene, fresh_tables, fresh_nodes, calls_of, past_of, cause_and_effect, heard_too_late, drifted_apart, haunted_at10, haunted_at8, stale_heard, holding_nodes, wide_group, wide_nodes, wide_calls, wide_past, stepped_too_far, not_stepped, inputs_from, inputs_of, unsound_tables, unsound_queue, packed, packed_alone, packed_overdue}
use Rattle.violations.specs.Stories.{watched_nodes, watched_calls, watched_past, all_ahead, left_behind, forestalled, holding_watched, wide_watched, watched_steps, watched_stepped, listenings_from, unsound_holdback}
use Rattle.violations.specs.Engines.{engine_group, now, hears_two, held_twice, holds_all, engine_test, long_same_all, beside_test}
use Rattle.violations.specs.Tests.{sending_along, hearing_along, delivering_along, same_heard_test, shown_test}
use Rattle.violations.specs.Stories.{damaged_watched, ticketed, ticket_calls, ticket_world}
use Rattle.violations.specs.Through.{Turn, even_season, even_nodes, even_calls, season, season_calls, season_past, fresh_phases, both_phases, two_both, late_up, taken_up_late, near_change, new_too_soon, heard_near_change, two_near, ahead_at_change, long_season, long_nodes, long_calls, before_change, heard_one_late, together_before, heard_own, early_nodes, stepped_before, past_nodes, both_too_long, soon_season, soon_nodes, two_older, soon_calls, frozen_nodes, thawed_soon, haunting, haunted_late, haunted_nodes, haunted_in_time, past_change, known_ahead, together_at14, together_at10, ordered_before, one_at, sends_once}
use Rattle.violations.specs.Both.{pair_at, quiet_at14, late_at17, ahead_at14, no_drift, long_drift, change_at_b, marked_twice, new_at14, shorter_delay}
use Rattle.violations.proofs.Telling.{telling}
use Rattle.violations.proofs.Engines.{engines}

-- the premises of demand 3
abbrev kept_by : Setup → List Node → List Call → Bool
kept_by s nodes calls = good_start s nodes && keeps s (largest_clock nodes) (at_start nodes) calls

abbrev kept : List Scene → Bool
kept scenes = kept_by group fresh_nodes (calls_of scenes)

-- its promises
abbrev promised_from : Setup → ℕ → List Done → Bool
promised_from s from past = sending_test s from past && (hearing_test s from past && (delivering_test s from past && causality_test s from past))

abbrev promised : Setup → ℕ → List Done → Bool
promised s x past = promised_from s (covered_from s x) past

pub story-kept : kept cause_and_effect ≡ true
unfolding telling
story-kept = refl

pub story-fresh : (all_fresh group fresh_nodes && none_stale (past_of cause_and_effect)) ≡ true
unfolding telling
story-fresh = refl

pub story-promised : promised group (largest_clock fresh_nodes) (past_of cause_and_effect) ≡ true
unfolding telling
story-promised = refl

-- by either program, since all its steps are one
pub story-ones : steps_of_one (past_of cause_and_effect) ≡ true
unfolding telling
story-ones = refl

pub story-matched :
    map (λ (delcond : Condition). fresh_test same_all delcond group (published_start group fresh_nodes) (past_of cause_and_effect)) (deliverable_by ∷ deliverable ∷ [])
    ≡ true ∷ true ∷ []
unfolding telling
story-matched = refl

pub story-figures : every any_state_test (inputs_of cause_and_effect) ≡ true
unfolding telling
story-figures = refl

-- the story with steps of 1 to ε: by Equation 4.11's program what is stepped past is not delivered
pub stepped_kept : kept_by wide_group wide_nodes wide_calls ≡ true
unfolding telling
stepped_kept = refl

pub stepped_fresh : (all_fresh wide_group wide_nodes ∷ none_stale wide_past ∷ steps_of_one wide_past ∷ []) ≡ true ∷ true ∷ false ∷ []
unfolding telling
stepped_fresh = refl

pub stepped-promised : promised wide_group (largest_clock wide_nodes) wide_past ≡ true
unfolding telling
stepped-promised = refl

pub stepped-matched :
    map (λ (delcond : Condition). fresh_test same_all delcond wide_group (published_start wide_group wide_nodes) wide_past) (deliverable_by ∷ deliverable ∷ [])
    ≡ true ∷ false ∷ []
unfolding telling
stepped-matched = refl

pub stepped-figures : every any_state_test (inputs_from (at_start wide_nodes) wide_calls) ≡ true
unfolding telling
stepped-figures = refl

-- an older frame as late as it may be heard disturbs no covered message
pub haunted-kept : kept haunted_at8 ≡ true
unfolding telling
haunted-kept = refl

pub haunted-promised : promised group (largest_clock fresh_nodes) (past_of haunted_at8) ≡ true
unfolding telling
haunted-promised = refl

-- damage is mended
pub repaired : ((tick unsound_tables).answer.repair ∷ (tick unsound_queue).answer.repair ∷ []) ≡ 1 ∷ 2 ∷ []
unfolding telling
repaired = refl

pub repaired-figures : every any_state_test (unsound_tables ∷ unsound_queue ∷ []) ≡ true
unfolding telling
repaired-figures = refl

-- the premises rule the others out
pub not-kept : map kept (heard_too_late ∷ drifted_apart ∷ haunted_at10 ∷ stepped_too_far ∷ not_stepped ∷ []) ≡ replicate 5 false
unfolding telling
not-kept = refl

pub stale-not-sent : (kept stale_heard ∷ none_stale (past_of stale_heard) ∷ []) ≡ true ∷ false ∷ []
unfolding telling
stale-not-sent = refl

pub holding-not-fresh : (good_start group holding_nodes ∷ all_fresh group holding_nodes ∷ []) ≡ true ∷ false ∷ []
unfolding telling
holding-not-fresh = refl

-- the codec: places past the 2ε counts come back 0, and a frame of ten bytes in a longer buffer has the length ten
pub read_back_lem : (read group 0 (write group 0 0 (fresh_tables 5) [] (replicate 9 0)).buffer).stamp.kn ≡ 0 ∷ 1 ∷ replicate 30 0
unfolding telling
read_back_lem = refl

pub written-length : (write group 0 1 (fresh_tables 6) (9 ∷ []) (replicate 11 0)).size ≡ 10
unfolding telling
written-length = refl

-- 02, 2.6: two stations and an observer: what demand 3 says holds of covered messages, and of all of them from a fresh start
abbrev kept_watched : List Scene → Bool
kept_watched scenes = kept_by group watched_nodes (watched_calls scenes)

pub watched-kept : kept_watched all_ahead ≡ true
unfolding telling
watched-kept = refl

pub watched-fresh : (all_fresh group watched_nodes && none_stale (watched_past all_ahead)) ≡ true
unfolding telling
watched-fresh = refl

pub watched-promised :
    (promised group (largest_clock watched_nodes) (watched_past all_ahead) && promised_from group 0 (watched_past all_ahead)) ≡ true
unfolding telling
watched-promised = refl

pub watched-matched : fresh_test same_all deliverable_by group (published_start group watched_nodes) (watched_past all_ahead) ≡ true
unfolding telling
watched-matched = refl

pub watched-figures :
    (every any_observer_test (listenings_from (at_start watched_nodes) (watched_calls all_ahead)) && every any_state_test (inputs_from (at_start watched_nodes) (watched_calls all_ahead)))
    ≡ true
unfolding telling
watched-figures = refl

-- with steps of 2
pub watched-stepped :
    (kept_by wide_group wide_watched watched_steps ∷ all_fresh wide_group wide_watched ∷ promised wide_group (largest_clock wide_watched) watched_stepped
    ∷ promised_from wide_group 0 watched_stepped ∷ every any_observer_test (listenings_from (at_start wide_watched) watched_steps) ∷ [])
    ≡ replicate 5 true
unfolding telling
watched-stepped = refl

-- an observer's damage is mended
pub watched-repaired : ((listen unsound_holdback).repair ∷ (listen (record { setup = group; clock = 7; last = 8; holdback = unsound_holdback.holdback; batch = 0 ∷ []; verdicts = replicate 255 0; delivery = unsound_holdback.delivery })).repair ∷ []) ≡ 2 ∷ 3 ∷ []
unfolding telling
watched-repaired = refl

pub watched-repaired-figures : any_observer_test unsound_holdback ≡ true
unfolding telling
watched-repaired-figures = refl

-- the premises rule the others out
pub watched-not-kept : map kept_watched (left_behind ∷ forestalled ∷ []) ≡ replicate 2 false
unfolding telling
watched-not-kept = refl

pub watched-not-fresh : (good_start group holding_watched ∷ all_fresh group holding_watched ∷ []) ≡ true ∷ false ∷ []
unfolding telling
watched-not-fresh = refl

-- 02, 2.11: the tickets, from damage in every memory: the observer, at 12, has heard what node 0 has, and not shown all of it; at 13 both have shown the same
pub tickets-kept : kept_by group damaged_watched (ticket_calls ticketed) ≡ true
unfolding telling
tickets-kept = refl

pub tickets-shown :
    (same_heard_test group 10 (ticket_world (take 20 ticketed)) 0 2 ∷ shown_test group 10 (ticket_world (take 20 ticketed)).past 0 2
    ∷ same_heard_test group 10 (ticket_world ticketed) 0 2 ∷ shown_test group 10 (ticket_world ticketed).past 0 2 ∷ [])
    ≡ false ∷ false ∷ true ∷ true ∷ []
unfolding telling
tickets-shown = refl

-- 02, 2.7: shelves with all n(δ + 3ε − 1) frames that they can have when a frame is judged: six of two stations, and three of one, at ε 1 and δ 1
pub packed-tight : (length (heard_before packed 6).queue ∷ length (observed_before packed_alone 3).queue ∷ []) ≡ 6 ∷ 3 ∷ []
unfolding telling
packed-tight = refl

-- as it was found a sound shelf may have n(δ + 3ε); but those due before v leave it before a frame is judged
pub packed-overdue : ((listen packed_overdue).repair ∷ length (held 2 packed_overdue.holdback) ∷ length (observed_before packed_overdue 0).queue ∷ []) ≡ 0 ∷ 7 ∷ 5 ∷ []
unfolding telling
packed-overdue = refl

pub packed-figures : (any_state_test packed && every any_observer_test (packed_alone ∷ packed_overdue ∷ [])) ≡ true
unfolding telling
packed-figures = refl

-- 02, 2.9: an engine hears two frames, and one of them again, and hands both out, that of station 0 first
pub engine-heard :
    (take 3 (long_tick hears_two).verdicts ++ ((long_tick hears_two).answer.taken ∷ map (λ f. f.station) (long_held 1 (long_tick hears_two).delivery))) ≡ 0 ∷ 0 ∷ 16 ∷ 2 ∷ 0 ∷ 1 ∷ []
unfolding engines
engine-heard = refl

-- its damage is mended
pub engine-repaired : (long_tick held_twice).answer.repair ≡ 2
unfolding engines
engine-repaired = refl

pub engine-figures : every engine_test (hears_two ∷ held_twice ∷ []) ≡ true
unfolding engines
engine-figures = refl

-- a shelf of 64 is sound, and no other frame is held
pub engine-full :
    ((long_tick holds_all).answer.repair ∷ length (long_heard_before holds_all 0).queue ∷ length (long_heard_before holds_all 1).queue ∷ take 1 (long_tick holds_all).verdicts) ≡ 0 ∷ 64 ∷ 64 ∷ 18 ∷ []
unfolding engines
engine-full = refl

-- a clock of six bytes comes back
pub engine-read-back : (long_read engine_group 0 (long_write engine_group 0 0 (fresh_tables now) [] (replicate 15 0)).buffer).stamp.r ≡ now
unfolding engines
engine-read-back = refl

-- of both stories, with steps of one and of 1 to ε, the engines do in each call what the stations do
pub beside-few :
    (ends_below (past_of cause_and_effect) ∷ holds_few (at_start fresh_nodes) (calls_of cause_and_effect) ∷ ends_below wide_past ∷ holds_few (at_start wide_nodes) wide_calls ∷ [])
    ≡ replicate 4 true
unfolding engines
beside-few = refl

pub beside-story : beside_test long_same_all group (long_start group fresh_nodes) (past_of cause_and_effect) ≡ true
unfolding engines
beside-story = refl

pub beside-stepped : beside_test long_same_all wide_group (long_start wide_group wide_nodes) wide_past ≡ true
unfolding engines
beside-stepped = refl

-- ---- 02, 2.10: the stories through V. Those of fresh nodes, where setups may change from the first call on

abbrev kept_through : Changeover → List Node → List Phase → List Call → Bool
kept_through y nodes phases calls =
    starts_through y phases nodes && (fresh_through y nodes && keeps_through y (largest_clock nodes) 0 phases (at_start nodes) calls)

abbrev kept_season : List Phase → List Node → List Turn → Bool
kept_season phases nodes story = kept_through season nodes phases (season_calls phases nodes story)

-- a take-up a tick later, the new pair four ticks sooner, the new drift with one clock before V, an observer's too, the new delay for an old message, a delay by
-- the clocks before the call, a step of the new pair before V, both pairs B past V and B + 1 before it, the old pair at V, and the new one before it, are
-- ruled out
pub through-ruled-out :
    (kept_season fresh_phases late_up taken_up_late ∷ kept_season both_phases near_change new_too_soon ∷ kept_season two_both two_near ahead_at_change
    ∷ kept_through long_season long_nodes both_phases long_calls ∷ kept_season both_phases before_change heard_one_late ∷ kept_season both_phases together_before heard_own
    ∷ kept_season both_phases early_nodes stepped_before ∷ kept_season two_both past_nodes both_too_long
    ∷ kept_through soon_season (soon_nodes 14) two_older (soon_calls 14) ∷ kept_season (older ∷ []) (one_at older 16) sends_once
    ∷ kept_season (newer ∷ []) (one_at newer 15) sends_once ∷ [])
    ≡ replicate 11 false
unfolding telling
through-ruled-out = refl

-- but for their last calls most of them keep the premises
pub through-kept :
    (kept_season both_phases near_change (take 5 new_too_soon) ∷ kept_season both_phases before_change (take 7 heard_one_late)
    ∷ kept_season both_phases together_before (take 5 heard_own) ∷ kept_season both_phases early_nodes (take 5 stepped_before)
    ∷ kept_season two_both past_nodes (take 2 both_too_long) ∷ kept_through soon_season (soon_nodes 14) two_older (take 3 (soon_calls 14)) ∷ [])
    ≡ replicate 6 true
unfolding telling
through-kept = refl

-- with both pairs a frame that is sent at V is wide, and one at 3 narrow; a narrow one of 16 is handed out at 19; one with c 1 is heard; the order of two
-- on a shelf is the same on both sides of V; and a station that takes both pairs up B before V has its shelf in the next call
pub through-promised :
    (kept_season (both ∷ []) (one_at both 16) sends_once ∷ sending_along (along_all season) 0 (season_past (both ∷ []) (one_at both 16) sends_once)
    ∷ kept_season (both ∷ []) (one_at both 2) sends_once ∷ sending_along (along_all season) 0 (season_past (both ∷ []) (one_at both 2) sends_once)
    ∷ kept_season both_phases near_change heard_near_change ∷ delivering_along (along_all season) 0 (season_past both_phases near_change heard_near_change)
    ∷ kept_season two_both past_change known_ahead ∷ hearing_along (along_all season) 0 (season_past two_both past_change known_ahead)
    ∷ kept_season both_phases together_at14 ordered_before ∷ delivering_along (along_all season) 0 (season_past both_phases together_at14 ordered_before)
    ∷ kept_season both_phases together_at10 (take 7 ordered_before) ∷ delivering_along (along_all season) 0 (season_past both_phases together_at10 (take 7 ordered_before))
    ∷ kept_through soon_season (soon_nodes 15) two_older (soon_calls 15)
    ∷ hearing_along (along_all soon_season) 0 (run_from (at_start (soon_nodes 15)) (soon_calls 15)).past ∷ [])
    ≡ replicate 14 true
unfolding telling
through-promised = refl

-- by equal pairs a message is handed out as with one
pub through-even :
    (kept_through even_season even_nodes two_both even_calls ∷ delivering_along (along_all even_season) 0 (run_from (at_start even_nodes) even_calls).past ∷ [])
    ≡ true ∷ true ∷ []
unfolding telling
through-even = refl

-- calls with both pairs: what 1 and 19 refuse, a shelf of the new size before V, a frame that was due before v, and a shelf with frames that 12 refuses
pub both_told :
    ((tick_in no_drift quiet_at14).answer.number ∷ (tick_in long_drift quiet_at14).answer.number ∷ (tick_in change_at_b quiet_at14).answer.number
    ∷ (tick_in marked_twice quiet_at14).answer.number ∷ (tick_in shorter_delay new_at14).answer.number ∷ (tick_in (pair_at 14) quiet_at14).answer.number
    ∷ (tick_in (pair_at 14) ahead_at14).answer.repair ∷ take 1 (tick_in (pair_at 17) late_at17).verdicts)
    ≡ 1 ∷ 1 ∷ 1 ∷ 1 ∷ 19 ∷ 0 ∷ 2 ∷ 13 ∷ []
unfolding telling
both_told = refl

-- those of recovery
abbrev recovers_season : List Phase → List Node → List Turn → Bool
recovers_season phases nodes story =
    starts_through season phases nodes
    && keeps_through season (largest_clock nodes) (frozen_until season (largest_clock nodes)) phases (at_start nodes) (season_calls phases nodes story)

-- a change of setup three ticks too soon, and an older frame heard two ticks too late, are ruled out; the one that is heard in time is not, and no covered
-- message gets 15 for it
pub through-recovers :
    (recovers_season both_phases frozen_nodes thawed_soon ∷ recovers_season two_both haunting haunted_late ∷ recovers_season both_phases haunted_nodes haunted_in_time
    ∷ hearing_along (along_all season) (covered_through season (largest_clock haunted_nodes)) (season_past both_phases haunted_nodes haunted_in_time) ∷ [])
    ≡ false ∷ false ∷ true ∷ true ∷ []
unfolding telling
through-recovers = refl
