-- 02, 2.14, "Far enough apart, and soon enough": its promises as tests of a list of calls, and stories that come as near to both bounds as a list can.
use Rattle.std.specs.Prelude.{ℕ, ◌+◌, Bool, ◌&&◌, ◌||◌, List, [], ◌∷◌, map, leb, ltb, eqb, replicate}
use Rattle.std.proofs.Math.ListN.{get_elem?}
use Rattle.laws.specs.Lists.{any, select}
use Rattle.model.specs.Schedule.{Schedule, widest_of}
use Rattle.model.specs.Wider.{wider_held_bytes}
use Rattle.model.specs.Run.{Node, Call, Done, World, is_accepted, at_start, message_bytes}
use Rattle.theory.specs.Premises.{clock_at}
use Rattle.theory.specs.Demand3.{covered, heard_in}
use Rattle.theory.specs.Changeover.{Changeover, Phase, both}
use Rattle.theory.specs.Through.{covered_along}
use Rattle.theory.specs.Showing.{shown_by, steps_up_to, shown_until}
use Rattle.violations.specs.Tests.{every_from, any_from, implies, delivers_right}
use Rattle.violations.specs.Stories.{wide_group, Scene, message, stale_frame, calls_from, nudged, quiet, hearing, sending, bytes_of}
use Rattle.violations.specs.Through.{Turn, stays, turns, season, holdback_with, stepping, sending_after, member, listener, scrap, season_calls, calls_through}

-- ---- the promises as tests

-- `delivering`, of the list
unfoldable pub shown_test : Schedule → ℕ → World → Bool
shown_test g from w =
    every_from (λ j d. delivers_right d (select (covered_along g from d.clock) (wider_held_bytes g d.output.delivery))
    (map message_bytes (shown_by g from w.past j d))) 0 w.past

-- some call of the board hands this message out: a test of the call's position and of the call, and of the place in what it hands out
abbrev pub shown_where : (ℕ → Done → ℕ → Bool) → Schedule → ℕ → List Done → ℕ → Done → Bool
shown_where test g from past node m =
    any_from (λ i a. is_accepted a.output && (eqb a.node node
    && any_from (λ p x. eqb x.node m.node && (eqb x.clock m.clock && test i a p)) 0 (shown_by g from past i a))) 0 past

-- 02: a "board that hears" the message of the call at position k
abbrev pub heard_there : List Done → ℕ → ℕ → Bool
heard_there past node k = any (heard_in node k) past

-- 02: "a message whose sending clock is at least ε below another's"
abbrev pub far_below : Schedule → Done → Done → Bool
far_below g m m' = leb (m.clock + (widest_of g).epsilon) m'.clock

-- `far`, of what the call at position j hands out at place q, and of the message of the call at position k
abbrev pub far_from : Schedule → ℕ → List Done → ℕ → Done → ℕ → Done → ℕ → Done → Bool
far_from g from past j d q m' k m =
    implies (covered from m && (heard_there past d.node k && far_below g m m'))
    (shown_where (λ i a p. ltb i j || (eqb i j && ltb p q)) g from past d.node m)

-- of the list
unfoldable pub far_test : Schedule → ℕ → World → Bool
far_test g from w =
    every_from (λ j d. implies (is_accepted d.output)
    (every_from (λ q m'. every_from (far_from g from w.past j d q m') 0 w.past) 0 (shown_by g from w.past j d))) 0 w.past

-- `soon`, of a board that takes no step above `most`, and of the message of the call at position k
abbrev pub soon_at : ℕ → Schedule → ℕ → World → ℕ → ℕ → Done → Bool
soon_at most g from w node k m =
    implies (covered from m && (any (heard_in node k) w.past && leb (shown_until g most m) (clock_at (get_elem? w.nodes node))))
    (shown_where (λ i a p. ltb a.clock (shown_until g most m)) g from w.past node m)

-- of the list
unfoldable pub soon_test : ℕ → Schedule → ℕ → World → Bool
soon_test most g from w =
    every_from (λ node a. implies (steps_up_to node most w.past) (every_from (soon_at most g from w node) 0 w.past)) 0 w.nodes

-- ---- from damage in every memory, with one pair

-- n 2, ε 2, δ 1. Node 0 has tables of nonsense and a forged frame on its shelf, node 1 tables that were never written by a tick but look sound, and a
-- shelf of nonsense, the observer, node 2, a last clock of B or more and a shelf of nonsense. X is 6: older frames may be heard up to 9, messages are
-- covered from 13 on
abbrev pub apart_nodes : List Node
apart_nodes =
    member 0 5 (record { r = 5; c = 9; kn = replicate 32 77 })
    (holdback_with wide_group (1 ∷ 0 ∷ bytes_of 1 5 0 (0 ∷ 1 ∷ 1 ∷ 0 ∷ []) (9 ∷ [])))
    ∷ member 1 6 (record { r = 6; c = 0; kn = 1 ∷ 2 ∷ 1 ∷ 0 ∷ replicate 28 255 }) (holdback_with wide_group [])
    ∷ listener 4 77 (holdback_with wide_group [])
    ∷ []

-- an older frame, heard at 6 and at 8
abbrev pub apart_old : List ℕ
apart_old = bytes_of 0 5 0 (0 ∷ 1 ∷ 1 ∷ 0 ∷ []) (7 ∷ [])

-- Node 1 sends at 14, and node 0 at 13 because of it: both sums are 14, both are due at 17, and the one of 14 comes first. Node 1 sends at 15, knowing
-- nothing of the one of 13: it is due at 18. Node 0, whose steps are all of one tick, hands out the first two at 17 and the third at 18; the observer, which
-- goes by two, all three at 18. Node 1 hears the third alone
abbrev pub apart_scenes : List Scene
apart_scenes =
    stepping 2 2 (stale_frame apart_old ∷ stale_frame scrap ∷ []) ∷ hearing 0 (stale_frame scrap ∷ []) ∷ stepping 2 1 (stale_frame apart_old ∷ []) ∷ quiet 0
    ∷ nudged 2 2 ∷ quiet 0 ∷ nudged 2 1 ∷ nudged 2 2 ∷ quiet 0 ∷ quiet 0 ∷ nudged 2 1 ∷ nudged 2 2 ∷ quiet 0 ∷ quiet 0
    ∷ sending_after 2 1 65 [] ∷ sending 0 66 (message 14 ∷ []) ∷ hearing 0 (message 15 ∷ message 14 ∷ [])
    ∷ stepping 2 2 (message 15 ∷ message 14 ∷ []) ∷ sending 1 67 [] ∷ hearing 0 (message 18 ∷ []) ∷ stepping 2 2 (message 18 ∷ [])
    ∷ quiet 0 ∷ hearing 1 (message 18 ∷ []) ∷ quiet 0 ∷ nudged 2 2 ∷ quiet 0 ∷ nudged 2 1 ∷ quiet 0 ∷ nudged 2 2 ∷ []

abbrev pub apart_calls : List Call
apart_calls = calls_from wide_group (at_start apart_nodes) apart_scenes

-- ---- and straight through V

-- at clock 17 from ε 1, δ 0 to ε 2, δ 1. All have both pairs, and the same kinds of damage. X is 12: older frames may be heard up to 15, messages are
-- covered from 19 on, and no setup changes before the last clock is 21
abbrev pub apart_season : List Node
apart_season =
    member 0 12 (record { r = 12; c = 9; kn = replicate 32 77 })
    (holdback_with season.after (1 ∷ 0 ∷ bytes_of 1 12 0 (0 ∷ 1 ∷ []) (9 ∷ [])))
    ∷ member 1 12 (record { r = 12; c = 0; kn = 1 ∷ 1 ∷ replicate 30 255 }) (holdback_with season.after [])
    ∷ listener 11 77 (holdback_with season.after [])
    ∷ []

abbrev pub apart_phases : List Phase
apart_phases = both ∷ both ∷ both ∷ []

abbrev pub apart_wide : List ℕ
apart_wide = bytes_of 0 12 0 (0 ∷ 1 ∷ 1 ∷ 0 ∷ []) (7 ∷ [])

-- the same messages past V, of 20, 19 and 21, due at 23, 23 and 24. Every node goes to the new pair, node 0 and the observer in the call in which they hand
-- out the first of them
abbrev pub apart_turns : List Turn
apart_turns =
    stays (hearing 2 (stale_frame apart_wide ∷ stale_frame scrap ∷ [])) ∷ stays (hearing 0 (stale_frame scrap ∷ [])) ∷ stays (hearing 1 (stale_frame apart_wide ∷ []))
    ∷ stays (quiet 2) ∷ stays (quiet 0) ∷ stays (quiet 1) ∷ stays (quiet 2) ∷ stays (quiet 0) ∷ stays (quiet 1) ∷ stays (quiet 2) ∷ stays (quiet 0)
    ∷ stays (quiet 1) ∷ stays (quiet 2) ∷ stays (quiet 0) ∷ stays (quiet 1) ∷ stays (nudged 2 2) ∷ stays (quiet 0) ∷ stays (quiet 1)
    ∷ stays (sending_after 2 1 65 []) ∷ stays (sending 0 66 (message 18 ∷ [])) ∷ stays (hearing 0 (message 19 ∷ message 18 ∷ []))
    ∷ stays (stepping 2 2 (message 19 ∷ message 18 ∷ [])) ∷ stays (sending 1 67 []) ∷ stays (hearing 0 (message 22 ∷ []))
    ∷ stays (stepping 2 2 (message 22 ∷ [])) ∷ stays (quiet 0) ∷ stays (hearing 1 (message 22 ∷ [])) ∷ turns (quiet 0) ∷ turns (nudged 2 2) ∷ stays (quiet 0)
    ∷ turns (nudged 2 1) ∷ stays (quiet 0) ∷ stays (nudged 2 2) ∷ []

abbrev pub apart_through : List Call
apart_through = season_calls apart_phases apart_season apart_turns

-- ---- through V with a longer delay alone: at clock 16 from δ 0 to δ 1, with ε 2. What is sent before V comes as near to the bounds as what is sent past it

abbrev pub longer_season : Changeover
longer_season =
    record {
      before = record { n = 2; epsilon = 2; delta = 0; modulus = 14 };
      after = record { n = 2; epsilon = 2; delta = 1; modulus = 14 };
      change = 16;
    }

-- all have both pairs; X is 6, messages are covered from 13 on
abbrev pub longer_nodes : List Node
longer_nodes =
    member 0 5 (record { r = 5; c = 9; kn = replicate 32 77 })
    (holdback_with longer_season.after (1 ∷ 0 ∷ bytes_of 1 5 0 (0 ∷ 1 ∷ 1 ∷ 0 ∷ []) (9 ∷ [])))
    ∷ member 1 6 (record { r = 6; c = 0; kn = 1 ∷ 2 ∷ 1 ∷ 0 ∷ replicate 28 255 }) (holdback_with longer_season.after [])
    ∷ listener 6 77 (holdback_with longer_season.after [])
    ∷ []

abbrev pub longer_old : List ℕ
longer_old = bytes_of 0 6 0 (0 ∷ 1 ∷ 1 ∷ 0 ∷ []) (7 ∷ [])

-- The messages of 14, 13 and 15 again, all sent before V and due at 17, 17 and 18, past it. The observer goes by one tick, and hands out the first two at 17
-- and the third at 18; node 1, which goes by two, hands out that of 13 at 18
abbrev pub longer_turns : List Turn
longer_turns =
    stays (hearing 2 (stale_frame longer_old ∷ stale_frame scrap ∷ [])) ∷ stays (stepping 2 0 (stale_frame scrap ∷ [])) ∷ stays (stepping 2 1 (stale_frame longer_old ∷ []))
    ∷ stays (quiet 2) ∷ stays (nudged 2 0) ∷ stays (nudged 2 1) ∷ stays (quiet 2) ∷ stays (quiet 2) ∷ stays (nudged 2 0) ∷ stays (nudged 2 1)
    ∷ stays (quiet 2) ∷ stays (quiet 0) ∷ stays (quiet 2) ∷ stays (sending_after 2 1 65 []) ∷ stays (sending 0 66 (message 13 ∷ []))
    ∷ stays (hearing 2 (message 14 ∷ message 13 ∷ [])) ∷ stays (sending 1 67 (message 14 ∷ [])) ∷ stays (hearing 2 (message 16 ∷ [])) ∷ stays (nudged 2 0)
    ∷ stays (quiet 2) ∷ stays (quiet 1) ∷ stays (quiet 2) ∷ stays (nudged 2 0) ∷ stays (quiet 2) ∷ stays (nudged 2 1) ∷ stays (quiet 2) ∷ stays (nudged 2 0)
    ∷ stays (quiet 2) ∷ stays (nudged 2 1) ∷ []

abbrev pub longer_calls : List Call
longer_calls = calls_through longer_season apart_phases (at_start longer_nodes) longer_turns
