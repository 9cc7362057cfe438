-- 02, 2.14: both bounds are attained, by a list with one pair of limits and by one through V, each from damage in every memory and with an observer.
-- Assumes nothing.
use Prim.Native.Nat.{ℕ, ◌-◌}
use mathlib.Core.Path.{◌≡◌, refl}
use mathlib.Core.Bool.{Bool, true, false}
use mathlib.Core.List.{List, [], ◌∷◌, map}
use mathlib.Core.Option.{Option, none, some}
use lib.ListN.{length, take, get_or, get_elem?}
use Rattle.laws.specs.Lists.{select}
use Rattle.model.specs.Schedule.{Schedule, steady}
use Rattle.model.specs.Wider.{wider_held_bytes}
use Rattle.model.specs.Run.{Done, World, at_start, run_from}
use Rattle.theory.specs.Premises.{good_start, largest_clock, keeps}
use Rattle.theory.specs.Demand3.{covered_from}
use Rattle.theory.specs.Changeover.{along_all, frozen_until, keeps_through, starts_through}
use Rattle.theory.specs.Through.{covered_along, covered_through}
use Rattle.theory.specs.Showing.{shown_by, steps_up_to, shown_until, Showing}
use Rattle.theory.proofs.Showing.{shows, shows-through}
use Rattle.violations.specs.Stories.{wide_group}
use Rattle.violations.specs.Through.{season}
use Rattle.violations.specs.Showing.{shown_test, far_test, soon_test, apart_nodes, apart_calls, apart_season, apart_phases, apart_through, longer_season, longer_nodes, longer_calls}
use Rattle.violations.proofs.Showing.{showing}

-- what came of a call: its node, the true clock, mend, frames taken, and the verdicts
abbrev figures : Done → List ℕ
figures d =
    d.node ∷ d.clock ∷ d.output.answer.repair ∷ d.output.answer.taken ∷ take (length d.call.sources) d.output.verdicts

-- the clock of a call, and those at which the covered messages were sent that it hands out, in their order
abbrev shown_in : Schedule → ℕ → List Done → ℕ → Option Done → List ℕ
shown_in g from past j none = []
shown_in g from past j (some d) = d.clock ∷ map (λ (m : Done). m.clock) (shown_by g from past j d)

-- the last byte, the ticket's, of each covered frame in its hand-out
abbrev payloads_in : Schedule → ℕ → Option Done → List ℕ
payloads_in g from none = []
payloads_in g from (some d) =
    map (λ frame. get_or frame (length frame - 1) 0) (select (covered_along g from d.clock) (wider_held_bytes g d.output.delivery))

-- the clock at which the message of a call was sent, and the bounds for steps up to one tick and up to two
abbrev until_in : Schedule → Option Done → List ℕ
until_in g none = []
until_in g (some m) = m.clock ∷ shown_until g 1 m ∷ shown_until g 2 m ∷ []

-- whether a board has steps up to one tick, and up to two
abbrev steps_in : List Done → ℕ → List Bool
steps_in past node = steps_up_to node 1 past ∷ steps_up_to node 2 past ∷ []

-- ---- with one pair: n 2, ε 2, δ 1

abbrev apart_world : World
apart_world = run_from (at_start apart_nodes) apart_calls

pub apart-start : good_start wide_group apart_nodes ≡ true
unfolding showing
apart-start = refl

pub apart-keeps : keeps wide_group (largest_clock apart_nodes) (at_start apart_nodes) apart_calls ≡ true
unfolding showing
apart-keeps = refl

-- X is 6, T is 13
pub apart-bounds : (largest_clock apart_nodes ∷ covered_from wide_group (largest_clock apart_nodes) ∷ []) ≡ 6 ∷ 13 ∷ []
unfolding showing
apart-bounds = refl

-- all are mended in their first calls, and older frames are taken and refused
pub apart-figures :
    map figures (take 3 apart_world.past) ≡ (2 ∷ 6 ∷ 3 ∷ 1 ∷ 0 ∷ 10 ∷ []) ∷ (0 ∷ 6 ∷ 1 ∷ 0 ∷ 10 ∷ []) ∷ (1 ∷ 8 ∷ 2 ∷ 1 ∷ 0 ∷ []) ∷ []
unfolding showing
apart-figures = refl

-- Node 0 hands out the message of 13 in the call before that of 15, the observer directly before it in the same: they are ε apart. The message of 14,
-- which is ε − 1 past that of 13, is handed out before it, by both
pub apart-shows :
    map (λ j. shown_in (steady wide_group) 13 apart_world.past j (get_elem? apart_world.past j)) (23 ∷ 25 ∷ 24 ∷ [])
    ≡ (17 ∷ 14 ∷ 13 ∷ []) ∷ (18 ∷ 15 ∷ []) ∷ (18 ∷ 14 ∷ 13 ∷ 15 ∷ []) ∷ []
unfolding showing
apart-shows = refl

-- the same by the bytes of the hand-outs
pub apart-payloads :
    map (λ j. payloads_in (steady wide_group) 13 (get_elem? apart_world.past j)) (23 ∷ 25 ∷ 24 ∷ []) ≡ (65 ∷ 66 ∷ []) ∷ (67 ∷ []) ∷ (65 ∷ 66 ∷ 67 ∷ []) ∷ []
unfolding showing
apart-payloads = refl

-- node 0, with steps of one tick, hands out the message of 13 at 17, one before the bound, 18; the observer, with steps of up to two, at 18, one before its
-- bound, 19: later no list has it
pub apart-until : until_in (steady wide_group) (get_elem? apart_world.past 15) ≡ 13 ∷ 18 ∷ 19 ∷ []
unfolding showing
apart-until = refl

pub apart-steps : map (steps_in apart_world.past) (0 ∷ 2 ∷ []) ≡ (true ∷ true ∷ []) ∷ (false ∷ true ∷ []) ∷ []
unfolding showing
apart-steps = refl

-- 2.14 holds of this list, by the theorem, and by computation
pub apart-showing : Showing (steady wide_group) (covered_from wide_group (largest_clock apart_nodes)) apart_world
apart-showing = shows wide_group apart_nodes apart_calls apart-start apart-keeps

pub apart-tests :
    (shown_test (steady wide_group) 13 apart_world ∷ far_test (steady wide_group) 13 apart_world ∷ soon_test 1 (steady wide_group) 13 apart_world ∷ soon_test 2 (steady wide_group) 13 apart_world ∷ [])
    ≡ true ∷ true ∷ true ∷ true ∷ []
unfolding showing
apart-tests = refl

-- ---- through V: at 17 from ε 1, δ 0 to ε 2, δ 1

abbrev through_world : World
through_world = run_from (at_start apart_season) apart_through

pub through-start : starts_through season apart_phases apart_season ≡ true
unfolding showing
through-start = refl

pub through-keeps :
    keeps_through season (largest_clock apart_season) (frozen_until season (largest_clock apart_season)) apart_phases (at_start apart_season) apart_through ≡ true
unfolding showing
through-keeps = refl

-- X is 12, T is 19
pub through-bounds : (largest_clock apart_season ∷ covered_through season (largest_clock apart_season) ∷ []) ≡ 12 ∷ 19 ∷ []
unfolding showing
through-bounds = refl

pub through-figures :
    map figures (take 3 through_world.past) ≡ (2 ∷ 12 ∷ 3 ∷ 1 ∷ 0 ∷ 10 ∷ []) ∷ (0 ∷ 13 ∷ 1 ∷ 0 ∷ 10 ∷ []) ∷ (1 ∷ 13 ∷ 2 ∷ 1 ∷ 0 ∷ []) ∷ []
unfolding showing
through-figures = refl

-- node 0 hands out the message of 19 in the call before that of 21, the observer directly before it in the same, and both after that of 20
pub through-shows :
    map (λ j. shown_in (along_all season) 19 through_world.past j (get_elem? through_world.past j)) (27 ∷ 29 ∷ 28 ∷ [])
    ≡ (23 ∷ 20 ∷ 19 ∷ []) ∷ (24 ∷ 21 ∷ []) ∷ (24 ∷ 20 ∷ 19 ∷ 21 ∷ []) ∷ []
unfolding showing
through-shows = refl

pub through-payloads :
    map (λ j. payloads_in (along_all season) 19 (get_elem? through_world.past j)) (27 ∷ 29 ∷ 28 ∷ []) ≡ (65 ∷ 66 ∷ []) ∷ (67 ∷ []) ∷ (65 ∷ 66 ∷ 67 ∷ []) ∷ []
unfolding showing
through-payloads = refl

-- at 23 and at 24, one before their bounds by the wider pair
pub through-until : until_in (along_all season) (get_elem? through_world.past 19) ≡ 19 ∷ 24 ∷ 25 ∷ []
unfolding showing
through-until = refl

pub through-steps : map (steps_in through_world.past) (0 ∷ 2 ∷ []) ≡ (true ∷ true ∷ []) ∷ (false ∷ true ∷ []) ∷ []
unfolding showing
through-steps = refl

pub through-showing : Showing (along_all season) (covered_through season (largest_clock apart_season)) through_world
through-showing = shows-through season apart_season apart_phases apart_through through-start through-keeps

pub through-tests :
    (shown_test (along_all season) 19 through_world ∷ far_test (along_all season) 19 through_world ∷ soon_test 1 (along_all season) 19 through_world ∷ soon_test 2 (along_all season) 19 through_world ∷ [])
    ≡ true ∷ true ∷ true ∷ true ∷ []
unfolding showing
through-tests = refl

-- ---- of messages that are sent before V, at 16, where δ goes from 0 to 1 and ε stays 2

abbrev longer_world : World
longer_world = run_from (at_start longer_nodes) longer_calls

pub longer-start : starts_through longer_season apart_phases longer_nodes ≡ true
unfolding showing
longer-start = refl

pub longer-keeps :
    keeps_through longer_season (largest_clock longer_nodes) (frozen_until longer_season (largest_clock longer_nodes)) apart_phases (at_start longer_nodes) longer_calls ≡ true
unfolding showing
longer-keeps = refl

-- X is 6, T is 13
pub longer-bounds : (largest_clock longer_nodes ∷ covered_through longer_season (largest_clock longer_nodes) ∷ []) ≡ 6 ∷ 13 ∷ []
unfolding showing
longer-bounds = refl

-- the observer hands out the message of 13 after that of 14 and in the call before that of 15; node 1 heard that of 13 alone
pub longer-shows :
    map (λ j. shown_in (along_all longer_season) 13 longer_world.past j (get_elem? longer_world.past j)) (23 ∷ 25 ∷ 24 ∷ [])
    ≡ (17 ∷ 14 ∷ 13 ∷ []) ∷ (18 ∷ 15 ∷ []) ∷ (18 ∷ 13 ∷ []) ∷ []
unfolding showing
longer-shows = refl

pub longer-payloads :
    map (λ j. payloads_in (along_all longer_season) 13 (get_elem? longer_world.past j)) (23 ∷ 25 ∷ 24 ∷ []) ≡ (65 ∷ 66 ∷ []) ∷ (67 ∷ []) ∷ (66 ∷ []) ∷ []
unfolding showing
longer-payloads = refl

-- the observer, with steps of one tick, at 17, and node 1, with steps of up to two, at 18: one before their bounds by the wider pair
pub longer-until : until_in (along_all longer_season) (get_elem? longer_world.past 14) ≡ 13 ∷ 18 ∷ 19 ∷ []
unfolding showing
longer-until = refl

pub longer-steps : map (steps_in longer_world.past) (2 ∷ 1 ∷ []) ≡ (true ∷ true ∷ []) ∷ (false ∷ true ∷ []) ∷ []
unfolding showing
longer-steps = refl

pub longer-showing : Showing (along_all longer_season) (covered_through longer_season (largest_clock longer_nodes)) longer_world
longer-showing = shows-through longer_season longer_nodes apart_phases longer_calls longer-start longer-keeps

pub longer-tests :
    (shown_test (along_all longer_season) 13 longer_world ∷ far_test (along_all longer_season) 13 longer_world ∷ soon_test 1 (along_all longer_season) 13 longer_world
    ∷ soon_test 2 (along_all longer_season) 13 longer_world ∷ [])
    ≡ true ∷ true ∷ true ∷ true ∷ []
unfolding showing
longer-tests = refl
