-- 02, 2.10: the premises on lists through V can be met, by a list from damage in every memory and by one from fresh nodes, each with an observer; and
-- what these lists reach is what is promised of them, by computation.
-- Assumes nothing.
use Prim.Native.Nat.{ℕ, ◌-◌}
use mathlib.Core.Path.{◌≡◌, refl}
use mathlib.Core.Bool.{true, ◌&&◌}
use mathlib.Core.List.{List, [], ◌∷◌, map}
use mathlib.Core.Option.{Option, none, some}
use lib.ListN.{length, take, get_or, get_elem?}
use Rattle.laws.specs.Lists.{select, chained}
use Rattle.model.specs.Wider.{wider_held_bytes}
use Rattle.laws.proofs.Numbers.{and_left, and_right}
use Rattle.model.specs.Run.{Done, at_start, run_from}
use Rattle.theory.specs.Premises.{largest_clock, none_stale}
use Rattle.theory.specs.Demand3.{covered}
use Rattle.theory.specs.Changeover.{along_all, frozen_until, keeps_through, starts_through, fresh_through}
use Rattle.theory.specs.Through.{covered_along, earlier_along, PromisedAlong, covered_through}
use Rattle.theory.proofs.Through.{demand3-through, demand3-fresh-through}
use Rattle.violations.specs.Tests.{sending_along, hearing_along, delivering_along}
use Rattle.violations.specs.Through.{season, damaged_season, damaged_phases, damaged_turns, fresh_season, fresh_phases, fresh_turns, season_calls, season_past}
use Rattle.violations.proofs.Telling.{telling}

-- what came of each call: the true clock, the number, mend, frames taken and handed out, bytes sent, and the verdicts
abbrev figures : Done → List ℕ
figures d =
    d.clock ∷ d.output.answer.number ∷ d.output.answer.repair ∷ d.output.answer.taken ∷ d.output.answer.delivered
    ∷ d.output.answer.sent ∷ take (length d.call.sources) d.output.verdicts

-- the frames on a shelf or in a hand-out, each by its length: a narrow one with one byte of ticket has 10, a wide one 12
abbrev lengths_in : (Done → List ℕ) → Option Done → List ℕ
lengths_in bytes none = []
lengths_in bytes (some d) = map (λ frame. length frame) (wider_held_bytes (along_all season) (bytes d))

-- the last byte, the ticket's, of each covered frame that a call handed out
abbrev payloads_in : ℕ → Option Done → List ℕ
payloads_in from none = []
payloads_in from (some d) =
    map (λ frame. get_or frame (length frame - 1) 0)
    (select (covered_along (along_all season) from d.clock) (wider_held_bytes (along_all season) d.output.delivery))

-- ---- from damage

abbrev damaged_past : List Done
damaged_past = season_past damaged_phases damaged_season damaged_turns

pub damaged-start : starts_through season damaged_phases damaged_season ≡ true
unfolding telling
damaged-start = refl

-- X is 5, T is 12, and setups change from the last clock 14 on
pub damaged-bounds :
    (largest_clock damaged_season ∷ covered_through season (largest_clock damaged_season) ∷ frozen_until season (largest_clock damaged_season) ∷ [])
    ≡ 5 ∷ 12 ∷ 14 ∷ []
unfolding telling
damaged-bounds = refl

pub damaged-keeps :
    keeps_through season (largest_clock damaged_season) (frozen_until season (largest_clock damaged_season)) damaged_phases (at_start damaged_season)
    (season_calls damaged_phases damaged_season damaged_turns)
    ≡ true
unfolding telling
damaged-keeps = refl

-- every promise, of the messages covered from 12 on
pub damaged-sending : sending_along (along_all season) 12 damaged_past ≡ true
unfolding telling
damaged-sending = refl

pub damaged-hearing : hearing_along (along_all season) 12 damaged_past ≡ true
unfolding telling
damaged-hearing = refl

pub damaged-delivering : delivering_along (along_all season) 12 damaged_past ≡ true
unfolding telling
damaged-delivering = refl

-- each covered message leads to the next one, and comes before it
pub damaged-causality : chained (earlier_along (along_all season)) (select (covered 12) damaged_past) ≡ true
unfolding telling
damaged-causality = refl

-- damage is mended, older frames are taken and refused up to 8, a call is refused, repeats are passed over; nothing is mended where a setup changes
pub damaged-figures :
    map figures damaged_past
    ≡ (5 ∷ 0 ∷ 3 ∷ 1 ∷ 0 ∷ 0 ∷ 0 ∷ 10 ∷ [])
    ∷ (6 ∷ 0 ∷ 1 ∷ 0 ∷ 1 ∷ 0 ∷ 13 ∷ [])
    ∷ (6 ∷ 0 ∷ 2 ∷ 1 ∷ 0 ∷ 0 ∷ 0 ∷ 12 ∷ [])
    ∷ (6 ∷ 0 ∷ 0 ∷ 0 ∷ 1 ∷ 0 ∷ [])
    ∷ (7 ∷ 0 ∷ 0 ∷ 0 ∷ 0 ∷ 0 ∷ [])
    ∷ (7 ∷ 0 ∷ 0 ∷ 0 ∷ 1 ∷ 0 ∷ [])
    ∷ (7 ∷ 0 ∷ 0 ∷ 0 ∷ 0 ∷ 0 ∷ [])
    ∷ (8 ∷ 0 ∷ 0 ∷ 1 ∷ 0 ∷ 10 ∷ 0 ∷ [])
    ∷ (8 ∷ 0 ∷ 0 ∷ 0 ∷ 0 ∷ 0 ∷ 15 ∷ [])
    ∷ (8 ∷ 0 ∷ 0 ∷ 1 ∷ 0 ∷ 0 ∷ 0 ∷ [])
    ∷ (9 ∷ 0 ∷ 0 ∷ 0 ∷ 0 ∷ 0 ∷ [])
    ∷ (9 ∷ 0 ∷ 0 ∷ 0 ∷ 1 ∷ 0 ∷ [])
    ∷ (9 ∷ 0 ∷ 0 ∷ 0 ∷ 1 ∷ 0 ∷ [])
    ∷ (10 ∷ 0 ∷ 0 ∷ 0 ∷ 0 ∷ 0 ∷ [])
    ∷ (10 ∷ 0 ∷ 0 ∷ 0 ∷ 0 ∷ 0 ∷ [])
    ∷ (10 ∷ 0 ∷ 0 ∷ 0 ∷ 0 ∷ 0 ∷ [])
    ∷ (11 ∷ 0 ∷ 0 ∷ 0 ∷ 0 ∷ 0 ∷ [])
    ∷ (11 ∷ 0 ∷ 0 ∷ 0 ∷ 0 ∷ 0 ∷ [])
    ∷ (11 ∷ 0 ∷ 0 ∷ 0 ∷ 0 ∷ 0 ∷ [])
    ∷ (12 ∷ 0 ∷ 0 ∷ 0 ∷ 0 ∷ 10 ∷ [])
    ∷ (12 ∷ 0 ∷ 0 ∷ 1 ∷ 0 ∷ 10 ∷ 0 ∷ [])
    ∷ (12 ∷ 0 ∷ 0 ∷ 2 ∷ 0 ∷ 0 ∷ 0 ∷ 0 ∷ 16 ∷ [])
    ∷ (13 ∷ 0 ∷ 0 ∷ 0 ∷ 0 ∷ 0 ∷ [])
    ∷ (13 ∷ 0 ∷ 0 ∷ 0 ∷ 1 ∷ 0 ∷ [])
    ∷ (13 ∷ 0 ∷ 0 ∷ 0 ∷ 2 ∷ 0 ∷ [])
    ∷ (14 ∷ 0 ∷ 0 ∷ 0 ∷ 0 ∷ 0 ∷ [])
    ∷ (14 ∷ 0 ∷ 0 ∷ 0 ∷ 0 ∷ 0 ∷ [])
    ∷ (14 ∷ 0 ∷ 0 ∷ 0 ∷ 0 ∷ 0 ∷ [])
    ∷ (14 ∷ 4 ∷ 0 ∷ 0 ∷ 0 ∷ 0 ∷ [])
    ∷ (15 ∷ 0 ∷ 0 ∷ 0 ∷ 0 ∷ 0 ∷ [])
    ∷ (15 ∷ 0 ∷ 0 ∷ 0 ∷ 0 ∷ 0 ∷ [])
    ∷ (15 ∷ 0 ∷ 0 ∷ 0 ∷ 0 ∷ 0 ∷ [])
    ∷ (16 ∷ 0 ∷ 0 ∷ 0 ∷ 0 ∷ 10 ∷ [])
    ∷ (16 ∷ 0 ∷ 0 ∷ 1 ∷ 0 ∷ 10 ∷ 0 ∷ [])
    ∷ (17 ∷ 0 ∷ 0 ∷ 2 ∷ 0 ∷ 0 ∷ 0 ∷ 0 ∷ [])
    ∷ (17 ∷ 0 ∷ 0 ∷ 1 ∷ 0 ∷ 12 ∷ 0 ∷ [])
    ∷ (18 ∷ 0 ∷ 0 ∷ 1 ∷ 0 ∷ 12 ∷ 0 ∷ [])
    ∷ (19 ∷ 0 ∷ 0 ∷ 2 ∷ 2 ∷ 0 ∷ 0 ∷ 0 ∷ [])
    ∷ (19 ∷ 0 ∷ 0 ∷ 1 ∷ 1 ∷ 0 ∷ 0 ∷ [])
    ∷ (19 ∷ 0 ∷ 0 ∷ 0 ∷ 1 ∷ 0 ∷ [])
    ∷ (20 ∷ 0 ∷ 0 ∷ 0 ∷ 0 ∷ 0 ∷ [])
    ∷ (20 ∷ 0 ∷ 0 ∷ 0 ∷ 1 ∷ 0 ∷ [])
    ∷ (21 ∷ 0 ∷ 0 ∷ 0 ∷ 1 ∷ 0 ∷ [])
    ∷ (22 ∷ 0 ∷ 0 ∷ 0 ∷ 1 ∷ 0 ∷ [])
    ∷ (22 ∷ 0 ∷ 0 ∷ 0 ∷ 1 ∷ 0 ∷ [])
    ∷ (22 ∷ 0 ∷ 0 ∷ 0 ∷ 0 ∷ 0 ∷ [])
    ∷ (24 ∷ 0 ∷ 0 ∷ 0 ∷ 0 ∷ 12 ∷ [])
    ∷ (23 ∷ 0 ∷ 0 ∷ 1 ∷ 0 ∷ 12 ∷ 0 ∷ [])
    ∷ (23 ∷ 0 ∷ 0 ∷ 2 ∷ 0 ∷ 0 ∷ 0 ∷ 0 ∷ [])
    ∷ (24 ∷ 0 ∷ 0 ∷ 0 ∷ 0 ∷ 0 ∷ [])
    ∷ (25 ∷ 0 ∷ 0 ∷ 1 ∷ 0 ∷ 0 ∷ 0 ∷ [])
    ∷ (25 ∷ 0 ∷ 0 ∷ 0 ∷ 0 ∷ 0 ∷ [])
    ∷ (25 ∷ 0 ∷ 0 ∷ 0 ∷ 0 ∷ 0 ∷ [])
    ∷ (27 ∷ 0 ∷ 0 ∷ 0 ∷ 1 ∷ 0 ∷ [])
    ∷ (27 ∷ 0 ∷ 0 ∷ 0 ∷ 1 ∷ 0 ∷ [])
    ∷ (27 ∷ 0 ∷ 0 ∷ 0 ∷ 2 ∷ 0 ∷ [])
    ∷ []
unfolding telling
damaged-figures = refl

-- node 1 has frames of both widths on its shelf after its call for 18, the observer after those for 17 two narrow ones, for 19 two wide ones, and for
-- 24, where it goes to the new pair, two wide ones again
pub damaged-holdbacks :
    map (λ k. lengths_in (λ d. d.output.holdback) (get_elem? damaged_past k)) (36 ∷ 34 ∷ 37 ∷ 49 ∷ [])
    ≡ (10 ∷ 12 ∷ []) ∷ (10 ∷ 10 ∷ []) ∷ (12 ∷ 12 ∷ []) ∷ (12 ∷ 12 ∷ []) ∷ []
unfolding telling
damaged-holdbacks = refl

-- what the observer hands out, the cause first each time: 12 and 12; 16 and 16, narrow; 17; 18; 24 and 23, the effect having the smaller r
pub damaged-delivers :
    map (λ k. payloads_in 12 (get_elem? damaged_past k)) (24 ∷ 37 ∷ 41 ∷ 44 ∷ 55 ∷ [])
    ≡ (66 ∷ 65 ∷ []) ∷ (67 ∷ 68 ∷ []) ∷ (69 ∷ []) ∷ (70 ∷ []) ∷ (71 ∷ 72 ∷ []) ∷ []
unfolding telling
damaged-delivers = refl

-- so demand 3 holds of this list
pub damaged-promised :
    PromisedAlong (along_all season) (covered_through season (largest_clock damaged_season))
    (run_from (at_start damaged_season) (season_calls damaged_phases damaged_season damaged_turns)).past
damaged-promised =
    demand3-through season damaged_season damaged_phases (season_calls damaged_phases damaged_season damaged_turns) damaged-start damaged-keeps

-- ---- from fresh nodes

abbrev fresh_past : List Done
fresh_past = season_past fresh_phases fresh_season fresh_turns

pub fresh_start : (starts_through season fresh_phases fresh_season && fresh_through season fresh_season) ≡ true
unfolding telling
fresh_start = refl

pub fresh_keeps :
    keeps_through season (largest_clock fresh_season) 0 fresh_phases (at_start fresh_season) (season_calls fresh_phases fresh_season fresh_turns) ≡ true
unfolding telling
fresh_keeps = refl

pub fresh-none-stale : none_stale fresh_past ≡ true
unfolding telling
fresh-none-stale = refl

-- every promise, of every message
pub fresh-sending : sending_along (along_all season) 0 fresh_past ≡ true
unfolding telling
fresh-sending = refl

pub fresh-hearing : hearing_along (along_all season) 0 fresh_past ≡ true
unfolding telling
fresh-hearing = refl

pub fresh-delivering : delivering_along (along_all season) 0 fresh_past ≡ true
unfolding telling
fresh-delivering = refl

-- each covered message leads to the next one, and comes before it
pub fresh-causality : chained (earlier_along (along_all season)) (select (covered 0) fresh_past) ≡ true
unfolding telling
fresh-causality = refl

pub fresh-figures :
    map figures fresh_past
    ≡ (14 ∷ 0 ∷ 0 ∷ 0 ∷ 0 ∷ 10 ∷ [])
    ∷ (14 ∷ 0 ∷ 0 ∷ 1 ∷ 0 ∷ 0 ∷ 0 ∷ [])
    ∷ (15 ∷ 0 ∷ 0 ∷ 1 ∷ 1 ∷ 0 ∷ 0 ∷ [])
    ∷ (15 ∷ 0 ∷ 0 ∷ 0 ∷ 0 ∷ 10 ∷ [])
    ∷ (15 ∷ 0 ∷ 0 ∷ 1 ∷ 1 ∷ 0 ∷ 0 ∷ [])
    ∷ (16 ∷ 0 ∷ 0 ∷ 1 ∷ 1 ∷ 10 ∷ 0 ∷ [])
    ∷ (16 ∷ 0 ∷ 0 ∷ 1 ∷ 0 ∷ 10 ∷ 0 ∷ [])
    ∷ (17 ∷ 0 ∷ 0 ∷ 2 ∷ 1 ∷ 0 ∷ 0 ∷ 0 ∷ 16 ∷ [])
    ∷ (17 ∷ 0 ∷ 0 ∷ 0 ∷ 0 ∷ 12 ∷ [])
    ∷ (18 ∷ 0 ∷ 0 ∷ 1 ∷ 0 ∷ 12 ∷ 0 ∷ [])
    ∷ (18 ∷ 0 ∷ 0 ∷ 2 ∷ 0 ∷ 0 ∷ 0 ∷ 0 ∷ [])
    ∷ (19 ∷ 0 ∷ 0 ∷ 1 ∷ 1 ∷ 0 ∷ 0 ∷ [])
    ∷ (19 ∷ 0 ∷ 0 ∷ 0 ∷ 0 ∷ 0 ∷ [])
    ∷ (19 ∷ 0 ∷ 0 ∷ 0 ∷ 2 ∷ 0 ∷ [])
    ∷ (20 ∷ 0 ∷ 0 ∷ 0 ∷ 1 ∷ 12 ∷ [])
    ∷ (20 ∷ 0 ∷ 0 ∷ 1 ∷ 0 ∷ 0 ∷ 0 ∷ [])
    ∷ (20 ∷ 0 ∷ 0 ∷ 1 ∷ 1 ∷ 0 ∷ 0 ∷ [])
    ∷ (22 ∷ 0 ∷ 0 ∷ 0 ∷ 0 ∷ 0 ∷ [])
    ∷ (22 ∷ 0 ∷ 0 ∷ 0 ∷ 1 ∷ 0 ∷ [])
    ∷ (22 ∷ 0 ∷ 0 ∷ 0 ∷ 1 ∷ 0 ∷ [])
    ∷ (23 ∷ 0 ∷ 0 ∷ 0 ∷ 0 ∷ 0 ∷ [])
    ∷ (24 ∷ 0 ∷ 0 ∷ 0 ∷ 1 ∷ 0 ∷ [])
    ∷ (23 ∷ 0 ∷ 0 ∷ 0 ∷ 1 ∷ 0 ∷ [])
    ∷ []
unfolding telling
fresh-figures = refl

-- what the observer hands out: that of 14 at 15, that of 15 at 17, having gone past its due clock, 16; those of 16 at 19, those of 17, 18 and 20 then
pub fresh-delivers :
    map (λ k. payloads_in 0 (get_elem? fresh_past k)) (4 ∷ 7 ∷ 13 ∷ 16 ∷ 19 ∷ 22 ∷ [])
    ≡ (64 ∷ []) ∷ (65 ∷ []) ∷ (66 ∷ 67 ∷ []) ∷ (68 ∷ []) ∷ (69 ∷ []) ∷ (70 ∷ []) ∷ []
unfolding telling
fresh-delivers = refl

-- so demand 3 holds of this list for every message
pub fresh-promised : PromisedAlong (along_all season) 0 (run_from (at_start fresh_season) (season_calls fresh_phases fresh_season fresh_turns)).past
fresh-promised =
    demand3-fresh-through season fresh_season fresh_phases (season_calls fresh_phases fresh_season fresh_turns)
    (and_left (starts_through season fresh_phases fresh_season) (fresh_through season fresh_season) fresh_start)
    (and_right (starts_through season fresh_phases fresh_season) (fresh_through season fresh_season) fresh_start) fresh_keeps fresh-none-stale
