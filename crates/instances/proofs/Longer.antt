-- 02, 2.9: the premises on an engine with long clocks can be met by a list in which the stations' clocks pass B three times.
-- Assumes nothing.
use Prim.Native.Nat.{ℕ, ◌+◌, ◌%◌}
use mathlib.Core.Path.{◌≡◌, refl}
use mathlib.Core.Bool.{true}
use mathlib.Core.List.{List, [], ◌∷◌, map}
use mathlib.Core.Option.{some}
use lib.ListN.{drop, get_elem?}
use Rattle.laws.specs.Lists.{tab}
use Rattle.model.specs.Run.{Call, Done, at_start, is_event}
use Rattle.theory.specs.Premises.{good_start, largest_clock, keeps, all_fresh, none_stale}
use Rattle.theory.specs.LongClocks.{ends_below, holds_few, engines_after, LongMatched}
use Rattle.theory.proofs.LongClocks.{long-clocks}
use Rattle.violations.specs.Stories.{group, Scene, message, sending, fresh_nodes, calls_of, past_of}
use Rattle.violations.proofs.Telling.{telling}

-- two stations in turn, from 5 and 6 on, B being 8: each call sends, and hears what the other's call before it sent
abbrev long_scenes : List Scene
long_scenes = sending 0 65 [] ∷ tab 39 (λ k. sending ((k + 1) % 2) 65 (message k ∷ []))

abbrev long_calls : List Call
long_calls = calls_of long_scenes

pub longer-start : good_start group fresh_nodes ≡ true
unfolding telling
longer-start = refl

pub longer-fresh : all_fresh group fresh_nodes ≡ true
unfolding telling
longer-fresh = refl

pub longer-keeps : keeps group (largest_clock fresh_nodes) (at_start fresh_nodes) long_calls ≡ true
unfolding telling
longer-keeps = refl

pub longer-none-stale : none_stale (past_of long_scenes) ≡ true
unfolding telling
longer-none-stale = refl

pub longer-ends : ends_below (past_of long_scenes) ≡ true
unfolding telling ends_below
longer-ends = refl

pub longer-few : holds_few (at_start fresh_nodes) long_calls ≡ true
unfolding telling holds_few
longer-few = refl

-- the last two calls, for the true clocks 25 and 26: the clock given, c, frames taken and handed out, and the length sent
abbrev figures : Done → List ℕ
figures d = d.clock ∷ d.call.clock ∷ d.output.answer.tables.c ∷ d.output.answer.taken ∷ d.output.answer.delivered ∷ d.output.answer.sent ∷ []

pub longer-figures : map figures (drop 38 (past_of long_scenes)) ≡ (25 ∷ 1 ∷ 0 ∷ 1 ∷ 1 ∷ 10 ∷ []) ∷ (26 ∷ 2 ∷ 0 ∷ 1 ∷ 1 ∷ 10 ∷ []) ∷ []
unfolding telling
longer-figures = refl

-- so an engine does in each call what the station does
pub longer-matched :
    (j : ℕ) (d : Done) → get_elem? (past_of long_scenes) j ≡ some d → is_event d ≡ true → LongMatched group (engines_after group fresh_nodes long_calls j) d
longer-matched = long-clocks group fresh_nodes long_calls longer-start longer-fresh longer-keeps longer-none-stale longer-ends longer-few
