-- 02, 2.10, "Wider limits in mid season": the premises on a list of calls that goes through V. Each is a test, so that a given list can be
-- tried. What 2.10 does not speak of is as in Premises.
use Rattle.std.specs.Prelude.{ℕ, ◌+◌, ◌*◌, ◌%◌, Bool, true, false, ◌&&◌, ◌||◌, not, cond, List, [], ◌∷◌, leb, ltb, eqb, set}
use Rattle.std.proofs.Math.Option.{Option, none, some}
use Rattle.std.proofs.Math.ListN.{get_elem?}
use Rattle.laws.specs.Lists.{every, any, same_list}
use Rattle.model.specs.Setup.{Setup, in_limits}
use Rattle.model.specs.Batch.{batch_entries}
use Rattle.model.specs.Schedule.{Schedule, widening, limits_at, Wider}
use Rattle.model.specs.Run.{Node, Source, sent_by, stale, Call, Done, World, act, done_of, is_accepted}
use Rattle.theory.specs.Premises.{together, distinct, valid_for, exact_holdback, stale_until, heard_in_time, one_setup, true_clock, step_allowed, is_fresh}

-- 02: "At an agreed clock V the yard goes from ε, δ to limits ε' ≥ ε, δ' ≥ δ"
pub record Changeover : Type 0 where
  pub before : Setup
  pub after : Setup
  -- 02: V, here as a true clock
  pub change : ℕ

-- which limits hold at which true clock
abbrev pub along_all : Changeover → Schedule
along_all y = widening y.before y.after y.change

-- 02: "limits ε' ≥ ε, δ' ≥ δ, with B in its limits for both", in one yard
unfoldable pub good_changeover : Changeover → Bool
good_changeover y =
    in_limits y.before && (in_limits y.after && (eqb y.after.n y.before.n && (eqb y.after.modulus y.before.modulus
    && (leb y.before.epsilon y.after.epsilon && leb y.before.delta y.after.delta))))

-- ---- which setup a station has

-- 02: the plain old setup; "Each station takes up both pairs"; "A station takes the plain new setup"
pub data Phase : Type 0 where
  older : Phase
  both : Phase
  newer : Phase

-- a call with both pairs carries them; a plain one has the setup that comes after what its station had: the new one, once that was both
abbrev pub phase_after : Phase → Option Wider → Phase
phase_after phase (some w) = both
phase_after older none = older
phase_after both none = newer
phase_after newer none = newer

-- the plain numbers of such a call: with both pairs the old ones, beside which the wider pair stands
abbrev pub phase_setup : Changeover → Phase → Setup
phase_setup y older = y.before
phase_setup y both = y.before
phase_setup y newer = y.after

-- 02: "The setup carries both pairs, V below B (else 1), and a mark set once the clock is at or past V": the wider pair in a call for v
unfoldable pub wider_for : Changeover → ℕ → Wider
wider_for y v =
    record {
      epsilon = y.after.epsilon;
      delta = y.after.delta;
      change = y.change % y.before.modulus;
      marked = cond (leb y.change v) 1 0;
    }

-- the two are the same
unfoldable pub same_wider : Wider → Wider → Bool
same_wider w u =
    eqb w.epsilon u.epsilon && (eqb w.delta u.delta && (eqb w.change u.change && eqb w.marked u.marked))

-- a call for v has that one, if any
abbrev pub phase_wider : Changeover → ℕ → Option Wider → Bool
phase_wider y v none = true
phase_wider y v (some w) = same_wider w (wider_for y v)

-- 02: "shelves and buffers have the new sizes from a station's first call with both pairs"
abbrev pub phase_size : Changeover → Phase → Setup
phase_size y older = y.before
phase_size y both = y.after
phase_size y newer = y.after

-- ---- when it may have it

-- 02: a clock "at least δ + 2ε before V"
unfoldable pub well_before : Changeover → ℕ → Bool
well_before y clock = leb (clock + y.before.delta + 2 * y.before.epsilon) y.change

-- 02: "a clock at most B ticks before V"
unfoldable pub not_too_soon : Changeover → ℕ → Bool
not_too_soon y v = leb y.change (v + y.before.modulus)

-- 02: "to B − 1 past V"
unfoldable pub not_too_late : Changeover → ℕ → Bool
not_too_late y clock = ltb clock (y.change + y.before.modulus)

-- 02: "from δ' + 2ε' … past V"
unfoldable pub well_past : Changeover → ℕ → Bool
well_past y clock = leb (y.change + y.after.delta + 2 * y.after.epsilon) clock

-- whether a call for v, the last clock being `last`, may go from one to the other; until `frozen` none may change.
-- 02: "Each station takes up both pairs in a call for a clock at most B ticks before V, its last clock being at least δ + 2ε before V": so a
-- call with the plain old setup is for a clock as far before V. V lies less than B behind v or at most B ahead, for the setup says no more.
-- "A station takes the plain new setup in a call when its last clock is from δ' + 2ε' to B − 1 past V"
abbrev pub phase_allowed : Changeover → ℕ → ℕ → ℕ → Phase → Phase → Bool
phase_allowed y frozen last v older older = well_before y v
phase_allowed y frozen last v older both = leb frozen last && (well_before y last && not_too_soon y v)
phase_allowed y frozen last v older newer = false
phase_allowed y frozen last v both older = false
phase_allowed y frozen last v both both = not_too_soon y v && not_too_late y v
phase_allowed y frozen last v both newer = leb frozen last && (well_past y last && not_too_late y last)
phase_allowed y frozen last v newer older = false
phase_allowed y frozen last v newer both = false
phase_allowed y frozen last v newer newer = well_past y last

-- 02: "no station goes between a plain setup and both pairs from the start until its last clock is past X + 2δ' + 3ε'": the first such clock
unfoldable pub frozen_until : Changeover → ℕ → ℕ
frozen_until y x = x + 2 * y.after.delta + 3 * y.after.epsilon + 1

-- a shelf is longer than it was left where it gets its new size, and in no other call
abbrev pub takes_up : Phase → Phase → Bool
takes_up older both = true
takes_up older older = false
takes_up older newer = false
takes_up both next = false
takes_up newer next = false

-- ---- drift, delay and what is heard

-- 02: "The old drift holds while any clock is below V", an observer's too
unfoldable pub drift_of : Changeover → List Node → ℕ
drift_of y nodes = cond (any (λ a. ltb a.clock y.change) nodes) y.before.epsilon y.after.epsilon

-- 02: "a message sent before V keeps the old delay"
abbrev pub heard_through : Changeover → List Node → List ℕ → Option Done → Bool
heard_through y nodes entry none = false
heard_through y nodes entry (some d) = heard_in_time (limits_at (along_all y) d.clock) nodes entry (some d)

-- 02: "In the recovery statement and its premises the wider pair then stands for ε and δ in every bound on X"
abbrev pub entry_through : Changeover → ℕ → List Done → List Node → ℕ → List ℕ → Source → Bool
entry_through y x past nodes v entry (sent_by k) = heard_through y nodes entry (get_elem? past k)
entry_through y x past nodes v entry stale = leb v (stale_until y.after x)

-- 01: "Each bundle entry of an accepted call comes from one earlier call, or is an older frame of any bytes"
unfoldable pub entries_through : Changeover → ℕ → List Done → List Node → ℕ → List (List ℕ) → List Source → Bool
entries_through y x past nodes v [] [] = true
entries_through y x past nodes v [] (o ∷ os) = false
entries_through y x past nodes v (e ∷ es) [] = false
entries_through y x past nodes v (e ∷ es) (o ∷ os) =
    entry_through y x past nodes v e o && entries_through y x past nodes v es os

-- ---- the list

-- the setup and the shelf of a call that has gone from one phase to the next
unfoldable pub setup_through : Changeover → ℕ → Phase → Phase → Call → Done → Bool
setup_through y frozen phase next call d =
    phase_allowed y frozen d.last d.clock phase next && (phase_wider y d.clock call.wider
    && (one_setup (phase_setup y next) call d && (takes_up phase next || same_list call.spare [])))

-- an accepted call: its setup, the true clock and its step, which 02 has "the limits of its own clock" for, the drift limit kept after it, and
-- what it may hear
unfoldable pub accepted_through : Changeover → ℕ → ℕ → Phase → World → Call → Done → Bool
accepted_through y x frozen phase w call d =
    setup_through y frozen phase (phase_after phase call.wider) call d && (true_clock y.before call d
    && (step_allowed (limits_at (along_all y) d.clock) call && (together (drift_of y (act w call).nodes) (act w call).nodes
    && entries_through y x w.past (act w call).nodes d.clock (batch_entries call.batch) call.sources)))

-- 01: "A refused call may stand anywhere, given its station's tables and shelf and whatever else"
abbrev pub allowed_in : Changeover → ℕ → ℕ → World → Call → Option Phase → Option Node → Bool
allowed_in y x frozen w call none _ = false
allowed_in y x frozen w call (some phase) none = false
allowed_in y x frozen w call (some phase) (some node) =
    not (is_accepted (done_of node call).output) || accepted_through y x frozen phase w call (done_of node call)

unfoldable pub allowed_through : Changeover → ℕ → ℕ → List Phase → World → Call → Bool
allowed_through y x frozen phases w call =
    allowed_in y x frozen w call (get_elem? phases call.node) (get_elem? w.nodes call.node)

-- the setups of all after a call; a refused one changes none
abbrev pub phases_by : List Phase → Call → Option Phase → Option Node → List Phase
phases_by phases call none _ = phases
phases_by phases call (some phase) none = phases
phases_by phases call (some phase) (some node) =
    cond (is_accepted (done_of node call).output) (set phases call.node (phase_after phase call.wider)) phases

unfoldable pub phases_after : List Phase → World → Call → List Phase
phases_after phases w call = phases_by phases call (get_elem? phases call.node) (get_elem? w.nodes call.node)

-- the premises on a list of calls, from a world on
unfoldable pub keeps_through : Changeover → ℕ → ℕ → List Phase → World → List Call → Bool
keeps_through y x frozen phases w [] = true
keeps_through y x frozen phases w (call ∷ calls) =
    allowed_through y x frozen phases w call && keeps_through y x frozen (phases_after phases w call) (act w call) calls

-- ---- the start

-- 01: "any shelf bytes of the exact length", by the setup that each station has
unfoldable pub exact_holdbacks : Changeover → List Phase → List Node → Bool
exact_holdbacks y [] [] = true
exact_holdbacks y [] (node ∷ nodes) = false
exact_holdbacks y (phase ∷ phases) [] = false
exact_holdbacks y (phase ∷ phases) (node ∷ nodes) = exact_holdback (phase_size y phase) node && exact_holdbacks y phases nodes

-- 01: "The list starts from a clock for each station, any tables, and any shelf bytes of the exact length", and a setup for each
unfoldable pub starts_through : Changeover → List Phase → List Node → Bool
starts_through y phases nodes =
    good_changeover y && (every (valid_for y.before) nodes && (distinct nodes && (together (drift_of y nodes) nodes
    && exact_holdbacks y phases nodes)))

-- 01, demand 2: "every station is fresh at its own clock, its shelf empty", with tables of the width of that clock
unfoldable pub fresh_through : Changeover → List Node → Bool
fresh_through y nodes = every (λ node. is_fresh (limits_at (along_all y) node.clock) node) nodes
