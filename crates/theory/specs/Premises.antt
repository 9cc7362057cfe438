-- 01, "Premises of demands 2 and 3". Each is a test, so that a given list can be tried.
use Rattle.std.specs.Prelude.{ℕ, ◌+◌, ◌%◌, Bool, true, false, ◌&&◌, ◌||◌, not, cond, List, [], ◌∷◌, map, leb, eqb, length}
use Rattle.std.proofs.Math.Option.{Option, none, some}
use Rattle.std.proofs.Math.ListN.{get_elem?}
use Rattle.laws.specs.Lists.{within, every, apart, largest, same_list}
use Rattle.model.specs.Setup.{Setup, in_limits, is_member}
use Rattle.model.specs.Timestamp.{Timestamp, fresh, trimmed}
use Rattle.model.specs.Frame.{two_at}
use Rattle.model.specs.Batch.{batch_entries}
use Rattle.model.specs.Tick.{holdback_size}
use Rattle.model.specs.Schedule.{Wider}
use Rattle.model.specs.Run.{Node, Source, sent_by, stale, Call, Done, World, act, done_of, is_accepted, is_event, sends, message_bytes}

-- the two setups are the same
unfoldable pub same_setup : Setup → Setup → Bool
same_setup s t =
    eqb s.n t.n && (eqb s.epsilon t.epsilon && (eqb s.delta t.delta
    && eqb s.modulus t.modulus))

-- 01: "no two station clocks ever differ by more" than ε; 02, 2.6: an observer "has a clock within ε of the others"
unfoldable pub together : ℕ → List Node → Bool
together epsilon nodes = every (λ a. every (λ b. leb a.clock (b.clock + epsilon)) nodes) nodes

-- 01: "distinct stations"; an observer "is not counted in n", and has no own number
unfoldable pub distinct : List Node → Bool
distinct nodes = apart (λ a b. not a.listens && (not b.listens && eqb a.own b.own)) nodes

-- 01: "One valid setup", with each station's own number
unfoldable pub valid_for : Setup → Node → Bool
valid_for s node = in_limits s && (node.listens || is_member s node.own)

-- 01: "any shelf bytes of the exact length"
unfoldable pub exact_holdback : Setup → Node → Bool
exact_holdback s node = eqb (length node.holdback) (holdback_size s)

-- 01: "The list starts from a clock for each station, any tables, and any shelf bytes of the exact length": the setup is valid, the
-- stations are distinct, their clocks keep the drift limit, and their shelves have their length
unfoldable pub good_start : Setup → List Node → Bool
good_start s nodes =
    every (valid_for s) nodes && (distinct nodes && (together s.epsilon nodes && every (exact_holdback s) nodes))

-- 01: "X is the largest of these clocks"; 02, 2.6: which "then includes the listener's"
unfoldable pub largest_clock : List Node → ℕ
largest_clock nodes = largest (map (λ (node : Node). node.clock) nodes)

-- 01: "an older frame is heard in no call for a clock past X + δ + ε"
unfoldable pub stale_until : Setup → ℕ → ℕ
stale_until s x = x + s.delta + s.epsilon

-- the clock of the node at a position
abbrev pub clock_at : Option Node → ℕ
clock_at none = 0
clock_at (some node) = node.clock

-- 01: "a frame heard is one sent since, unaltered and not before its sending", and
-- "a frame is heard while its sender's clock is at most δ past the sending", with the clocks as they stand after the call
abbrev pub heard_in_time : Setup → List Node → List ℕ → Option Done → Bool
heard_in_time s nodes entry none = false
heard_in_time s nodes entry (some d) =
    sends d && (same_list entry (message_bytes d) && leb (clock_at (get_elem? nodes d.node)) (d.clock + s.delta))

-- one entry of the batch of a call for v, by its source: past are the calls before this one, nodes the stations after it
abbrev pub entry_allowed : Setup → ℕ → List Done → List Node → ℕ → List ℕ → Source → Bool
entry_allowed s x past nodes v entry (sent_by k) = heard_in_time s nodes entry (get_elem? past k)
entry_allowed s x past nodes v entry stale = leb v (stale_until s x)

-- 01: "Each bundle entry of an accepted call comes from one earlier call, or is an older frame of any bytes"
unfoldable pub entries_allowed : Setup → ℕ → List Done → List Node → ℕ → List (List ℕ) → List Source → Bool
entries_allowed s x past nodes v [] [] = true
entries_allowed s x past nodes v [] (o ∷ os) = false
entries_allowed s x past nodes v (e ∷ es) [] = false
entries_allowed s x past nodes v (e ∷ es) (o ∷ os) =
    entry_allowed s x past nodes v e o && entries_allowed s x past nodes v es os

-- 01: an accepted call has "One valid setup, the own number aside", and its station's own number
unfoldable pub one_setup : Setup → Call → Done → Bool
one_setup s call d = same_setup call.setup s && (d.listens || eqb call.own d.own)

-- 02, 2.10: a plain setup, which has no wider pair
abbrev pub is_plain : Option Wider → Bool
is_plain none = true
is_plain (some w) = false

-- a call with a plain setup, and with the shelf as long as the call before left it
unfoldable pub plain_call : Call → Bool
plain_call call = is_plain call.wider && same_list call.spare []

-- 01: "the true clock modulo B"
unfoldable pub true_clock : Setup → Call → Done → Bool
true_clock s call d = eqb call.clock (d.clock % s.modulus)

-- 02, 2.2: "The time service now moves a slow station forward by several ticks", by "A step of 1 to ε"
unfoldable pub step_allowed : Setup → Call → Bool
step_allowed s call = within 1 s.epsilon call.step

-- what it hears, with the stations as they stand after it
unfoldable pub hears_allowed : Setup → ℕ → World → Call → Done → Bool
hears_allowed s x w call d =
    entries_allowed s x w.past (act w call).nodes d.clock (batch_entries call.batch) call.sources

-- 01: an accepted call: the one setup, a plain one, the true clock and its step, the drift limit kept after it ("limits ε and δ kept"), and what it may hear
unfoldable pub accepted_well : Setup → ℕ → World → Call → Done → Bool
accepted_well s x w call d =
    plain_call call && (one_setup s call d && (true_clock s call d && (step_allowed s call
    && (together s.epsilon (act w call).nodes && hears_allowed s x w call d))))

-- 01: "A refused call may stand anywhere, given its station's tables and shelf and whatever else"
abbrev pub allowed_for : Setup → ℕ → World → Call → Option Node → Bool
allowed_for s x w call none = false
allowed_for s x w call (some node) =
    not (is_accepted (done_of node call).output) || accepted_well s x w call (done_of node call)

-- a call that the list may have next; one to no node it may not
unfoldable pub allowed : Setup → ℕ → World → Call → Bool
allowed s x w call = allowed_for s x w call (get_elem? w.nodes call.node)

-- the premises on a list of calls, from a world on
unfoldable pub keeps : Setup → ℕ → World → List Call → Bool
keeps s x w [] = true
keeps s x w (call ∷ calls) = allowed s x w call && keeps s x (act w call) calls

-- the same r, c and counts
unfoldable pub same_timestamp : Timestamp → Timestamp → Bool
same_timestamp t u = eqb t.r u.r && (eqb t.c u.c && same_list t.kn u.kn)

-- 01, demand 2: a "station is fresh at its own clock, its shelf empty"; 02, 2.6: an observer has its last clock right. The places past the 2ε
-- counts, and the bytes behind the count of the shelf, are ignored
unfoldable pub is_fresh : Setup → Node → Bool
is_fresh s node =
    cond node.listens (eqb node.tables.r (node.clock % s.modulus))
    (same_timestamp (trimmed s.epsilon node.tables) (fresh s.epsilon (node.clock % s.modulus)))
    && eqb (two_at node.holdback 0) 0

-- 01, demand 2: "every station is fresh at its own clock, its shelf empty"; and every observer
unfoldable pub all_fresh : Setup → List Node → Bool
all_fresh s nodes = every (is_fresh s) nodes

-- the entry comes from an earlier call
unfoldable pub is_sent : Source → Bool
is_sent (sent_by k) = true
is_sent stale = false

-- 01, demand 2: "no older frame exists"
unfoldable pub none_stale : List Done → Bool
none_stale past = every (λ d. not (is_accepted d.output) || every is_sent d.call.sources) past

-- 01: "a clock moves by one": in every accepted call of a station
unfoldable pub steps_of_one : List Done → Bool
steps_of_one past = every (λ d. not (is_event d) || eqb d.call.step 1) past
