-- 02, 2.9: "On every run that keeps drift and delay, hears only frames sent in it and unaltered, steps by 1 to ε, starts fresh, ends below 2^63
-- and never holds more than 64, its verdict bytes, tables, frames and hand-outs, with r modulo B in two bytes and count 3, are call for call
-- the station's."
use Rattle.std.specs.Prelude.{ℕ, ◌+◌, ◌-◌, ◌%◌, ◌≡◌, Bool, true, false, ◌&&◌, ◌||◌, not, List, [], ◌∷◌, ◌++◌, map, leb, ltb, length, take, drop, get_or, set, replicate}
use Rattle.std.proofs.Math.Option.{Option, none, some}
use Rattle.std.proofs.Math.ListN.{get_elem?}
use Rattle.laws.specs.Lists.{every, joined, overlay}
use Rattle.model.specs.Setup.{Setup, verdict_length}
use Rattle.model.specs.Timestamp.{Timestamp, fresh, widened}
use Rattle.model.specs.Frame.{Frame, two_bytes, encode}
use Rattle.model.specs.Holdback.{held}
use Rattle.model.specs.Tick.{Input, Output, opened_queue, heard_of, taken_count}
use Rattle.model.specs.Run.{Node, Source, sent_by, stale, Call, Done, World, is_accepted, is_event, input_of, output_of, act, at_start, run_from}
use Rattle.model.specs.Long.{long_bound, long_most, number_at, longest_long, long_decode, long_held_bytes, long_held, long_holdback_size, long_encode_holdback, long_tick}
use Rattle.theory.specs.Premises.{good_start, largest_clock, keeps, all_fresh, none_stale}

-- ---- the same calls, made of engines with long clocks

-- an engine between its calls: its tables and its shelf
pub record Engine : Type 0 where
  pub tables : Timestamp
  -- 01: the shelf
  pub holdback : List ℕ

-- the engines, and the frame that each call so far has sent, no bytes if none
pub record LongGroup : Type 0 where
  pub engines : List Engine
  pub sent : List (List ℕ)

-- the bytes of an entry: "frames sent in it and unaltered"
abbrev pub long_entry : List (List ℕ) → Source → List ℕ
long_entry sent (sent_by k) = get_or sent k []
long_entry sent stale = []

-- 01: "A bundle is a one-byte count, then for each entry a one-byte length and its bytes"
unfoldable pub long_batch : List (List ℕ) → List Source → List ℕ
long_batch sent sources = length sources ∷ joined (λ (source : Source). length (long_entry sent source) ∷ long_entry sent source) sources

-- the same call of an engine: for the true clock, with buffers that have room
unfoldable pub long_input : LongGroup → Engine → Done → Input
long_input workbench engine d =
    record {
      setup = d.call.setup;
      own = d.call.own;
      clock = d.clock;
      tables = engine.tables;
      holdback = engine.holdback;
      batch = long_batch workbench.sent d.call.sources;
      send = d.call.send;
      payload = d.call.payload;
      outgoing = replicate (longest_long d.call.setup.epsilon) 0;
      verdicts = replicate verdict_length 0;
      delivery = replicate (long_holdback_size d.call.setup) 0;
    }

-- what comes of it, if there is such an engine
abbrev pub long_output : LongGroup → Done → Option Engine → Option Output
long_output workbench d none = none
long_output workbench d (some engine) = some (long_tick (long_input workbench engine d))

abbrev pub long_after : LongGroup → Done → Option Output → LongGroup
long_after workbench d none = record { engines = workbench.engines; sent = workbench.sent ++ ([] ∷ []) }
long_after workbench d (some o) =
    record {
      engines = set workbench.engines d.node (record { tables = o.answer.tables; holdback = o.holdback });
      sent = workbench.sent ++ (take o.answer.sent o.outgoing ∷ []);
    }

-- only the accepted calls of stations are made of engines
abbrev pub long_of : Bool → LongGroup → Done → Option Output
long_of false workbench d = none
long_of true workbench d = long_output workbench d (get_elem? workbench.engines d.node)

unfoldable pub long_acted : LongGroup → Done → LongGroup
long_acted workbench d = long_after workbench d (long_of (is_event d) workbench d)

unfoldable pub long_all : LongGroup → List Done → LongGroup
long_all workbench [] = workbench
long_all workbench (d ∷ ds) = long_all (long_acted workbench d) ds

-- "starts fresh": at the station's true clock, with an empty shelf
unfoldable pub long_fresh : Setup → Node → Engine
long_fresh s node =
    record { tables = widened (fresh s.epsilon node.clock); holdback = long_encode_holdback (long_holdback_size s) [] }

unfoldable pub long_start : Setup → List Node → LongGroup
long_start s nodes = record { engines = map (long_fresh s) nodes; sent = [] }

-- the engines after the first j calls
abbrev pub engines_after : Setup → List Node → List Call → ℕ → LongGroup
engines_after s nodes calls j = long_all (long_start s nodes) (take j (run_from (at_start nodes) calls).past)

-- ---- the premises that are its own

-- "ends below 2^63"
unfoldable pub ends_below : List Done → Bool
ends_below past = every (λ (d : Done). ltb d.clock long_bound) past

-- "never holds more than 64": what is on the station's shelf when the call begins, and what it takes, of which nothing leaves before the hand-out
abbrev pub few_in : Call → Option Node → Bool
few_in call none = true
few_in call (some node) =
    not (is_accepted (output_of node call))
    || (node.listens || leb (length (opened_queue (input_of node call)) + taken_count (heard_of (input_of node call)).verdicts) long_most)

unfoldable pub holds_few : World → List Call → Bool
holds_few w [] = true
holds_few w (call ∷ calls) = few_in call (get_elem? w.nodes call.node) && holds_few (act w call) calls

-- ---- what is the same

-- "with r modulo B"
unfoldable pub reduced_stamp : ℕ → Timestamp → Timestamp
reduced_stamp modulus t = record { r = t.r % modulus; c = t.c; kn = t.kn }

unfoldable pub reduced_long : ℕ → Frame → Frame
reduced_long modulus f = record { station = f.station; stamp = reduced_stamp modulus f.stamp; payload = f.payload }

-- the frame that a station writes of what an engine's bytes hold; none for no bytes
abbrev pub rewritten : Setup → List ℕ → List ℕ
rewritten s [] = []
rewritten s (x ∷ rest) = encode (reduced_long s.modulus (long_decode s.epsilon (x ∷ rest)))

-- "with r modulo B in two bytes and count 3": an engine's frame with its r so, and its first count six less: 9 comes to 3, and no other does.
-- All else is as it is, byte for byte; no bytes for none
unfoldable pub narrowed : ℕ → List ℕ → List ℕ
narrowed modulus [] = []
narrowed modulus (count ∷ rest) = (count - 6) ∷ get_or rest 0 0 ∷ (two_bytes (number_at 8 rest 1 % modulus) ++ drop 9 rest)

-- the same of an engine's hand-out: its two-byte count as it is, then each of its frames so
unfoldable pub narrowed_delivery : Setup → List ℕ → List ℕ
narrowed_delivery s bytes = take 2 bytes ++ joined (narrowed s.modulus) (long_held_bytes s.epsilon bytes)

-- a call of a station, and what comes of the same call of an engine
pub record SameLong (s : Setup) (d : Done) (o : Output) : Type 0 where
  -- it is accepted, and there is nothing to mend, as in the station's
  pub number : o.answer.number ≡ 0
  pub repair : o.answer.repair ≡ d.output.answer.repair
  -- "its verdict bytes"
  pub verdicts : take (length d.call.sources) o.verdicts ≡ take (length d.call.sources) d.output.verdicts
  pub taken : o.answer.taken ≡ d.output.answer.taken
  -- "tables"
  pub tables : d.output.answer.tables ≡ reduced_stamp s.modulus o.answer.tables
  -- "frames", byte for byte, and by what they hold
  pub frames : take d.output.answer.sent d.output.outgoing ≡ narrowed s.modulus (take o.answer.sent o.outgoing)
  pub frames_read : take d.output.answer.sent d.output.outgoing ≡ rewritten s (take o.answer.sent o.outgoing)
  -- "and hand-outs": how many frames; every byte of the station's buffer, of which those beyond the hand-out stay; and what is read back from both
  pub delivered : o.answer.delivered ≡ d.output.answer.delivered
  pub deliveries : d.output.delivery ≡ overlay (narrowed_delivery s o.delivery) d.call.delivery
  pub delivered_frames : held s.epsilon d.output.delivery ≡ map (reduced_long s.modulus) (long_held s.epsilon o.delivery)

-- the engine of the call's station, as the calls before it left it
abbrev pub LongMatched : Setup → LongGroup → Done → Type 0
LongMatched s workbench d = (o : Output) × (long_of (is_event d) workbench d ≡ some o) × SameLong s d o

abbrev pub LongClocks : Type 0
LongClocks =
    (s : Setup) (nodes : List Node) (calls : List Call) → good_start s nodes ≡ true → all_fresh s nodes ≡ true
    → keeps s (largest_clock nodes) (at_start nodes) calls ≡ true → none_stale (run_from (at_start nodes) calls).past ≡ true
    → ends_below (run_from (at_start nodes) calls).past ≡ true → holds_few (at_start nodes) calls ≡ true
    → (j : ℕ) (d : Done) → get_elem? (run_from (at_start nodes) calls).past j ≡ some d → is_event d ≡ true
    → LongMatched s (engines_after s nodes calls j) d
