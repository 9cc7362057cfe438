-- Demand 3 in full: one statement about the whole list of calls.
use Rattle.std.specs.Prelude.{ℕ, ◌+◌, ◌*◌, ◌%◌, ◌<◌, ◌≡◌, Bool, true, false, ◌&&◌, ◌||◌, cond, List, map, leb, ltb, eqb, take, get_or}
use Rattle.std.proofs.Math.Option.{some}
use Rattle.std.proofs.Math.ListN.{get_elem?}
use Rattle.laws.specs.Lists.{any, select, select_from, sort_by}
use Rattle.laws.specs.Lex.{lex_compare, is_less}
use Rattle.model.specs.Setup.{Setup}
use Rattle.model.specs.Timestamp.{Timestamp}
use Rattle.model.specs.Frame.{decode}
use Rattle.model.specs.Order.{reading_of, key, due}
use Rattle.model.specs.Holdback.{held_bytes}
use Rattle.model.specs.Codec.{WriteAnswer, write}
use Rattle.model.specs.Run.{Node, Source, sent_by, stale, Call, Done, is_accepted, run_from, at_start, sends, message_bytes, message_frame}
use Rattle.theory.specs.Premises.{good_start, largest_clock, keeps, all_fresh, none_stale}

-- 01: "T for X + δ + 3ε"
unfoldable pub covered_from : Setup → ℕ → ℕ
covered_from s x = x + s.delta + 3 * s.epsilon

-- 01: a message "is covered if r is at least T", here `from`; "its r here is that call's true clock"
unfoldable pub covered : ℕ → Done → Bool
covered from m = sends m && leb from m.clock

-- an entry that comes from the call at position k
unfoldable pub is_from : ℕ → Source → Bool
is_from k (sent_by j) = eqb k j
is_from k stale = false

-- 01: "heard where an accepted call's bundle has an entry from it"
unfoldable pub heard_in : ℕ → ℕ → Done → Bool
heard_in node k d = is_accepted d.output && (eqb d.node node && any (is_from k) d.call.sources)

-- 01: the due clock of a message, sum + δ + ε
unfoldable pub due_clock : Setup → Done → ℕ
due_clock s m = due s m.clock (message_frame m).stamp.c

-- 02, 2.2: handed out "at the first tick at or past its due clock": the due clock is past the station's clock before a call, and not past v.
-- Where the step is one, it is v
unfoldable pub due_in : Setup → ℕ → ℕ → Done → Bool
due_in s last v m = ltb last (due_clock s m) && leb (due_clock s m) v

-- 01: "the order of two stamps", each with its true clock
unfoldable pub message_key : Setup → Done → List ℕ
message_key s m = key s m.clock (message_frame m)

-- the first "comes first in the order of two stamps"
unfoldable pub earlier : Setup → Done → Done → Bool
earlier s m m' = is_less (lex_compare (message_key s m) (message_key s m'))

-- 01: "the covered messages heard there so far (this call too) that are due", each once, in the call that moves the clock from `last` to v
unfoldable pub due_here : Setup → ℕ → List Done → ℕ → ℕ → ℕ → List Done
due_here s from past node last v = select_from (λ k m. covered from m && (due_in s last v m && any (heard_in node k) past)) 0 past

-- 01: a handed-out frame "whose r, read near v, is at least T"; v reads B
unfoldable pub covered_frame : Setup → ℕ → ℕ → List ℕ → Bool
covered_frame s from v bytes =
    leb (s.modulus + from) (reading_of s (v % s.modulus) (decode s.epsilon bytes) + v)

-- 01: the tables' new c and counts, with the clock modulo B
unfoldable pub new_timestamp : Setup → Done → Timestamp
new_timestamp s d = record { r = d.clock % s.modulus; c = d.output.answer.tables.c; kn = d.output.answer.tables.kn }

-- the writer's answer for that call's sending
unfoldable pub written : Setup → Done → WriteAnswer
written s d =
    write s d.own d.own (new_timestamp s d) d.call.payload d.call.outgoing

-- 01: "A call leads to later ones of its station, to those that take the message it sent, and on through such steps."
pub data Leads (past : List Done) : ℕ → ℕ → Type 0 where
  later :
      {i j : ℕ} {a b : Done} → i < j → get_elem? past i ≡ some a → get_elem? past j ≡ some b → a.node ≡ b.node → Leads past i j
  takes :
      {i j : ℕ} {b : Done} (e : ℕ) → get_elem? past j ≡ some b → is_accepted b.output ≡ true
      → get_elem? b.call.sources e ≡ some (sent_by i) → get_or b.output.verdicts e 0 ≡ 0 → Leads past i j
  on : {i j k : ℕ} → Leads past i j → Leads past j k → Leads past i k

-- what demand 3 promises of a list of calls that have been made, of the messages covered from a clock on. 02, 2.6: "What demand 3 says of a
-- station's board must hold of" an observer's: hearing and delivering are said of every accepted call
pub record Promised (s : Setup) (from : ℕ) (past : List Done) : Type 0 where
  -- "From T on, an accepted call with a ticket to send sends the frame that the writer makes of its station, clock modulo B, new c and counts, and ticket."
  pub sending :
      (j : ℕ) (d : Done) → get_elem? past j ≡ some d → covered from d ≡ true
      → ((written s d).number ≡ 0) × (d.output.answer.sent ≡ (written s d).size) × (d.output.outgoing ≡ (written s d).buffer)
  -- "On each board, in order of calls and entries, a covered message gets verdict 0 at its first hearing, 16 at each later one."
  pub hearing :
      (j : ℕ) (d : Done) → get_elem? past j ≡ some d → is_accepted d.output ≡ true
      → (e k : ℕ) (m : Done) → get_elem? d.call.sources e ≡ some (sent_by k) → get_elem? past k ≡ some m → covered from m ≡ true
      → get_or d.output.verdicts e 0
      ≡ cond (any (heard_in d.node k) (take j past) || any (is_from k) (take e d.call.sources)) 16 0
  -- "In each accepted call for v, the handed-out frames whose r, read near v, is at least T are byte for byte the covered messages
  -- heard there so far (this call too) that are due at v, each once, in the order of two stamps." 02, 2.2: that are due past the clock
  -- before this call and not past v
  pub delivering :
      (j : ℕ) (d : Done) → get_elem? past j ≡ some d → is_accepted d.output ≡ true
      → select (covered_frame s from d.clock) (held_bytes s.epsilon d.output.delivery)
      ≡ map message_bytes (sort_by (earlier s) (due_here s from (take (j + 1) past) d.node d.last d.clock))
  -- "A sending could have known of each message whose call leads to its own; where both are covered, that message comes first in the order of two stamps."
  pub causality :
      (i j : ℕ) (a b : Done) → Leads past i j → get_elem? past i ≡ some a → get_elem? past j ≡ some b
      → covered from a ≡ true → covered from b ≡ true → earlier s a b ≡ true

-- 01: "Demand 3 is one statement about the whole list, not one about each call."
abbrev pub Demand3 : Type 0
Demand3 =
    (s : Setup) (nodes : List Node) (calls : List Call) → good_start s nodes ≡ true
    → keeps s (largest_clock nodes) (at_start nodes) calls ≡ true
    → Promised s (covered_from s (largest_clock nodes)) (run_from (at_start nodes) calls).past

-- 02, 2.6: and "for every message from a fresh start": fresh stations, observers with their last clock right, empty shelves, no older frame
abbrev pub Demand3Fresh : Type 0
Demand3Fresh =
    (s : Setup) (nodes : List Node) (calls : List Call) → good_start s nodes ≡ true → all_fresh s nodes ≡ true
    → keeps s (largest_clock nodes) (at_start nodes) calls ≡ true → none_stale (run_from (at_start nodes) calls).past ≡ true
    → Promised s 0 (run_from (at_start nodes) calls).past
