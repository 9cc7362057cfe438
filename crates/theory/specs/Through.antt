-- 02, 2.10: demand 3 straight through V: "growers' tickets must keep one causal order straight through V".
use Rattle.std.specs.Prelude.{ℕ, ◌+◌, ◌%◌, ◌≡◌, Bool, true, ◌&&◌, ◌||◌, cond, List, [], ◌∷◌, ◌++◌, map, leb, ltb, take, get_or}
use Rattle.std.proofs.Math.Option.{some}
use Rattle.std.proofs.Math.ListN.{get_elem?}
use Rattle.laws.specs.Lists.{any, select, select_from, sort_by}
use Rattle.laws.specs.Lex.{lex_compare, is_less}
use Rattle.model.specs.Timestamp.{sum}
use Rattle.model.specs.Frame.{Frame}
use Rattle.model.specs.Order.{reading_of}
use Rattle.model.specs.Codec.{WriteAnswer}
use Rattle.model.specs.Schedule.{Schedule, steady, widening, limits_at, modulus_of}
use Rattle.model.specs.Wider.{frame_half, wider_decode, counts_down_by, wider_held_bytes}
use Rattle.model.specs.WiderCalls.{write_in}
use Rattle.model.specs.Run.{Node, sent_by, Call, Done, is_accepted, run_from, at_start, message_bytes, message_frame}
use Rattle.theory.specs.Premises.{largest_clock, none_stale}
use Rattle.theory.specs.Demand3.{covered_from, covered, is_from, heard_in, new_timestamp, written, Leads}
use Rattle.theory.specs.Changeover.{Changeover, along_all, Phase, wider_for, frozen_until, keeps_through, starts_through, fresh_through}

-- ---- what goes by a schedule of true clocks

-- 02: "A frame is due at sum + δ + ε if that lies before V, else at sum + δ' + ε'", in its words, and not by the tick's definitions
abbrev pub due_of_sum : Schedule → ℕ → ℕ
due_of_sum (steady s) total = total + s.delta + s.epsilon
due_of_sum (widening before after change) total =
    cond (ltb (total + before.delta + before.epsilon) change) (total + before.delta + before.epsilon) (total + after.delta + after.epsilon)

-- 02: "Frames due before V compare ε counts, all others ε' counts", likewise
abbrev pub counts_of_sum : Schedule → ℕ → ℕ
counts_of_sum (steady s) total = s.epsilon
counts_of_sum (widening before after change) total =
    cond (ltb (total + before.delta + before.epsilon) change) before.epsilon after.epsilon

-- of a message
unfoldable pub due_clock_along : Schedule → Done → ℕ
due_clock_along g m = due_of_sum g (sum m.clock (message_frame m).stamp.c)

-- 02, 2.2: handed out "at the first tick at or past its due clock"
unfoldable pub due_in_along : Schedule → ℕ → ℕ → Done → Bool
due_in_along g last v m = ltb last (due_clock_along g m) && leb (due_clock_along g m) v

-- 01: "the order of two stamps", each with its true clock; 02: by as many counts as frames of its sum compare
unfoldable pub message_key_along : Schedule → Done → List ℕ
message_key_along g m =
    let f : Frame = message_frame m in
    let total : ℕ = sum m.clock f.stamp.c in
    total ∷ (counts_down_by (counts_of_sum g total) (frame_half g f) f.stamp ++ (f.station ∷ m.clock ∷ []))

unfoldable pub earlier_along : Schedule → Done → Done → Bool
earlier_along g m m' = is_less (lex_compare (message_key_along g m) (message_key_along g m'))

-- 01: "the covered messages heard there so far (this call too) that are due", each once, in the call that moves the clock from `last` to v
unfoldable pub due_here_along : Schedule → ℕ → List Done → ℕ → ℕ → ℕ → List Done
due_here_along g from past node last v = select_from (λ k m. covered from m && (due_in_along g last v m && any (heard_in node k) past)) 0 past

-- 01: a handed-out frame "whose r, read near v, is at least T"; 02: v has "the limits of its own clock", and "both widths are read always"
unfoldable pub covered_along : Schedule → ℕ → ℕ → List ℕ → Bool
covered_along g from v bytes = leb (modulus_of g + from) (reading_of (limits_at g v) (v % modulus_of g) (wider_decode g bytes) + v)

-- the writer's answer for a call's sending; 02: "Stations before V write narrow frames, later ones wide"
abbrev pub written_along : Schedule → Done → WriteAnswer
written_along (steady s) d = written s d
written_along (widening before after change) d =
    write_in before (wider_for (record { before = before; after = after; change = change }) d.clock) d.own d.own (leb change d.clock)
    (new_timestamp before d) d.call.payload d.call.outgoing

-- ---- the promises

-- what demand 3 promises of a list of calls that have been made, by a schedule, of the messages covered from a clock on. With a steady one it
-- is Promised, word for word
pub record PromisedAlong (g : Schedule) (from : ℕ) (past : List Done) : Type 0 where
  -- "From T on, an accepted call with a ticket to send sends the frame that the writer makes of its station, clock modulo B, new c and counts, and ticket."
  pub sending :
      (j : ℕ) (d : Done) → get_elem? past j ≡ some d → covered from d ≡ true
      → ((written_along g d).number ≡ 0) × (d.output.answer.sent ≡ (written_along g d).size) × (d.output.outgoing ≡ (written_along g d).buffer)
  -- "On each board, in order of calls and entries, a covered message gets verdict 0 at its first hearing, 16 at each later one."
  pub hearing :
      (j : ℕ) (d : Done) → get_elem? past j ≡ some d → is_accepted d.output ≡ true
      → (e k : ℕ) (m : Done) → get_elem? d.call.sources e ≡ some (sent_by k) → get_elem? past k ≡ some m → covered from m ≡ true
      → get_or d.output.verdicts e 0
      ≡ cond (any (heard_in d.node k) (take j past) || any (is_from k) (take e d.call.sources)) 16 0
  -- "In each accepted call for v, the handed-out frames whose r, read near v, is at least T are byte for byte the covered messages
  -- heard there so far (this call too) that are due at v, each once, in the order of two stamps." 02, 2.2: that are due past the clock
  -- before this call and not past v
  pub delivering :
      (j : ℕ) (d : Done) → get_elem? past j ≡ some d → is_accepted d.output ≡ true
      → select (covered_along g from d.clock) (wider_held_bytes g d.output.delivery)
      ≡ map message_bytes (sort_by (earlier_along g) (due_here_along g from (take (j + 1) past) d.node d.last d.clock))
  -- "A sending could have known of each message whose call leads to its own; where both are covered, that message comes first in the order of two stamps."
  pub causality :
      (i j : ℕ) (a b : Done) → Leads past i j → get_elem? past i ≡ some a → get_elem? past j ≡ some b
      → covered from a ≡ true → covered from b ≡ true → earlier_along g a b ≡ true

-- ---- the two statements

-- 02: "the wider pair then stands for ε and δ in every bound on X": T is X + δ' + 3ε'
unfoldable pub covered_through : Changeover → ℕ → ℕ
covered_through y x = covered_from y.after x

-- 02: "In the recovery statement and its premises the wider pair then stands for ε and δ in every bound on X, and no station goes between a plain
-- setup and both pairs from the start until its last clock is past X + 2δ' + 3ε'"
abbrev pub Demand3Through : Type 0
Demand3Through =
    (y : Changeover) (nodes : List Node) (phases : List Phase) (calls : List Call) → starts_through y phases nodes ≡ true
    → keeps_through y (largest_clock nodes) (frozen_until y (largest_clock nodes)) phases (at_start nodes) calls ≡ true
    → PromisedAlong (along_all y) (covered_through y (largest_clock nodes)) (run_from (at_start nodes) calls).past

-- and of every message from a fresh start, where a station may change its setup from its first call on
abbrev pub Demand3FreshThrough : Type 0
Demand3FreshThrough =
    (y : Changeover) (nodes : List Node) (phases : List Phase) (calls : List Call) → starts_through y phases nodes ≡ true → fresh_through y nodes ≡ true
    → keeps_through y (largest_clock nodes) 0 phases (at_start nodes) calls ≡ true → none_stale (run_from (at_start nodes) calls).past ≡ true
    → PromisedAlong (along_all y) 0 (run_from (at_start nodes) calls).past
