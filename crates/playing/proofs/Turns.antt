-- A tick played: cut, refused, or accepted with its lines. Assumes nothing.
use Prim.Native.Nat.{ℕ, zero, suc, ◌+◌, ◌≤◌}
use native.Mathlib.Omega.{arith}
use mathlib.Core.Path.{◌≡◌, refl, sym, ap, ◌∙◌}
use mathlib.Core.Bool.{Bool, true}
use mathlib.Core.List.{List, ◌++◌}
use lib.Dec.{leb}
use lib.ListN.{length, drop, replicate, length-append}
use native.Mathlib.Nat.{zero-add}
use borrow.Author.Tests.{le-leb}
use Rattle.laws.specs.Lists.{overlay}
use Rattle.splice.specs.Bytes.{pasted}
use Rattle.laws.proofs.Numbers.{and_left}
use Rattle.model.specs.Setup.{verdict_length, in_limits, is_member}
use Rattle.model.specs.Timestamp.{Timestamp}
use Rattle.model.specs.Question.{first_no}
use Rattle.model.specs.Tick.{Input, Output, holdback_size, call_questions, refusal, sent_bytes, tick}
use Rattle.lemmas.proofs.OneTick.{tick-by, Accepted, passes-questions, accepted-call, outgoing-is, sent_is}
use Rattle.trace.specs.Views.{Given}
use Rattle.trace.specs.Text.{tick_lines, lines_of, text_written, text_end}
use Rattle.trace.specs.Trace.{NodeSetup, clock_of, send_of, batch_of, payload_of, tick_number}
use Rattle.trace.specs.Replay.{Turn, call_of, text_by, called_turn, not_called, turn_by, turn, tables_at, turn_at}
use Rattle.playing.specs.Playing.{Ready, Result, result_by, text_room, among, run_numbers}
use Rattle.playing.proofs.Fits.{Figured, lines_fit, delivered-pass}
use Rattle.playing.proofs.Refusals.{answer-number, turn-among}

-- the arguments of the call, read from the bytes
pub call-is : (s : NodeSetup) (tables : Timestamp) (holdback bytes : List ℕ) {clock : ℕ} {send : Bool} {batch payload : List ℕ}
    → clock ≡ clock_of bytes → send ≡ send_of bytes → batch ≡ batch_of bytes → payload ≡ payload_of bytes
    → record {
      setup = s.setup;
      own = s.own;
      clock = clock;
      tables = tables;
      holdback = holdback;
      batch = batch;
      send = send;
      payload = payload;
      outgoing = replicate 71 0;
      verdicts = replicate 255 0;
      delivery = replicate 65536 0;
    }
    ≡ call_of s tables holdback bytes
unfolding call_of
call-is s tables holdback bytes c d b p = rw (c, d, b, p)

module _ (s : NodeSetup) (tables : Timestamp) (holdback bytes text : List ℕ) where
  by_number : {k : ℕ} → k ≡ tick_number bytes → turn_by k s tables holdback bytes ≡ turn s tables holdback bytes
  unfolding turn
  by_number e = ap (λ (m : ℕ). turn_by m s tables holdback bytes) e

  -- what a tick comes to that is refused
  abbrev unchanged : ℕ → List ℕ → Result
  unchanged number left =
      record {
        number = number;
        tables = tables;
        size = 0;
        sent = 0;
        outgoing = replicate 71 0;
        verdicts = replicate verdict_length 0;
        holdback = left;
        text = text;
      }

  as-refused : (number : ℕ) → unchanged number holdback ≡ result_by (not_called number tables holdback) text
  unfolding result_by overlay
  as-refused number = refl

  -- bytes that are not one tick
  pub turn-cut : (number : ℕ) → number ≡ tick_number bytes → (number ≡ 0 → ⊥) → unchanged number holdback ≡ result_by (turn s tables holdback bytes) text
  turn-cut zero e h = absurd (h refl)
  turn-cut (suc k) e h = as-refused (suc k) ∙ ap (λ (t : Turn). result_by t text) (by_number e)

  called : (number : ℕ) (o : Output) → o ≡ tick (call_of s tables holdback bytes) → o.answer.number ≡ number
      → record {
        number = number;
        tables = o.answer.tables;
        holdback = o.holdback;
        sent = o.answer.sent;
        outgoing = o.outgoing;
        verdicts = o.verdicts;
        text = text_by number (lines_of (call_of s tables holdback bytes) o);
      }
      ≡ called_turn s tables holdback bytes
  unfolding called_turn
  called number o same e = rw (← e, same)

  -- a refused call
  pub turn-refused : (o : Output) → 0 ≡ tick_number bytes → o ≡ tick (call_of s tables holdback bytes) → (o.answer.number ≡ 0 → ⊥)
      → unchanged o.answer.number o.holdback ≡ result_by (turn s tables holdback bytes) text
  unfolding call_of refusal
  turn-refused o e same h = go (first_no (call_questions i)) refl
    where
      i : Input
      i = call_of s tables holdback bytes

      go : (k : ℕ) → first_no (call_questions i) ≡ k → unchanged o.answer.number o.holdback ≡ result_by (turn s tables holdback bytes) text
      go zero f = absurd (h (ap (λ (x : Output). x.answer.number) same ∙ answer-number i ∙ f))
      go (suc k) f =
          let as-found : o ≡ refusal i (suc k) = same ∙ tick-by i (suc k) f in
          ap (λ (x : Output). unchanged x.answer.number x.holdback) as-found
          ∙ (as-refused (suc k) ∙ ap (λ (t : Turn). result_by t text) (called (suc k) (refusal i (suc k)) (sym as-found ∙ same) refl ∙ by_number e))

  -- what the lines of an accepted one ask
  pub turn-given : (o : Output) (clock : ℕ) → Ready s → o ≡ tick (call_of s tables holdback bytes) → o.answer.number ≡ 0 → clock ≡ clock_of bytes
      → Given s.setup clock o.delivery
  unfolding call_of
  turn-given o clock ready same number clock-is =
      let i : Input = call_of s tables holdback bytes in
      let a : Accepted i = accepted-call i (ap (λ (x : Output). x.answer.number) (sym same) ∙ number) in
      record {
        limits = and_left (in_limits s.setup) (is_member s.setup s.own) ready.valid;
        below = rw clock-is a.clock-below;
        frames = rw same (delivered-pass i a);
      }

  -- an accepted one
  pub turn-played : (o : Output) (clock : ℕ) {size : ℕ} {lines : List ℕ} → Ready s → text_room ≤ length text → 0 ≡ tick_number bytes
      → o ≡ tick (call_of s tables holdback bytes) → o.answer.number ≡ 0 → clock ≡ clock_of bytes → Figured clock o.answer
      → size ≡ text_end text 0 (tick_lines clock o.answer.repair o.answer.tables.c o.answer.taken o.answer.sent o.answer.delivered s.setup o.delivery)
      → lines ≡ text_written text 0 (tick_lines clock o.answer.repair o.answer.tables.c o.answer.taken o.answer.sent o.answer.delivered s.setup o.delivery)
      → record {
        number = 0;
        tables = o.answer.tables;
        size = size;
        sent = o.answer.sent;
        outgoing = o.outgoing;
        verdicts = o.verdicts;
        holdback = o.holdback;
        text = lines;
      }
      ≡ result_by (turn s tables holdback bytes) text
  unfolding result_by overlay text_written text_end pasted call_of lines_of
  turn-played o clock {size} {lines} ready room e same number clock-is small ends bytes-are =
      let i : Input = call_of s tables holdback bytes in
      let all : List ℕ = lines_of i o in
      let figures : Figured i.clock (tick i).answer = rw (← same, ← clock-is) small in
      let fits : length all ≤ text_room = rw same (lines_fit i (ap (λ (x : Output). x.answer.number) (sym same) ∙ number) figures) in
      let has_room : leb (0 + length all) (length text) ≡ true = le-leb (0 + length all) (length text) (omega arith) in
      let size_is : size ≡ length all = rw (clock-is, has_room) at ends ∙ zero-add (length all) in
      let lines_are : lines ≡ all ++ drop (length all) text = rw (clock-is, has_room) at bytes-are ∙ ap (λ (k : ℕ). all ++ drop k text) (zero-add (length all)) in
      rw (size_is, lines_are) (ap (λ (t : Turn). result_by t text) (called 0 o same number ∙ by_number e))

-- ---- what was played: what a caller can rely on

-- its lines stand in the text
pub result-within : (r : Result) (t : Turn) (text : List ℕ) → r ≡ result_by t text → r.size ≤ length r.text
unfolding result_by overlay
result-within r t text e =
    omega (arith, ap (λ (x : Result). x.size) e, ap (λ (x : Result). length x.text) e, length-append t.text (drop (length t.text) text))

-- it is refused with one of these numbers, or not
pub result-among : (i : ℕ) (r : Result) (s : NodeSetup) (tables : Timestamp) (holdback bytes text : List ℕ) → Ready s → length holdback ≡ holdback_size s.setup
    → r ≡ result_by (turn_at i s tables holdback bytes) text → among run_numbers r.number ≡ true
unfolding result_by turn_at
result-among i r s tables holdback bytes text ready size e =
    ap (λ (x : Result). among run_numbers x.number) e ∙ turn-among s (tables_at i s tables bytes) holdback bytes ready size

-- the frame that is sent stands in its buffer
call-sent : (i : Input) → (tick i).answer.sent ≤ length (tick i).outgoing
unfolding refusal overlay
call-sent i = go (first_no (call_questions i)) refl
  where
    go : (k : ℕ) → first_no (call_questions i) ≡ k → (tick i).answer.sent ≤ length (tick i).outgoing
    go zero f =
        let a : Accepted i = passes-questions i f in
        rw (sent_is i a, outgoing-is i a) (omega (arith, length-append (sent_bytes i) (drop (length (sent_bytes i)) i.outgoing)))
    go (suc k) f = rw (tick-by i (suc k) f) (omega arith)

pub turn-sent : (s : NodeSetup) (tables : Timestamp) (holdback bytes : List ℕ) → (turn s tables holdback bytes).sent ≤ length (turn s tables holdback bytes).outgoing
unfolding turn called_turn
turn-sent s tables holdback bytes = go (tick_number bytes)
  where
    go : (k : ℕ) → (turn_by k s tables holdback bytes).sent ≤ length (turn_by k s tables holdback bytes).outgoing
    go zero = call-sent (call_of s tables holdback bytes)
    go (suc k) = omega arith

pub result-sent : (i : ℕ) (r : Result) (s : NodeSetup) (tables : Timestamp) (holdback bytes text : List ℕ) → r ≡ result_by (turn_at i s tables holdback bytes) text
    → r.sent ≤ length r.outgoing
unfolding result_by turn_at
result-sent i r s tables holdback bytes text e = rw e (turn-sent s (tables_at i s tables bytes) holdback bytes)
