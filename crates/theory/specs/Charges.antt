-- 02, 2.11, over demand 3: two boards of a list of calls, stations' or observers', that heard the same covered messages hand them out in one order, and
-- from ledgers alike charge them alike.
use Rattle.std.specs.Prelude.{ℕ, ◌≡◌, Bool, true, ◌&&◌, cond, List, [], map, leb, eqb}
use Rattle.std.proofs.Math.Option.{some}
use Rattle.std.proofs.Math.ListN.{get_elem?}
use Rattle.laws.specs.Lists.{any, select, joined}
use Rattle.model.specs.Setup.{Setup}
use Rattle.model.specs.Frame.{decode}
use Rattle.model.specs.Holdback.{held_bytes}
use Rattle.model.specs.Ledger.{ledger_after, charges_of, told_of, Alike, total_call}
use Rattle.model.specs.Run.{Node, Call, Done, World, is_accepted, run_from, at_start}
use Rattle.theory.specs.Premises.{good_start, largest_clock, clock_at, keeps, all_fresh, none_stale}
use Rattle.theory.specs.Demand3.{covered_from, covered, heard_in, due_clock, covered_frame}

-- the covered frames that a call hands out
unfoldable pub shown_in : Setup → ℕ → Done → List (List ℕ)
shown_in s from d =
    cond (is_accepted d.output) (select (covered_frame s from d.clock) (held_bytes s.epsilon d.output.delivery)) []

-- those of one board, in the order of its calls
unfoldable pub shown_on : Setup → ℕ → ℕ → List Done → List (List ℕ)
shown_on s from node past = joined (λ d. cond (eqb d.node node) (shown_in s from d) []) past

-- their tickets
abbrev pub payloads_on : Setup → ℕ → ℕ → List Done → List (List ℕ)
payloads_on s from node past = map (λ bytes. (decode s.epsilon bytes).payload) (shown_on s from node past)

-- the message at position k was heard on that board, and its clock has come to the due clock
unfoldable pub heard_and_due : Setup → World → ℕ → ℕ → Done → Bool
heard_and_due s w node k m = leb (due_clock s m) (clock_at (get_elem? w.nodes node)) && any (heard_in node k) w.past

-- the two boards heard the same covered messages: those that have come due on either
abbrev pub SameHeard : Setup → ℕ → World → ℕ → ℕ → Type 0
SameHeard s from w a b =
    (k : ℕ) (m : Done) → get_elem? w.past k ≡ some m → covered from m ≡ true → heard_and_due s w a k m ≡ heard_and_due s w b k m

-- what two boards show and charge: the same frames, byte for byte, in the same order; and from two ledgers alike the same answers, ledgers that hold the
-- same, and the same totals
pub record ChargedAlike (s : Setup) (from : ℕ) (past : List Done) (a b rate : ℕ) (ours theirs : List ℕ) : Type 0 where
  pub shown : shown_on s from a past ≡ shown_on s from b past
  pub answers : map told_of (charges_of rate ours (payloads_on s from a past)) ≡ map told_of (charges_of rate theirs (payloads_on s from b past))
  pub ledgers : Alike (ledger_after rate ours (payloads_on s from a past)) (ledger_after rate theirs (payloads_on s from b past))
  pub totals :
      (grower : ℕ) → total_call grower (ledger_after rate ours (payloads_on s from a past)) ≡ total_call grower (ledger_after rate theirs (payloads_on s from b past))

-- of any two boards of a list, at any rate
abbrev pub AllChargedAlike : Setup → ℕ → World → Type 0
AllChargedAlike s from w =
    (a b rate : ℕ) (ours theirs : List ℕ) → SameHeard s from w a b → Alike ours theirs → ChargedAlike s from w.past a b rate ours theirs

-- from any state of all memories
abbrev pub Charges : Type 0
Charges =
    (s : Setup) (nodes : List Node) (calls : List Call) → good_start s nodes ≡ true
    → keeps s (largest_clock nodes) (at_start nodes) calls ≡ true
    → AllChargedAlike s (covered_from s (largest_clock nodes)) (run_from (at_start nodes) calls)

-- and of every message from a fresh start
abbrev pub ChargesFresh : Type 0
ChargesFresh =
    (s : Setup) (nodes : List Node) (calls : List Call) → good_start s nodes ≡ true → all_fresh s nodes ≡ true
    → keeps s (largest_clock nodes) (at_start nodes) calls ≡ true → none_stale (run_from (at_start nodes) calls).past ≡ true
    → AllChargedAlike s 0 (run_from (at_start nodes) calls)
