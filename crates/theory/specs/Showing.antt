-- 02, 2.14, "Far enough apart, and soon enough": when a board shows what, over demand 3.
use Rattle.std.specs.Prelude.{ℕ, ◌+◌, ◌*◌, ◌-◌, ◌≤◌, ◌<◌, ◌≡◌, Bool, true, ◌&&◌, ◌||◌, not, ◌⊎◌, List, map, leb, eqb, take}
use Rattle.std.proofs.Math.Option.{some}
use Rattle.std.proofs.Math.ListN.{get_elem?}
use Rattle.laws.specs.Lists.{every, any, select, sort_by}
use Rattle.model.specs.Setup.{Setup}
use Rattle.model.specs.Schedule.{Schedule, steady, widest_of}
use Rattle.model.specs.Wider.{wider_held_bytes}
use Rattle.model.specs.Run.{Node, Call, Done, World, is_accepted, run_from, at_start, message_bytes}
use Rattle.theory.specs.Premises.{good_start, largest_clock, clock_at, keeps, all_fresh, none_stale}
use Rattle.theory.specs.Demand3.{covered_from, covered, heard_in}
use Rattle.theory.specs.Changeover.{Changeover, along_all, Phase, frozen_until, keeps_through, starts_through, fresh_through}
use Rattle.theory.specs.Through.{earlier_along, due_here_along, covered_along, covered_through}

-- the covered messages that the call at position j hands out, in their order
unfoldable pub shown_by : Schedule → ℕ → List Done → ℕ → Done → List Done
shown_by g from past j d = sort_by (earlier_along g) (due_here_along g from (take (j + 1) past) d.node d.last d.clock)

-- these are what it hands out: the covered frames in its hand-out are theirs, byte for byte and in this order, as demand 3 has it
abbrev pub Delivers : Schedule → ℕ → List Done → Type 0
Delivers g from past =
    (j : ℕ) (d : Done) → get_elem? past j ≡ some d → is_accepted d.output ≡ true
    → select (covered_along g from d.clock) (wider_held_bytes g d.output.delivery) ≡ map message_bytes (shown_by g from past j d)

-- a board hands out a message in the accepted call at position j, at place p of the covered ones that this call hands out
pub record ShownAt (g : Schedule) (from : ℕ) (past : List Done) (node : ℕ) (m : Done) (j : ℕ) (d : Done) (p : ℕ) : Type 0 where
  pub at : get_elem? past j ≡ some d
  pub accepted : is_accepted d.output ≡ true
  pub board : d.node ≡ node
  pub place : get_elem? (shown_by g from past j d) p ≡ some m

-- in an earlier call than the one at position j, or at an earlier place than q of the same
pub record ShownBefore (g : Schedule) (from : ℕ) (past : List Done) (node : ℕ) (m : Done) (j q : ℕ) : Type 0 where
  pub call : ℕ
  pub done : Done
  pub place : ℕ
  pub shown : ShownAt g from past node m call done place
  pub first : (call < j) ⊎ ((call ≡ j) × (place < q))

-- 02: "a message whose sending clock is at least ε below another's is handed out first on every board that hears both and hands out the other, cause or
-- no cause"; "Under 2.10 use the wider pair in both"
abbrev pub FarApart : Schedule → ℕ → List Done → Type 0
FarApart g from past =
    (node k : ℕ) (m m' : Done) → get_elem? past k ≡ some m → covered from m ≡ true → any (heard_in node k) past ≡ true
    → m.clock + (widest_of g).epsilon ≤ m'.clock → (j : ℕ) (d : Done) (q : ℕ) → ShownAt g from past node m' j d q
    → ShownBefore g from past node m j q

-- 02: "where no step of that board is above s ticks"
unfoldable pub steps_up_to : ℕ → ℕ → List Done → Bool
steps_up_to node most past = every (λ d. not (is_accepted d.output && eqb d.node node) || leb d.call.step most) past

-- 02: "the sending clock + δ + 2ε"; "the second bound is s − 1 later"
unfoldable pub shown_until : Schedule → ℕ → Done → ℕ
shown_until g most m = m.clock + (widest_of g).delta + 2 * (widest_of g).epsilon + (most - 1)

-- a board hands out a message in a call for a clock before a bound
pub record ShownSooner (g : Schedule) (from : ℕ) (past : List Done) (node : ℕ) (m : Done) (bound : ℕ) : Type 0 where
  pub call : ℕ
  pub done : Done
  pub place : ℕ
  pub shown : ShownAt g from past node m call done place
  pub sooner : done.clock < bound

-- 02: "each one heard is handed out before the board's clock reaches" that
abbrev pub SoonEnough : Schedule → ℕ → World → Type 0
SoonEnough g from w =
    (node most k : ℕ) (m : Done) → steps_up_to node most w.past ≡ true → get_elem? w.past k ≡ some m → covered from m ≡ true
    → any (heard_in node k) w.past ≡ true → shown_until g most m ≤ clock_at (get_elem? w.nodes node)
    → ShownSooner g from w.past node m (shown_until g most m)

-- both, of the messages covered from a clock on, and that they speak of the very bytes of the hand-outs
pub record Showing (g : Schedule) (from : ℕ) (w : World) : Type 0 where
  pub delivering : Delivers g from w.past
  pub far : FarApart g from w.past
  pub soon : SoonEnough g from w

-- "For messages covered by the recovery statement", with one setup
abbrev pub Shows : Type 0
Shows =
    (s : Setup) (nodes : List Node) (calls : List Call) → good_start s nodes ≡ true
    → keeps s (largest_clock nodes) (at_start nodes) calls ≡ true
    → Showing (steady s) (covered_from s (largest_clock nodes)) (run_from (at_start nodes) calls)

-- of every message from a fresh start
abbrev pub ShowsFresh : Type 0
ShowsFresh =
    (s : Setup) (nodes : List Node) (calls : List Call) → good_start s nodes ≡ true → all_fresh s nodes ≡ true
    → keeps s (largest_clock nodes) (at_start nodes) calls ≡ true → none_stale (run_from (at_start nodes) calls).past ≡ true
    → Showing (steady s) 0 (run_from (at_start nodes) calls)

-- and both straight through V
abbrev pub ShowsThrough : Type 0
ShowsThrough =
    (y : Changeover) (nodes : List Node) (phases : List Phase) (calls : List Call) → starts_through y phases nodes ≡ true
    → keeps_through y (largest_clock nodes) (frozen_until y (largest_clock nodes)) phases (at_start nodes) calls ≡ true
    → Showing (along_all y) (covered_through y (largest_clock nodes)) (run_from (at_start nodes) calls)

abbrev pub ShowsFreshThrough : Type 0
ShowsFreshThrough =
    (y : Changeover) (nodes : List Node) (phases : List Phase) (calls : List Call) → starts_through y phases nodes ≡ true → fresh_through y nodes ≡ true
    → keeps_through y (largest_clock nodes) 0 phases (at_start nodes) calls ≡ true → none_stale (run_from (at_start nodes) calls).past ≡ true
    → Showing (along_all y) 0 (run_from (at_start nodes) calls)
