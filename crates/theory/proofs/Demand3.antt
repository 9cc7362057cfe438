-- Demand 3: stabilization from any state; and the same of every message from a fresh start.
-- Assumes nothing.
use Prim.Native.Nat.{Ordering}
use Prim.Native.Nat.{ℕ, ◌+◌, ◌*◌, ◌≤◌, ◌<◌}
use native.Mathlib.Omega.{arith}
use native.Mathlib.Numerals.{add-one}
use mathlib.Core.Path.{◌≡◌, refl, sym, ap, subst, ◌∙◌}
use mathlib.Core.Logic.{◌⊎◌, inl, inr}
use mathlib.Core.Bool.{true, false, ◌||◌, cond}
use mathlib.Core.List.{List, [], ◌∷◌, ◌++◌, map}
use mathlib.Core.Option.{some}
use lib.ListN.{take, get_or, get_elem?}
use lib.Seq.{take-suc}
use Rattle.laws.specs.Lists.{any, select, sort_by}
use Rattle.laws.proofs.Numbers.{and_left, and_right}
use Rattle.laws.proofs.Lists.{get_elem?-lt, get_elem?-get_or}
use Rattle.laws.proofs.Lex.{lt-is_less}
use Rattle.model.specs.Schedule.{Schedule, steady}
use Rattle.model.specs.Wider.{wider_held_bytes}
use Rattle.laws.specs.Lex.{lex_compare}
use Rattle.model.specs.Setup.{Setup}
use Rattle.model.specs.Run.{Node, sent_by, Call, Done, World, done_of, act, is_accepted, output_of, run_from, at_start, is_event, message_bytes}
use Rattle.theory.specs.Premises.{good_start, largest_clock, stale_until, keeps, allowed, all_fresh, none_stale}
use Rattle.theory.specs.Demand3.{covered_from, covered, is_from, heard_in, Promised, Demand3, Demand3Fresh}
use Rattle.theory.specs.Through.{earlier_along, due_here_along, covered_along, PromisedAlong}
use Rattle.theory.proofs.HearLoop.{Settles, covered-sends}
use Rattle.theory.proofs.World.{sends-event, event-accepted, CallEvent, Good, AllKept, AllKinds, event_key, heard_at}
use Rattle.lemmas.proofs.Schedules.{Good as GoodSchedule}
use Rattle.theory.proofs.Along.{key-along, steady-along}
use Rattle.theory.proofs.Writing.{written-along}
use Rattle.theory.proofs.Plain.{PlainLegal}
use Rattle.theory.proofs.Stabilize.{Allowed, Legals, run-all}
use Rattle.theory.proofs.Start.{group-start, good_start_lem, largest-clock, allowed-fact}
use Rattle.theory.proofs.Fresh.{settles-fresh, fresh-plain, legal-fresh, none-stale-before, last-sent}
use Rattle.theory.proofs.Chains.{in_take, below-take, leads-less}

-- the clock from which counts are right
unfoldable pub right_from : Setup → ℕ → ℕ
right_from s x = x + s.delta + 2 * s.epsilon

settles : (s : Setup) (x : ℕ) → Settles (steady s) (right_from s x) (covered_from s x)
unfolding right_from covered_from
settles s x = (omega arith, λ v R h k. omega arith)

early : (s : Setup) (x v : ℕ) → v ≤ stale_until s x → v + s.epsilon ≤ right_from s x
unfolding stale_until right_from
early s x v h = omega arith

starts : (s : Setup) (nodes : List Node) → good_start s nodes ≡ true → Good (steady s) (right_from s (largest_clock nodes)) (covered_from s (largest_clock nodes)) (at_start nodes)
unfolding right_from covered_from
starts s nodes h =
    good_start_lem (steady s) (right_from s (largest_clock nodes)) (covered_from s (largest_clock nodes)) nodes (group-start s nodes h)
    (λ i node at. omega (arith, largest-clock nodes i node at))

-- a call that is allowed, with one setup
abbrev AllowedPlain : Setup → ℕ → World → Call → Type 0
AllowedPlain s floor w call =
    (node : Node) × (get_elem? w.nodes call.node ≡ some node)
    × ((is_accepted (output_of node call) ≡ false) ⊎ PlainLegal s floor w call node (done_of node call).clock)

legals : (s : Setup) (x : ℕ) (calls : List Call) (w : World) → keeps s x w calls ≡ true → Legals (steady s) (right_from s x) (covered_from s x) (settles s x) w calls
unfolding keeps Legals
legals s x [] w h = tt
legals s x (call ∷ calls) w h = (
  one (allowed-fact s x (right_from s x) w call (early s x) (and_left (allowed s x w call) (keeps s x (act w call) calls) h)),
  legals s x calls (act w call) (and_right (allowed s x w call) (keeps s x (act w call) calls) h),
)
  where
    one : AllowedPlain s (right_from s x) w call → Allowed (steady s) (right_from s x) (covered_from s x) (settles s x) w call
    one (node, at, inl refused) = (node, at, inl refused)
    one (node, at, inr legal) = (node, at, inr (steady s, node, legal.along))

-- without older frames no call is left out
legals-fresh :
    (s : Setup) (x : ℕ) (calls : List Call) (w : World) → keeps s x w calls ≡ true → none_stale (run_from w calls).past ≡ true
    → Legals (steady s) 0 0 (settles-fresh (steady s)) w calls
unfolding keeps run_from Legals
legals-fresh s x [] w h none_old = tt
legals-fresh s x (call ∷ calls) w h none_old = (
  one (allowed-fact s x (right_from s x) w call (early s x) (and_left (allowed s x w call) (keeps s x (act w call) calls) h)),
  legals-fresh s x calls (act w call) (and_right (allowed s x w call) (keeps s x (act w call) calls) h) none_old,
)
  where
    one : AllowedPlain s (right_from s x) w call → Allowed (steady s) 0 0 (settles-fresh (steady s)) w call
    one (node, at, inl refused) = (node, at, inl refused)
    one (node, at, inr legal) = (
      node,
      at,
      inr (
        steady s,
        node,
        legal-fresh (steady s) (steady s) (right_from s x) w call node node (done_of node call).clock legal.along (inr (λ memory explained f m. refl))
            (last-sent w call node at legal.called.accepted (none-stale-before calls (act w call) none_old)),
      ),
    )

-- the promises of all accepted calls are demand 3's, along the schedule
module _ (g : Schedule) (from : ℕ) (nodes : List Node) (past : List Done) (kept : AllKept g from past) (kinds : AllKinds nodes past) where
  covered-event : (m : Done) → covered from m ≡ true → is_event m ≡ true
  covered-event m h = sends-event m (covered-sends from m h)

  keep : (j : ℕ) (d : Done) → get_elem? past j ≡ some d → covered from d ≡ true → CallEvent g d
  keep j d at h = (kept j d at (event-accepted d (covered-event d h))).event (covered-event d h)

  hears :
      (j : ℕ) (d : Done) → get_elem? past j ≡ some d → is_accepted d.output ≡ true
      → (e k : ℕ) (m : Done) → get_elem? d.call.sources e ≡ some (sent_by k) → get_elem? past k ≡ some m → covered from m ≡ true
      → get_or d.output.verdicts e 0
      ≡ cond (any (heard_in d.node k) (take j past) || any (is_from k) (take e d.call.sources)) 16 0
  unfolding heard_at
  hears j d at acc e k m o-at m-at h =
      let r = (kept j d at acc).sent-before e k o-at in
      (kept j d at acc).hearing e k m o-at (in_take j past k (below-take j past k r.1) m-at) h

  delivers :
      (j : ℕ) (d : Done) → get_elem? past j ≡ some d → is_accepted d.output ≡ true
      → select (covered_along g from d.clock) (wider_held_bytes g d.output.delivery)
      ≡ map message_bytes (sort_by (earlier_along g) (due_here_along g from (take (j + 1) past) d.node d.last d.clock))
  delivers j d at acc =
      subst (λ (l : List Done). select (covered_along g from d.clock) (wider_held_bytes g d.output.delivery) ≡ map message_bytes (sort_by (earlier_along g) (due_here_along g from l d.node d.last d.clock)))
      (sym more) (kept j d at acc).delivering
    where
      more : take (j + 1) past ≡ take j past ++ (d ∷ [])
      more =
          rw add-one (take-suc past j d (get_elem?-lt past j at) ∙ ap (λ (y : Done). take j past ++ (y ∷ [])) (get_elem?-get_or past j d at))

  comes : (a b : Done) (i j : ℕ) → get_elem? past i ≡ some a → get_elem? past j ≡ some b → covered from a ≡ true → covered from b ≡ true
      → lex_compare (event_key g a) (event_key g b) ≡ Ordering.lt → earlier_along g a b ≡ true
  unfolding earlier_along event_key
  comes a b i j p q ha hb l =
      rw (key-along g a, key-along g b, (keep i a p ha).message (covered-sends from a ha), (keep j b q hb).message (covered-sends from b hb)) (lt-is_less l)

  promises : ((j : ℕ) (d : Done) → get_elem? past j ≡ some d → is_event d ≡ true → GoodSchedule g) → PromisedAlong g from past
  promises good =
      record {
        sending = λ j d at h.
            let ev = keep j d at h in
            let sent = covered-sends from d h in
            rw (written-along g (good j d at (covered-event d h)) d ev sent) (ev.writer sent);
        hearing = hears;
        delivering = delivers;
        causality = λ i j a b l p q ha hb.
            comes a b i j p q ha hb (leads-less g from nodes past kept kinds i j a b l p q (covered-event a ha) (covered-event b hb));
      }

-- a list of calls that keeps the premises, from a start that is good
pub record Runs (g : Schedule) (floor from : ℕ) (nodes : List Node) (calls : List Call) : Type 0 where
  pub right : Settles g floor from
  pub start : Good g floor from (at_start nodes)
  pub legal : Legals g floor from right (at_start nodes) calls

pub none_kept : (g : Schedule) (from : ℕ) (nodes : List Node) → AllKept g from (at_start nodes).past
unfolding at_start
none_kept g from nodes j d e = absurd (let z : j < 0 = get_elem?-lt [] j e in omega arith)

pub run-promises :
    (g : Schedule) (floor from : ℕ) (nodes : List Node) (calls : List Call) → Runs g floor from nodes calls → PromisedAlong g from (run_from (at_start nodes) calls).past
run-promises g floor from nodes calls runs =
    let r = run-all g floor from runs.right calls (at_start nodes) runs.start (none_kept g from nodes) runs.legal in
    promises g from (run_from (at_start nodes) calls).nodes (run_from (at_start nodes) calls).past r.1 r.0.kinds
    (λ j d at made. let mk = (r.0.calls j d at made).maker in r.0.group.limits d.node mk.node mk.at)

-- with one setup
run-plain : (s : Setup) (floor from : ℕ) (nodes : List Node) (calls : List Call) → Runs (steady s) floor from nodes calls → Promised s from (run_from (at_start nodes) calls).past
run-plain s floor from nodes calls runs =
    steady-along s from (run_from (at_start nodes) calls).past (run-promises (steady s) floor from nodes calls runs)

pub runs-plain :
    (s : Setup) (nodes : List Node) (calls : List Call) → good_start s nodes ≡ true → keeps s (largest_clock nodes) (at_start nodes) calls ≡ true
    → Runs (steady s) (right_from s (largest_clock nodes)) (covered_from s (largest_clock nodes)) nodes calls
runs-plain s nodes calls start kept =
    record { right = settles s (largest_clock nodes); start = starts s nodes start; legal = legals s (largest_clock nodes) calls (at_start nodes) kept }

pub runs-fresh :
    (s : Setup) (nodes : List Node) (calls : List Call) → good_start s nodes ≡ true → all_fresh s nodes ≡ true
    → keeps s (largest_clock nodes) (at_start nodes) calls ≡ true → none_stale (run_from (at_start nodes) calls).past ≡ true → Runs (steady s) 0 0 nodes calls
runs-fresh s nodes calls start fresh kept none_old =
    record {
      right = settles-fresh (steady s);
      start = fresh-plain s nodes start fresh;
      legal = legals-fresh s (largest_clock nodes) calls (at_start nodes) kept none_old;
    }

pub demand3 : Demand3
demand3 s nodes calls start kept =
    run-plain s (right_from s (largest_clock nodes)) (covered_from s (largest_clock nodes)) nodes calls (runs-plain s nodes calls start kept)

pub demand3-fresh : Demand3Fresh
demand3-fresh s nodes calls start fresh kept none_old = run-plain s 0 0 nodes calls (runs-fresh s nodes calls start fresh kept none_old)
