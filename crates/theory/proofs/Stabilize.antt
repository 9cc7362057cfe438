-- Every list of calls: the invariant holds all along, and every accepted call keeps its promises.
-- Assumes nothing.
use Prim.Native.Nat.{ℕ, ◌<◌}
use native.Mathlib.Omega.{arith}
use mathlib.Core.Path.{◌≡◌, sym, ap, subst, ◌∙◌}
use mathlib.Core.Logic.{◌⊎◌, inl, inr}
use mathlib.Core.Bool.{true, false}
use mathlib.Core.List.{List, [], ◌∷◌, ◌++◌}
use mathlib.Core.Option.{some}
use lib.ListN.{length, take, get_elem?}
use lib.Seq.{take-append-le, take-append_seam}
use Rattle.laws.proofs.Numbers.{clash}
use Rattle.laws.proofs.Lists.{get_elem?-lt, get_elem?-snoc-cases}
use Rattle.model.specs.Schedule.{Schedule}
use Rattle.model.specs.Run.{Node, Call, Done, World, is_accepted, output_of, done_of, act, run_from}
use Rattle.theory.proofs.HearLoop.{Settles}
use Rattle.theory.proofs.World.{Good, Legal, Kept, AllKept, act-is}
use Rattle.theory.proofs.Refused.{refused-good}
use Rattle.theory.proofs.Promises.{ends}
use Rattle.theory.proofs.Invariant.{step-good}

-- the promises of the calls so far stay
kept-snoc :
    (g : Schedule) (from : ℕ) (past : List Done) (d : Done) → AllKept g from past → (is_accepted d.output ≡ true → Kept g from past d)
    → AllKept g from (past ++ (d ∷ []))
kept-snoc g from past d kept new j e at acc =
    elim (get_elem?-snoc-cases past d j at) [
      | inl q ↦
          let h : j < length past = get_elem?-lt past j q in
          subst (λ (x : List Done). Kept g from x e) (sym (take-append-le j past (d ∷ []) (omega arith))) (kept j e q acc)
      | inr q ↦
          subst (λ (x : ℕ). Kept g from (take x (past ++ (d ∷ []))) e) (sym q.0)
          (subst (λ (x : List Done). Kept g from x e) (sym (take-append_seam past (d ∷ [])))
          (subst (Kept g from past) (sym q.1) (new (ap (λ (x : Done). is_accepted x.output) (sym q.1) ∙ acc))))
    ]

module _ (g : Schedule) (floor from : ℕ) (settles : Settles g floor from) where
  -- a call that is allowed
  abbrev pub Allowed : World → Call → Type 0
  Allowed w call =
      (node : Node) × (get_elem? w.nodes call.node ≡ some node)
      × ((is_accepted (output_of node call) ≡ false) ⊎ ((l : Schedule) × (found : Node) × Legal g l floor w call node found (done_of node call).clock))

  pub step-all : (w : World) (call : Call) → Good g floor from w → AllKept g from w.past → Allowed w call → Good g floor from (act w call) × AllKept g from (act w call).past
  step-all w call good kept (node, at, inl refused) = (
    refused-good g floor from w call node good at refused,
    subst (λ (u : World). AllKept g from u.past) (sym (act-is w call node at))
        (kept-snoc g from w.past (done_of node call) kept (λ acc. absurd (clash acc (unfold done_of in refused)))),
  )
  step-all w call good kept (node, at, inr (l, found, legal)) = (
    step-good g l floor from w call node found (done_of node call).clock good legal (ends g l floor from settles w call node found (done_of node call).clock good legal),
    subst (λ (u : World). AllKept g from u.past) (sym (act-is w call node at))
        (kept-snoc g from w.past (done_of node call) kept (λ acc. (ends g l floor from settles w call node found (done_of node call).clock good legal).kept)),
  )

  -- all calls of a list
  unfoldable pub Legals : World → List Call → Type 0
  Legals w [] = Unit
  Legals w (call ∷ calls) = Allowed w call × Legals (act w call) calls

  pub run-all : (calls : List Call) (w : World) → Good g floor from w → AllKept g from w.past → Legals w calls → Good g floor from (run_from w calls) × AllKept g from (run_from w calls).past
  unfolding run_from Legals
  run-all [] w good kept legals = (good, kept)
  run-all (call ∷ calls) w good kept legals =
      let r = step-all w call good kept legals.0 in
      run-all calls (act w call) r.0 r.1 legals.1
